pub mod ShelfLaws
pub mod LineLaws
pub mod ReadLaws
mod CappedNumber
mod FieldsOf
mod NumberOf
mod Positions
mod Prefixes
mod ReadPiece
mod ShowsNoLimit
mod Stored
mod Takes
mod TellsLine
mod WithinARead

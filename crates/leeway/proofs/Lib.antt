mod LatestArrivals
mod OverNumbers
mod InEllipses
pub mod LeewayLaws

mod AtStage
mod Close
mod DealSteps
mod EntriesOf
mod IsSeated
mod JoinSteps
mod SeatViews
mod TurnSteps

mod Activating
mod Advanced
mod Advancing
mod Agreeing
mod Alone
mod Boarding
mod Carry
mod Closing
mod Concluding
pub mod Counts
pub mod Crossing
mod Endings
mod Finished
mod Finishing
mod Gathered
mod Grown
mod Histories
mod Idle
mod Ids
mod Importing
mod Indexing
pub mod Later
mod Listing
mod Marking
mod Meeting
mod Noting
mod OneEnd
mod Onward
pub mod Own
mod Refused
mod Runs
mod Shown
mod Sounds
mod Standby
mod Standing
mod Stepping
mod Taking
mod Tells
mod Trees
mod Undoing

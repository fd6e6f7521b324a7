mod Asked
mod BuildTelling
mod Building
mod Bytes
mod Counted
mod CountedBuild
pub mod Filed
mod IdRows
mod IdsTelling
mod Joining
mod KnownWrites
mod Lines
mod Merging
mod Names
pub mod OneText
mod Paths
mod Programs
mod RunTelling
mod Runs
mod SameAnswers
mod Settled
mod Settling
mod Showing
pub mod SomeText
mod Standings
mod Taken
mod Telling
mod Tested
mod Unbuilt
mod Utf8
mod Writing

pub mod Commands
pub mod Representation
pub mod SameAnswers
pub mod Text
pub mod World

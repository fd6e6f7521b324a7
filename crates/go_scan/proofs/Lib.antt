mod CommentFronts
mod Digits
mod EscapeFronts
pub mod Fronts
mod Keys
pub mod KindsEqual
pub mod LiteralFronts
mod MarkFronts
mod NumberFronts
pub mod Rows
pub mod Runs
pub mod Spelled
mod Steps
mod WordFronts

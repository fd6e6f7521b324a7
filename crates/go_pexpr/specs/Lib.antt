pub mod Inside
pub mod Next
pub mod Reading
pub mod Reads
pub mod Taking
pub mod Tall
pub mod Turns

pub mod Checked
pub mod Names
pub mod Results

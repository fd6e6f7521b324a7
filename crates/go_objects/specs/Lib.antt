pub mod Numbers
pub mod Objects
pub mod Packages
pub mod Table
pub mod Views

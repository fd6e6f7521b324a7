pub mod Claims
pub mod Faults
pub mod Imports
pub mod Packages
pub mod Results
pub mod Typed
pub mod Views

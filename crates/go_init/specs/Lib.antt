pub mod Condensation
pub mod Nodes
pub mod Packages
pub mod Queues
pub mod Turns
pub mod Variables
pub mod Views

pub mod BuildPlan
pub mod Discovery
pub mod Node
pub mod Packages
pub mod Plan

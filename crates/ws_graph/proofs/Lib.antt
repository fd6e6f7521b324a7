mod Adding
mod Bounded
mod Built
mod Faults
pub mod Filed
mod First
mod Imported
mod InTurn
mod Inserted
pub mod Joint
mod Judging
mod KnownFiles
pub mod Leading
pub mod Linked
mod Mains
mod Named
mod Next
pub mod OneBuildPlan
pub mod OnePlan
mod Places
mod PlanFiles
pub mod RankedPlan
mod Reading
mod Searching
pub mod SomeBuildPlan
mod SomePlan
pub mod Sorted
mod Walking
pub mod Wholes
mod Within

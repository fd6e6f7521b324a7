mod BuiltTargets
mod CheckedPackages
pub mod Crossing
mod EndFates
mod Equal
mod GoodPackages
mod HeldIds
mod HeldImages
mod JoinedLists
mod LastPackage
pub mod Membership
pub mod Numbered
pub mod OneBuild
mod OpenedBoards
mod OpenedTargets
mod Opening
mod OrderedPackages
mod OwnBuilds
mod PartSteps
mod Picked
mod PlainPaths
mod PlanMakes
mod PlannedTargets
mod Plans
mod Removals
mod SameCounts
mod SameFiles
mod Searched
mod SettledReplicas
mod SeveralPlans
mod ShownPackages
pub mod SomeBuild
mod SourceTexts
mod Steps
mod TargetParts
mod TargetPieces
mod TargetSteps
mod WalkedParts
mod WellTyped

pub mod Ends
pub mod Follows
pub mod FollowsInside
pub mod Limits
pub mod Stands
pub mod Steps

pub mod Answers
mod Doing
mod First
pub mod Stored
mod Pick
pub mod Chains
pub mod Counts
pub mod Empty
pub mod Held
pub mod Lower
pub mod Push
pub mod Return
pub mod Unlink
pub mod Walked

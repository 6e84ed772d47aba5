pub mod Answer
pub mod Ends
pub mod Lists
pub mod Outcome
pub mod Step
pub mod Sums
pub mod Table
pub mod Turns

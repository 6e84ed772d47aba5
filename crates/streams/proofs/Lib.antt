pub mod Ahead
pub mod Cutting
pub mod Fetching
pub mod Ends

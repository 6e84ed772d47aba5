mod Busy
pub mod Lanes
mod Runs

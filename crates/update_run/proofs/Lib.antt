pub mod Lanes
mod Runs

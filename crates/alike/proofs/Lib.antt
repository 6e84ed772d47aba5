pub mod Calls
pub mod Like
pub mod Scans
pub mod Stages
pub mod Wound

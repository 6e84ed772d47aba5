pub mod Near
pub mod Region
pub mod Trials

pub mod Trials
pub mod Visit
pub mod Whole

pub mod Leads
pub mod Pigeon
pub mod StageFits

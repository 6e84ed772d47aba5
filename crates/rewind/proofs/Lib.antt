pub mod Refusals
pub mod Returns
pub mod Winding
pub mod Ways

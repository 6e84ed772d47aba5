pub mod Exact
pub mod Visits

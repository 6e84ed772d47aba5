mod Ends
mod Left
mod Found
mod Named
mod OfUpdates
mod OfQueries
mod Fresh
pub mod Runs
pub mod Steps
mod Wound
mod Nameless
mod NamelessUpdates

pub mod Updaters
pub mod Queries
pub mod Rest
mod Chunks
pub mod Stores

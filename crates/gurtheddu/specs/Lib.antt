pub mod Coded
pub mod Promise
pub mod Runs

pub mod Alike
pub mod Promise

pub mod Causes
pub mod Leaves
pub mod Promise
pub mod Rewind

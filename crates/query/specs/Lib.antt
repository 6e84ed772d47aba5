pub mod On
pub mod Promise
pub mod Scan

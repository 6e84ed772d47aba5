pub mod Asked
pub mod Claims
pub mod Rewinds
pub mod Still
pub mod Turns

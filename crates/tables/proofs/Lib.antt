pub mod Sized
pub mod Grid
pub mod Entries
pub mod Filling

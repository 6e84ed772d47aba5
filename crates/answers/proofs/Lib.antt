mod Chunks
pub mod Printing
pub mod Parts
pub mod Stores
pub mod Pages

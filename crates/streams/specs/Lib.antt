pub mod Lines
pub mod Next
pub mod Reading
pub mod Writing

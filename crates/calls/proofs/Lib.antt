pub mod Meet
pub mod Moves
pub mod Numbers
pub mod Tests
pub mod Lane
pub mod Runs
pub mod Sized

pub mod After
pub mod Draw
pub mod Entry

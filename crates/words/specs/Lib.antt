pub mod Map
pub mod Part
pub mod Words

pub mod All
pub mod Facts
pub mod Below

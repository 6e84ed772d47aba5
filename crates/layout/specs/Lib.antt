pub mod Place
pub mod Question

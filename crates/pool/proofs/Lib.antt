pub mod Answers
pub mod Laws
mod Refill
pub mod Refused

pub mod Call
pub mod Causes
pub mod Refusals
pub mod Run

pub mod Held
pub mod Ranks
pub mod Rounds
pub mod Still
pub mod Theorems

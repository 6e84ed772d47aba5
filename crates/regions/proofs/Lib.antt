pub mod Checks
pub mod Next
pub mod Points
pub mod Squares
pub mod Walk
pub mod Zero

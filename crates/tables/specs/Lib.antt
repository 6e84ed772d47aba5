pub mod Grid
pub mod Promise
pub mod Tables

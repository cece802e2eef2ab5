pub mod Facts
pub mod Numbers
pub mod Meaning
pub mod Grid
pub mod Records
pub mod Calls
pub mod Lawfulness

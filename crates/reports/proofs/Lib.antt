pub mod Adding
pub mod Telling
pub mod Writing
pub mod Judging

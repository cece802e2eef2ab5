pub mod Refusals
pub mod Lines
pub mod Report
pub mod FileSteps
pub mod Told
pub mod Tells
pub mod FileReport

pub mod Ledgers
pub mod Runs
pub mod Cuts
pub mod Acceptance
pub mod Taking
pub mod Failing
pub mod Bounds
pub mod Turns

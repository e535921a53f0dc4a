pub mod Examples
pub mod Isolation
pub mod MapExample

pub mod FlagBits
pub mod Arithmetic
pub mod Logic

pub mod Kinds
pub mod Stores
pub mod Writes
pub mod Bytes
pub mod Joins
pub mod Pages

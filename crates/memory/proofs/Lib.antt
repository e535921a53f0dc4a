pub mod Equal
pub mod ByteStores
pub mod Joins
pub mod Filling
pub mod Proofreading

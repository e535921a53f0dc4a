pub mod Numbers
pub mod Assembly

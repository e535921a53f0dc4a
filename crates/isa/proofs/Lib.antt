pub mod Numbering
pub mod WordsBack

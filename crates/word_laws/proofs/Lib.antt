pub mod AllWords

pub mod Reading
pub mod Labels
pub mod Numbers
pub mod Writing

pub mod Rewriting
pub mod Recounts

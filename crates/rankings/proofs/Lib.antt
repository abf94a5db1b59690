pub mod Derived
pub mod Firsts
pub mod Machine
pub mod Sizes

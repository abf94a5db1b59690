pub mod Shops
pub mod Worked

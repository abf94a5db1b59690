pub mod Choices
pub mod Start
pub mod Sweeps
pub mod Policies
pub mod Improvements
pub mod Keeping
pub mod Takings
pub mod Grades

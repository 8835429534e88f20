pub mod Flags
pub mod FoundTurns
pub mod Passing

pub mod Refusals
pub mod Steps
pub mod OneStep
pub mod OverRuns
pub mod ShutOut

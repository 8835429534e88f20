pub mod Flags
pub mod LiveRows
pub mod Frames

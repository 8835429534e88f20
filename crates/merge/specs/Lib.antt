pub mod Merge
pub mod Releasable

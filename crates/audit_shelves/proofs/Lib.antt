pub mod Flags
pub mod ShelfTurns

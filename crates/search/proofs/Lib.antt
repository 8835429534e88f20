pub mod Tests
pub mod FreeList
pub mod ToTry
pub mod Answered
pub mod InUse
pub mod Skipping
pub mod ShelfTurns

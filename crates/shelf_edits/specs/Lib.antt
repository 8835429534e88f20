pub mod ShelfEdits
pub mod State

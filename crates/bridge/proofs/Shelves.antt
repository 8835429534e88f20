-- Shelf split, shelf merges and init on the tables are those of the rules.
pub mod EmptyShelf
pub mod Fresh
pub mod MergeShelves
pub mod MergeNeighbours
pub mod NewRows
pub mod Split
pub mod FitShelf

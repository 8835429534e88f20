pub mod LooseIn
pub mod MergeItems

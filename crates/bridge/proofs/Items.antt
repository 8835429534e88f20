-- One shelf opened: the edits of the item table are those of the rules, and no stored sum wraps.
pub mod RowViews
pub mod SumsAndFreeLists
pub mod NoWrap
pub mod PoolRows
pub mod OpenShelf
pub mod MarkItem
pub mod Split
pub mod JoinNext
pub mod CloseShelf
pub mod ComposedEdits
pub mod GrantItem
pub mod WholeOrPart
pub mod MergeItems
pub mod MergesKeep
pub mod ReleaseItem

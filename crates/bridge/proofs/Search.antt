-- Search, rows left, look-up and list tell of the tables what the rules tell of the atlas.
pub mod Walking
pub mod Searching
pub mod Walkable
pub mod RowsLeft
pub mod LookUp
pub mod Listing

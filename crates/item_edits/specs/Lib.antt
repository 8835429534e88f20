pub mod ItemEdits
pub mod LinksKept

-- The seven rules hold exactly when an atlas lies in the tables that keeps its shape. It is unique, and determines every used number.
pub mod Lists
pub mod Once
pub mod Follow
pub mod Flags
pub mod Items
pub mod FreeList
pub mod Shelves
pub mod Freed
pub mod Serving
pub mod FromRules
pub mod ToRules
pub mod Unique
pub mod Determined
pub mod NeverRead
pub mod Reading
pub mod ForClear
pub mod Few

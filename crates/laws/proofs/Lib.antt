-- what follows for tables that pass the audit, and for an atlas of the right shape
pub mod Stored
pub mod Shape

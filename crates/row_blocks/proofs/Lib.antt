pub mod Places
pub mod ByRows

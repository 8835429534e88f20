pub mod BandTable
pub mod Signed
pub mod Placing

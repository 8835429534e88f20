pub mod Exactness
pub mod NeverRead

pub mod Same
pub mod Places
pub mod Lives

pub mod Grows
pub mod Turns
pub mod Serving
pub mod Loop
pub mod Batching
pub mod Singles

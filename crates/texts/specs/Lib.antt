pub mod Answer
pub mod Lines
pub mod Put
pub mod Text

pub mod Live

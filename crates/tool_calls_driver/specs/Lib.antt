pub mod Request
pub mod Driver

pub mod Bits
pub mod BitsLaws
pub mod Ceil
pub mod CeilLaws
pub mod Each
pub mod EachLaws

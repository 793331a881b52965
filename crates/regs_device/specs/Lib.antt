pub mod Device
pub mod DeviceLaws

pub mod Ep0
pub mod Ep0Laws

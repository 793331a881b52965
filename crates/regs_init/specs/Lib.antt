pub mod Init

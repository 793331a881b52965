pub mod Endpoint
pub mod EndpointLaws

pub mod Fields
pub mod Markers

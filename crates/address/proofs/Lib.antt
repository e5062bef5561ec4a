pub mod Addresses
pub mod NatBits

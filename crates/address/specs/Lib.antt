pub mod AddressLaws
pub mod Addresses
pub mod NatBits
pub mod NatLaws

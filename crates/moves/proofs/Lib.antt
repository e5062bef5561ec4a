pub mod Asked
pub mod Refills
pub mod RoundTrips
pub mod Runs
pub mod Stores

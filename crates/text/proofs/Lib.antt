pub mod Appended
pub mod Decimals
pub mod Ends
pub mod Operands
pub mod SessionRuns
pub mod Spelled
pub mod Told

pub mod Lines
pub mod Numbers
pub mod Outcomes
pub mod Printed
pub mod Sessions
pub mod Spelling

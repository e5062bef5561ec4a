pub mod Moves
pub mod Refills
pub mod SoundFrames
pub mod SoundLoads
pub mod SoundReturns
pub mod SoundSpills
pub mod SpillRuns

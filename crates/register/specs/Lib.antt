pub mod Contents
pub mod KindLaws
pub mod Lanes
pub mod Slots

pub mod Meaning
pub mod Rules
pub mod Frames
pub mod Pages
pub mod Paging
pub mod Paged

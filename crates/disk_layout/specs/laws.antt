pub mod Examples
pub mod Laws
pub mod Reading
pub mod Numbers
pub mod RecordExamples
pub mod SectorExamples
pub mod Heads

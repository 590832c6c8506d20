pub mod Functions
pub mod PartLemmas
pub mod Algorithm
pub mod BodyLemmas

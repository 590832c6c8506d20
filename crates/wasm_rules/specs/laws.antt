pub mod Soundness
pub mod TypedShapes
pub mod Examples
pub mod Laws
pub mod LimitExamples

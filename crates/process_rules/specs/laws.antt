pub mod Examples
pub mod BehindExamples
pub mod Laws
pub mod WideningExamples
pub mod SucceedingExamples

pub mod Laws
pub mod StackLimits

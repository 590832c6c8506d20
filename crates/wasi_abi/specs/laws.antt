pub mod ConfigLimits
pub mod Laws
pub mod NumbersEnd

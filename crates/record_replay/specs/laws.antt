pub mod Laws
pub mod SliceLaws

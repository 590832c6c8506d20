pub mod CodeLemmas
pub mod Functions
pub mod Imports
pub mod InOrder
pub mod Modules
pub mod PartLemmas
pub mod Rising
pub mod ItemLemmas

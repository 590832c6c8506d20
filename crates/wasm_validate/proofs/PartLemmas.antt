pub mod Denied
pub mod Imported
pub mod ImportFaults
pub mod Lookups
pub mod Loops
pub mod Names
pub mod Faults
pub mod NoFault

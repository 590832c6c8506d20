pub mod Contents
pub mod Held
pub mod Journal
pub mod Places
pub mod Sectors
pub mod Spelled
pub mod Stored
pub mod Unsynced

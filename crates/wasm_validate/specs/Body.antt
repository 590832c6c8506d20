pub mod Answers
pub mod Bodies
pub mod Transfers
pub mod Known
pub mod Scopes
pub mod Tops
pub mod Views

pub mod Numbers
pub mod Made
pub mod Ready

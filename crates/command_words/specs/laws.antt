pub mod Examples
pub mod Words
pub mod Printed

pub mod Bytes
pub mod Printed
pub mod Steps

pub mod Numbers
pub mod Digits
pub mod Naming
pub mod Binding

pub mod Said
pub mod Forms
pub mod Reading

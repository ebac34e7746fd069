pub mod Parts
pub mod Numbers
pub mod Commands
pub mod App
pub mod Views
pub mod Rows

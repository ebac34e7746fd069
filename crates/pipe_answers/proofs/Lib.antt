mod Finding
mod Given
mod Guards
mod Presents
mod Settings
mod Tries

mod Bytes
mod Symbols
mod Munch
mod Lexing
mod Cuts
mod Utf8
mod Settled
mod Spaces

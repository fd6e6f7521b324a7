mod Captures
mod Tells

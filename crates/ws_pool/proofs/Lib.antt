mod Captures
mod Rest

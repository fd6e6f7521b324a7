mod Nearer
mod Packages
mod Slashes
mod Suggestions

mod Cuts
mod Words
mod Targets

mod Near
mod Wraps

-- Lemmas of the parser of files.
mod Files
mod Found
mod Imports

mod Cuts
mod Back
mod Listed
mod Many
mod Whole

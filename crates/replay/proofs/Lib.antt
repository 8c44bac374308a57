mod Zeros
mod Recorded
mod Counts

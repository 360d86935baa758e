pub mod Took

-- What the functions over law bytes answer.
pub mod Table
pub mod Check
pub mod Names
pub mod Evaluate
pub mod Packed

pub mod BackLaws
pub mod Theorems

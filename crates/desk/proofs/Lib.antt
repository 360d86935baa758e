pub mod NumberLaws
pub mod CountLaws
pub mod Theorems

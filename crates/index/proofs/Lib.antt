pub mod PartLaws
pub mod DomainLaws
pub mod Theorems

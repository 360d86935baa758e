pub mod Put
pub mod Room
pub mod States
pub mod Figures
pub mod Cut
pub mod Morning
pub mod Speaks
pub mod Answer

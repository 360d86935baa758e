-- What the judge's functions answer, and what their contracts cite beside document 01.
pub mod Answer
pub mod Masks
pub mod States
pub mod Settings
pub mod Landing
pub mod Told
pub mod Prepared

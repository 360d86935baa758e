-- The check of a frame, where the replacements stand, the law in force, and one supplement over another.
pub mod Check
pub mod Under
pub mod Read
pub mod Force
pub mod Laid

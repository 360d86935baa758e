-- The check of a frame, the index of a store, and what reader, writer and frame reader answer.
pub mod Check
pub mod Found
pub mod Progress
pub mod Read
pub mod Write
pub mod Frames

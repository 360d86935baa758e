-- The replacements so far, and where they stand.
pub mod OverLaws
-- The refusals of one frame; what one that passes says.
pub mod CheckLaws
pub mod Passes
-- The pass over a store.
pub mod UnderLaws
-- The law in force.
pub mod ForceLaws
pub mod Accepted
-- The reader.
pub mod ReaderLaws
-- THERE AND BACK: lines to a store, and its frames to lines.
pub mod RoundTrip
-- One supplement laid over another: the frames put, and that the result is accepted.
pub mod PuttingLaws
pub mod LaidLaws
pub mod LayLaws
-- What document 02 asks for.
pub mod BoundLaws
pub mod EmptyLaws
pub mod JudgedLaws
pub mod WithinLaws
pub mod LayingTheorems
pub mod Theorems

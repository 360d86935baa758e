-- Payloads of A1 to A4, and of the laws.
pub mod PayloadLaws
pub mod LawLaws
-- The refusals of one frame.
pub mod CheckLaws
-- Rows of numbers with zeros after; general laws of lists.
pub mod Rows
-- What a frame that passes says, what the frames so far keep, and the arrays that hold it.
pub mod Passed
pub mod Stands
pub mod ProgressLaws
-- The pass over a store.
pub mod FoundLaws
pub mod Held
-- For callers of `index_of`: the index is sound, and store and index make the domain.
pub mod Accepted
-- Lines into a store, whatever they make.
pub mod IntoStore
-- Bytes one after another to the front of a buffer.
pub mod FrontLaws
-- The reader, the writer and the frame reader.
pub mod ReaderLaws
pub mod WriterLaws
pub mod FramesLaws
-- THERE AND BACK: lines to a store to lines, a store to lines to a store.
pub mod RoundTrip
pub mod Returns
-- No text of a domain is longer than `longest_domain`.
pub mod TextLaws
-- One answer for each promise.
pub mod Theorems

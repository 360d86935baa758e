-- A table's rule by one computed test; lists; answers taken apart.
pub mod Table
pub mod Lists
pub mod Answers
-- Digits, a text's lines, the bytes that pairs of digits spell, and a frame's line there and back.
pub mod Digits
pub mod Lines
pub mod Spelling
pub mod HexLaws
-- What the functions' proofs cite, and callers of `read_line`, `read_payload` and `put_line`.
pub mod FirstLaws
pub mod WholeLaws
pub mod LineLaws
pub mod PayloadLaws
pub mod WriteLaws
pub mod FrameLaws
-- One answer for each promise.
pub mod Theorems

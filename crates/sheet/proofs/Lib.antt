-- The number of agents.
pub mod Agents
-- The reader's lines one by one, and the whole.
pub mod ReadLaws
-- The writer's lines one by one, and the whole.
pub mod WriteLaws
-- What is written of a sheet that was read is the text that was read, and back.
pub mod RoundTrip
-- No text of a sheet is longer than `longest_sheet`.
pub mod TextLaws
-- One answer for each promise.
pub mod Theorems

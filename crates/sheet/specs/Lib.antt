-- What the public functions answer.
pub mod Answer
-- What the functions within them do.
pub mod Step

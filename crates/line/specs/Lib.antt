-- What the public functions answer and leave.
pub mod Read
pub mod Write
pub mod Frame
-- What the functions within them do.
pub mod Within

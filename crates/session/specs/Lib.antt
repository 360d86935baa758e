pub mod Log
pub mod Calls
pub mod Verdict

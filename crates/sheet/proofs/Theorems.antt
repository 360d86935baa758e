-- An answer is the only one that keeps its promise: the reader's, and the writer's.
pub use Rattle.line.proofs.Theorems.{same_reading, same_written}

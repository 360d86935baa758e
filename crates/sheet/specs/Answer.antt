-- What the reader's answer says. The writer's is that of `line`'s `put_line`.
pub use Rattle.line.specs.Read.{reading_of}

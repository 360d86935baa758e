-- What was taken of a reader.
use Rattle.std.specs.Prelude.{◌<◌, ℕ, List, Option, length}
use Rattle.std.specs.Io.{StartsWith}
use Rattle.std.specs.Io.KnownBytes.{Consumes, IsAtEnd}

-- bytes that stand at the front of a buffer, and that the reader has lost
abbrev pub Took : Option (List ℕ) → Option (List ℕ) → List ℕ → List ℕ → Type 0
Took had has buffer bytes = StartsWith buffer bytes × Consumes had has bytes

-- they fill the buffer, or the reader has no byte left
abbrev pub FillsOrEnds : Option (List ℕ) → List ℕ → List ℕ → Type 0
FillsOrEnds has buffer bytes = length bytes < length buffer → IsAtEnd has

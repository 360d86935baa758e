-- An answer is the only one that keeps its promise: the readers', and the writer's.
use mathlib.Core.Path.{◌≡◌, ap}
use Rattle.std.specs.Prelude.{ℕ, Result, Ok, Err}
use Rattle.bmap.specs.declared.refusal.ReadError.{ReadError}
use Rattle.domain.specs.Read.{reading_of, used_of, index_in}
use Rattle.domain.specs.declared.reader.ReadFound.{ReadFound}
pub use Rattle.line.proofs.Theorems.{same_reading, same_written}

-- and of the reader that says what it has found, the index with it
pub same_found : (a b : Result ReadFound ReadError) → reading_of (used_of a) ≡ reading_of (used_of b) → index_in a ≡ index_in b → a ≡ b
same_found (Ok x) (Ok y) e f =
    let p : x.used ≡ y.used = cc in
    let q : x.index ≡ y.index = cc in
    λ i. Ok (record { used = p i; index = q i })
same_found (Ok x) (Err d) e f = cc
same_found (Err c) (Ok y) e f = cc
same_found (Err c) (Err d) e f =
    let s : ◌≡◌ {A = Result ℕ ReadError} (Err c) (Err d) = same_reading (Err c) (Err d) e in
    let t : c ≡ d = cc in
    ap Err t

-- Where the bytes of a part stand.
use Rattle.std.specs.Prelude.{ℕ, ◌+◌, ◌<◌, ◌≡◌, List, length}
use Rattle.std.specs.Borrow.{Bor}

-- r is so many bytes of s from a place on, themselves: equal bytes that stand elsewhere have another pointer
pub record StandsAt (s : Bor (List ℕ)) (at : ℕ) (bytes : List ℕ) (r : Bor (List ℕ)) : Type 0 where
  pub contents : r.now ≡ bytes
  -- in the memory block of s, so many bytes after its first; of a part with no bytes it says nothing
  pub place : 0 < length r.now → r.ref_ptr ≡ (s.ref_ptr.0, at + s.ref_ptr.1)

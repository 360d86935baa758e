-- What is promised of a part that is handed out leaves one result: its contents, and, where it has bytes, their place. Assumes nothing.
use Prim.Native.Nat.{ℕ, ◌+◌, ◌<◌}
use mathlib.Core.Path.{◌≡◌, sym, subst, ap, ◌∙◌}
use mathlib.Core.List.{List}
use lib.ListN.{length}
use denote.Ref.{Bor}
use Rattle.index.specs.Place.{StandsAt}

module _ {s : Bor (List ℕ)} {at : ℕ} {bytes : List ℕ} where
  stands : {r : Bor (List ℕ)} → StandsAt s at bytes r → 0 < length bytes → r.ref_ptr ≡ (s.ref_ptr.0, at + s.ref_ptr.1)
  stands h some = h.place (subst (λ (n : ℕ). 0 < n) (sym (ap length h.contents)) some)

  module _ {r q : Bor (List ℕ)} (one : StandsAt s at bytes r) (other : StandsAt s at bytes q) where
    pub same_contents : r.now ≡ q.now
    same_contents = one.contents ∙ sym other.contents

    pub same_place : 0 < length bytes → r.ref_ptr ≡ q.ref_ptr
    same_place some = stands one some ∙ sym (stands other some)

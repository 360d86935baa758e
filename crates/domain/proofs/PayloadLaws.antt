-- Payloads of A1 to A4, test by test. Assumes nothing.
use Prim.Native.Nat.{ℕ, ◌+◌, ◌*◌, ◌/◌, ◌%◌, ◌^◌, ◌≤◌, ◌<◌}
use native.Mathlib.Decide.{dec_le}
use native.Mathlib.Nat.{pow-le-pow_right, one-le-pow, div-add-mod', mod-lt, div-eq_of_lt}
use native.Mathlib.Omega.{arith}
use mathlib.Core.Path.{◌≡◌, sym, ap, ◌∙◌}
use lib.Dec.{eqb, leb, ltb}
use borrow.Author.Tests.{lt-ltb, le-ltb, le-leb, eq-eqb, ne_eqb}
use Rattle.bmap.specs.Payload.{mask_fits}
use Rattle.bmap.specs.declared.limits.Counts.{Counts}

-- ---- a mask, by a shift

module _ (n : Counts) (m : ℕ) where
  module _ (e : m ≡ 0 → ⊥) where
    pub mask_any : m < 2 ^ 16 → 16 ≤ n.agents → leb 16 n.agents ≡ mask_fits n m
    unfolding mask_fits
    mask_any h k =
        let p : 2 ^ 16 ≤ 2 ^ n.agents = pow-le-pow_right {n = 2} (omega arith) k in
        simp (le-leb 16 n.agents k, lt-ltb 0 m (omega arith), lt-ltb m (2 ^ n.agents) (omega arith))

    pub mask_some : eqb (m / 2 ^ n.agents) 0 ≡ mask_fits n m
    unfolding mask_fits
    mask_some = simp (lt-ltb 0 m (omega arith)) (go (dec_le (2 ^ n.agents) m))
      where
        go : Dec (2 ^ n.agents ≤ m) → eqb (m / 2 ^ n.agents) 0 ≡ ltb m (2 ^ n.agents)
        go (yes h) =
            let d : m / 2 ^ n.agents * 2 ^ n.agents + m % 2 ^ n.agents ≡ m = div-add-mod' m (2 ^ n.agents) in
            let l : m % 2 ^ n.agents < 2 ^ n.agents = mod-lt m (one-le-pow n.agents 2 (omega arith)) in
            ne_eqb (m / 2 ^ n.agents) 0 (λ z. let q : m / 2 ^ n.agents * 2 ^ n.agents ≡ 0 = ap (λ (x : ℕ). x * 2 ^ n.agents) z ∙ omega arith in omega arith)
            ∙ sym (le-ltb m (2 ^ n.agents) h)
        go (no h) = eq-eqb (m / 2 ^ n.agents) 0 (div-eq_of_lt (omega arith)) ∙ sym (lt-ltb m (2 ^ n.agents) (omega arith))

-- The frame at a place of a store, by the tests of the code.
use Prim.Native.Nat.{ℕ, suc, ◌+◌, ◌≤◌, ◌<◌}
use native.Mathlib.Omega.{arith}
use mathlib.Core.Path.{◌≡◌, refl}
use mathlib.Core.Bool.{true, false}
use Rattle.std.specs.Prelude.{None, Some}
use mathlib.Core.List.{List}
use lib.ListN.{length, get_or, take, drop, length-drop}
use lib.Seq.{length-take-le}
use borrow.Author.Tests.{le-leb, lt-leb, eq-eqb, ne_eqb}
use Rattle.bmap.specs.Limits.{most_payload}
use Rattle.bmap.specs.Store.{stands_at, frame_at}
use Rattle.bmap.proofs.PlainLaws.{both_false}
use Rattle.line.specs.Frame.{frame_size_at}

module _ (s : List ℕ) (at : ℕ) where
  no_frame : stands_at s at ≡ false → None ≡ frame_size_at s at
  unfolding frame_size_at frame_at
  no_frame e = rw e refl

  pub no_head : length s < at + 2 → None ≡ frame_size_at s at
  unfolding stands_at
  no_head h = no_frame (simp (lt-leb (at + 2) (length s) h))

  pub no_kind : get_or s at 0 ≡ 0 → None ≡ frame_size_at s at
  unfolding stands_at
  no_kind e = no_frame (simp (eq-eqb (get_or s at 0) 0 e, both_false))

  pub long_count : most_payload < get_or s (at + 1) 0 → None ≡ frame_size_at s at
  unfolding stands_at
  long_count h = no_frame (simp (lt-leb (get_or s (at + 1) 0) most_payload h, both_false))

  pub no_payload : length s < at + 2 + get_or s (at + 1) 0 → None ≡ frame_size_at s at
  unfolding stands_at
  no_payload h = no_frame (simp (lt-leb (at + 2 + get_or s (at + 1) 0) (length s) h, both_false))

  -- where each test is passed, a frame of count and two bytes
  stands : (get_or s at 0 ≡ 0 → ⊥) → get_or s (at + 1) 0 ≤ most_payload → at + 2 + get_or s (at + 1) 0 ≤ length s → stands_at s at ≡ true
  unfolding stands_at
  stands k c p =
      simp (
        le-leb (at + 2) (length s) (omega arith),
        ne_eqb (get_or s at 0) 0 k,
        le-leb (get_or s (at + 1) 0) most_payload c,
        le-leb (at + 2 + get_or s (at + 1) 0) (length s) p,
      )

  pub frame_stands : (get_or s at 0 ≡ 0 → ⊥) → get_or s (at + 1) 0 ≤ most_payload → at + 2 + get_or s (at + 1) 0 ≤ length s
      → Some (get_or s (at + 1) 0 + 2) ≡ frame_size_at s at
  unfolding frame_size_at frame_at
  frame_stands k c p =
      let l : length (take (get_or s (at + 1) 0) (drop (at + 2) s)) ≡ get_or s (at + 1) 0
      = length-take-le (get_or s (at + 1) 0) (drop (at + 2) s) (rw (length-drop (at + 2) s) (omega arith)) in
      let n : get_or s (at + 1) 0 + 2 ≡ suc (suc (get_or s (at + 1) 0)) = omega arith in
      rw (stands k c p, l, n) refl

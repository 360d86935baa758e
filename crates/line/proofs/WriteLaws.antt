-- A frame's line in the text that it is written to.
use Prim.Native.Nat.{ℕ, zero, suc, ◌+◌, ◌-◌, ◌*◌, ◌/◌, ◌%◌, ◌≤◌, ◌<◌}
use native.Mathlib.Nat.{le_of_suc-le-suc, not-suc-le-zero}
use native.Mathlib.Numerals.{add-one}
use native.Mathlib.Omega.{arith}
use mathlib.Core.Path.{◌≡◌, refl, sym, ap, ◌∙◌}
use mathlib.Core.List.{List, [], ◌∷◌, ◌++◌, append-nil, append_assoc}
use lib.ListN.{length, get_or, take, drop, set, drop_of_length-le, length-drop, length-append}
use lib.Seq.{drop-cons, take-length, set_at, take_at, drop_at, drop-drop}
use borrow.Author.Tests.{le-leb, lt-leb}
use Rattle.bmap.specs.Limits.{most_payload}
use Rattle.bmap.specs.Refusal.{got, refused}
use Rattle.bmap.specs.Line.{digit_for, hex, line_for, line_size}
use Rattle.bmap.specs.Buffer.{over}
use Rattle.line.specs.Write.{line_written}
use Rattle.line.proofs.Lists.{part_to_end}
use Rattle.line.proofs.Digits.{two_suc}
use Rattle.line.proofs.HexLaws.{length_hex}

-- ---- the loop over the bytes

hex_suc : (i : ℕ) (s d : List ℕ) → i < length s → suc (2 * i) < length d
    → set (set (hex (take i s) ++ drop (2 * i) d) (2 * i) (digit_for (get_or s i 0 / 16))) (suc (2 * i)) (digit_for (get_or s i 0 % 16))
    ≡ hex (take (suc i) s) ++ drop (2 * suc i) d
unfolding hex
hex_suc i [] d h k = absurd (not-suc-le-zero h)
hex_suc i (b ∷ s) [] h k = absurd (not-suc-le-zero k)
hex_suc i (b ∷ s) (x ∷ []) h k = absurd (omega arith)
hex_suc zero (b ∷ s) (x ∷ y ∷ d) h k = refl
hex_suc (suc i) (b ∷ s) (x ∷ y ∷ d) h k =
    rw (two_suc i, two_suc (suc i))
    (ap (λ (t : List ℕ). digit_for (b / 16) ∷ digit_for (b % 16) ∷ t) (hex_suc i s d (le_of_suc-le-suc h) (omega arith)))

pub hex_more : (i : ℕ) (s d : List ℕ) → i < length s → 2 * i + 1 < length d
    → set (set (hex (take i s) ++ drop (2 * i) d) (2 * i) (digit_for (get_or s i 0 / 16))) (2 * i + 1) (digit_for (get_or s i 0 % 16))
    ≡ hex (take (i + 1) s) ++ drop (2 * (i + 1)) d
hex_more i s d h k = rw (add-one (2 * i), add-one i) (hex_suc i s d h (omega arith))

pub hex_done : (i : ℕ) (s d : List ℕ) → i ≡ length s → hex (take i s) ++ drop (2 * i) d ≡ over (hex s) d
hex_done i s d e = rw (e, take-length s, length_hex s) refl

-- ---- the line

pub length_line : (kind : ℕ) (p : List ℕ) → length (line_for (record { kind = kind; payload = p })) ≡ line_size (length p)
unfolding line_for
length_line kind p = rw (length-append (hex (kind ∷ length p ∷ p)), length_hex) (omega arith)

module _ (kind : ℕ) (p out : List ℕ) where
  pub put_long : most_payload < length p → (refused 2 ≡ (line_written kind p out).answer) × (out ≡ (line_written kind p out).buffer)
  unfolding line_written
  put_long h = simp (lt-leb (length p) most_payload h) (refl, refl)

  pub put_short : length p ≤ most_payload → length out < 2 * length p + 5 → (refused 10 ≡ (line_written kind p out).answer) × (out ≡ (line_written kind p out).buffer)
  unfolding line_written
  put_short h k = simp (le-leb (length p) most_payload h, length_line kind p, lt-leb (2 * length p + 5) (length out) k) (refl, refl)

  pub put_all : length p ≤ most_payload → 2 * length p + 5 ≤ length out
      → (got (2 * length p + 5) ≡ (line_written kind p out).answer) × (over (line_for (record { kind = kind; payload = p })) out ≡ (line_written kind p out).buffer)
  unfolding line_written
  put_all h k = simp (le-leb (length p) most_payload h, length_line kind p, le-leb (2 * length p + 5) (length out) k) (refl, refl)

  -- the head's digits, the payload's digits after them, and the LF
  line_laid : (a b : List ℕ) → 2 * length p + 5 ≤ length out → a ≡ over (hex (kind ∷ length p ∷ [])) out → b ≡ over (hex p) (take (length a - 4) (drop 4 a))
      → set (take 4 a ++ (b ++ drop (length a - 4) (drop 4 a))) (2 * length p + 5 - 1) 10 ≡ over (line_for (record { kind = kind; payload = p })) out
  unfolding line_for
  line_laid a b k ea eb =
      let h = hex (kind ∷ length p ∷ []) in
      let lh : length h ≡ 4 = length_hex (kind ∷ length p ∷ []) in
      let ta : take 4 a ≡ h = rw ea (take_at h (drop (length h) out) 4 lh) in
      let da : drop 4 a ≡ drop 4 out = rw ea (drop_at h (drop (length h) out) 4 lh ∙ ap (λ (n : ℕ). drop n out) lh) in
      let none : drop (length a - 4) (drop 4 a) ≡ [] = drop_of_length-le (drop 4 a) {i = length a - 4} (simp length-drop (omega arith)) in
      let q : b ≡ hex p ++ drop (2 * length p) (drop 4 out) = eb ∙ rw (part_to_end a 4, da, length_hex p) refl in
      let last : drop (2 * length p) (drop 4 out) ≡ get_or out (4 + 2 * length p) 0 ∷ drop (suc (4 + 2 * length p)) out
      = drop-drop (2 * length p) 4 out ∙ drop-cons out (4 + 2 * length p) 0 (omega arith) in
      let n : 2 * length p + 5 - 1 ≡ 4 + 2 * length p = omega arith in
      let l : length (h ++ hex p) ≡ 4 + 2 * length p = length-append h (hex p) ∙ omega (arith, length_hex p) in
      let m : suc (4 + 2 * length p) ≡ 2 * length p + 5 = omega arith in
      rw (none, append-nil, ta, q, last, n, ← append_assoc h (hex p) (get_or out (4 + 2 * length p) 0 ∷ drop (suc (4 + 2 * length p)) out))
      (set_at (h ++ hex p) (get_or out (4 + 2 * length p) 0) (drop (suc (4 + 2 * length p)) out) 10 (4 + 2 * length p) l
      ∙ sym (append_assoc (h ++ hex p) (10 ∷ []) (drop (suc (4 + 2 * length p)) out))
      ∙ rw (m, ← length_line kind p) (unfold hex in refl))

  pub put_done : (a b : List ℕ) → length p ≤ most_payload → 2 * length p + 5 ≤ length out → a ≡ over (hex (kind ∷ length p ∷ [])) out → b ≡ over (hex p) (take (length a - 4) (drop 4 a))
      → (got (2 * length p + 5) ≡ (line_written kind p out).answer)
      × (set (take 4 a ++ (b ++ drop (length a - 4) (drop 4 a))) (2 * length p + 5 - 1) 10 ≡ (line_written kind p out).buffer)
  put_done a b h k ea eb = let w = put_all h k in (w.0, line_laid a b k ea eb ∙ w.1)

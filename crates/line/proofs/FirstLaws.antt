-- What the first line of a text comes to, by the tests of the code.
use Prim.Native.Nat.{ℕ, zero, suc, ◌+◌, ◌*◌, ◌≤◌, ◌<◌}
use native.Mathlib.Nat.{not-suc-le-zero}
use native.Mathlib.Numerals.{add-one}
use native.Mathlib.Omega.{arith}
use mathlib.Core.Path.{◌≡◌, refl, sym, ap, ◌∙◌}
use mathlib.Core.Bool.{Bool, true, false}
use mathlib.Core.Option.{some}
use mathlib.Core.List.{List, [], ◌∷◌, ◌++◌, append-nil}
use lib.Dec.{eqb}
use lib.ListN.{length, get_or, drop, length-append}
use lib.Seq.{get_or-drop}
use borrow.Author.Tests.{eqb-true, eqb-false, eq-eqb, ne_eqb, le-leb}
use Rattle.bmap.specs.Refusal.{Answer, got, refused, need, then}
use Rattle.bmap.specs.Line.{Frame, lines_of, bytes, framed, decode, stored}
use Rattle.bmap.specs.Limits.{frame_size}
use Rattle.line.specs.Read.{first_of, spelt}
use Rattle.line.specs.Write.{answer_of}
use Rattle.line.specs.declared.read.FirstFrame.{FirstFrame}
use Rattle.line.specs.Within.{Begins, frame_of}
use Rattle.line.proofs.Digits.{spelt_most}
use Rattle.line.proofs.Spelling.{beyond, passed, passed_on, stops, stops_anywhere}
use Rattle.line.proofs.Lines.{at_feed, ends, front, lines_first}
use Rattle.bmap.proofs.PlainLaws.{both_false}
use Rattle.line.proofs.HexLaws.{framed_long}

-- of a text's first line: what it decodes to, and how long it is
abbrev pub decoded : List ℕ → Answer Frame
decoded s = need (ends s) 1 (then (bytes (front s)) framed)

abbrev pub size_in : List ℕ → Frame → FirstFrame
size_in s f = record { bytes = length (stored f); characters = suc (length (front s)) }

pub first_is : (s : List ℕ) → 0 < length s → first_of (lines_of s) ≡ some (then (decoded s) (λ f. got (size_in s f)))
unfolding decode
first_is [] h = absurd (not-suc-le-zero h)
first_is (c ∷ s) h = ap first_of (lines_first c s)

first_refused : (s : List ℕ) (n : ℕ) → 0 < length s → decoded s ≡ refused n → some (refused n) ≡ first_of (lines_of s)
first_refused s n h e = sym (first_is s h ∙ rw e refl)

-- what the bytes before a LF come to
frame_said : (b : List ℕ) (count : ℕ) → length b ≤ frame_size → (2 ≤ length b → count ≡ get_or b 1 0)
    → some (answer_of (frame_of (length b) count)) ≡ some (then (framed b) (λ f. got (record { bytes = length (stored f); characters = suc (2 * length b) })))
unfolding frame_of framed
frame_said [] count h e = refl
frame_said (k ∷ []) count h e = simp (ne_eqb (count + 2) 1 (λ z. omega arith))
frame_said (k ∷ c ∷ p) count h e = rw (e (omega arith)) (go (eqb c (length p)) refl)
  where
    go : (t : Bool) → eqb c (length p) ≡ t
        → some (answer_of (frame_of (length (k ∷ c ∷ p)) c)) ≡ some (then (framed (k ∷ c ∷ p)) (λ f. got (record { bytes = length (stored f); characters = suc (2 * length (k ∷ c ∷ p)) })))
    go true q =
        let l : c ≡ length p = eqb-true c (length p) q in
        simp (q, le-leb c 120 (omega arith), ne_eqb (suc (suc (length p))) 0 (λ z. omega arith), eq-eqb (c + 2) (suc (suc (length p))) (omega arith), add-one)
    go false q =
        simp (q, both_false, ne_eqb (suc (suc (length p))) 0 (λ z. omega arith), ne_eqb (c + 2) (suc (suc (length p))) (λ z. eqb-false c (length p) q (omega arith)))

-- a LF follows the pairs
pub line_ends : (s : List ℕ) (n count : ℕ) → Begins s n count → get_or s (2 * n) 0 ≡ 10 → some (answer_of (frame_of n count)) ≡ first_of (lines_of s)
line_ends s n count h e =
    let b = spelt frame_size s in
    let q = at_feed (beyond frame_size s) (get_or-drop (2 * length b) s 0 0 ∙ ap (λ (i : ℕ). get_or s i 0) (omega (arith, h.pairs)) ∙ e) in
    let r = passed frame_size s in
    let d : decoded s ≡ framed b = rw (r.end, q.0, r.spells, q.1) (unfold bytes in ap framed (append-nil b)) in
    let l : length (front s) ≡ 2 * length b = r.size ∙ rw q.1 (omega arith) in
    rw h.pairs
    (frame_said b count (spelt_most frame_size s) (rw h.pairs at h.second)
    ∙ sym (first_is s h.some ∙ rw (d, l) refl))

-- neither a LF nor a pair of digits follows the pairs
pub line_stops : (s : List ℕ) (n count : ℕ) → Begins s n count → (get_or s (2 * n) 0 ≡ 10 → ⊥) → n < frame_size → some (refused 1) ≡ first_of (lines_of s)
line_stops s n count h e k =
    first_refused s 1 h.some
    (stops frame_size s framed (omega (arith, h.pairs)) (λ z. e (ap (λ (i : ℕ). get_or s i 0) (omega (arith, h.pairs)) ∙ sym (get_or-drop (2 * length (spelt frame_size s)) s 0 0) ∙ z)))

-- more pairs than a frame has bytes follow, and then a LF, or something else
module _ (s : List ℕ) (n count more : ℕ) (h : Begins s n count) (full : frame_size ≤ n) (no_feed : get_or s (2 * n) 0 ≡ 10 → ⊥)
    (m : more ≡ length (spelt (length (drop (2 * n) s)) (drop (2 * n) s))) where
  rest : List ℕ
  rest = drop (2 * n) s

  is_beyond : beyond frame_size s ≡ rest
  unfolding rest
  is_beyond = rw h.pairs refl

  last : get_or (beyond (length rest) rest) 0 0 ≡ get_or s (2 * n + 2 * more) 0
  unfolding rest
  last = get_or-drop (2 * length (spelt (length rest) rest)) rest 0 0 ∙ get_or-drop (2 * n) s (2 * length (spelt (length rest) rest) + 0) 0 ∙ ap (λ (i : ℕ). get_or s i 0) (omega arith)

  goes_on : decoded s ≡ need (ends rest) 1 (then (bytes (front rest)) (λ l. framed (spelt frame_size s ++ l)))
  goes_on = passed_on frame_size s framed ∙ rw is_beyond refl

  pub line_too_long : get_or s (2 * n + 2 * more) 0 ≡ 10 → some (refused 2) ≡ first_of (lines_of s)
  unfolding rest bytes
  line_too_long e =
      let b = spelt frame_size s in
      let b' = spelt (length rest) rest in
      let q = at_feed (beyond (length rest) rest) (last ∙ e) in
      let some_more : 0 < more = some_pair more e in
      let l : frame_size < length (b ++ (b' ++ [])) = rw (append-nil, length-append b b') (omega (arith, h.pairs, m)) in
      first_refused s 2 h.some
      (goes_on
      ∙ passed_on (length rest) rest (λ l. framed (b ++ l))
      ∙ rw (q.0, q.1) (framed_long (b ++ (b' ++ [])) l))
    where
      some_pair : (k : ℕ) → get_or s (2 * n + 2 * k) 0 ≡ 10 → 0 < k
      some_pair zero z = absurd (no_feed (ap (λ (i : ℕ). get_or s i 0) (omega arith) ∙ z))
      some_pair (suc k) z = omega arith

  pub line_stops_late : (get_or s (2 * n + 2 * more) 0 ≡ 10 → ⊥) → some (refused 1) ≡ first_of (lines_of s)
  line_stops_late e = first_refused s 1 h.some (goes_on ∙ stops_anywhere rest (λ l. framed (spelt frame_size s ++ l)) (λ z. e (sym last ∙ z)))

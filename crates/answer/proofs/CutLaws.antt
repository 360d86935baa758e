-- The lines of a text up to a place, and the cut at the first line that starts with a word. Assumes nothing.
use Prim.Native.Nat.{ℕ, zero, suc, ◌-◌, ◌+◌, ◌≤◌, ◌<◌}
use mathlib.Core.Path.{◌≡◌, refl, sym, ap, ◌∙◌}
use mathlib.Core.Bool.{Bool, true, false, not}
use mathlib.Core.List.{List, [], ◌∷◌, ◌++◌, append-nil, append_assoc}
use native.Mathlib.Omega.{arith}
use native.Mathlib.Numerals.{add-one}
use native.Mathlib.Decide.{ℕ_discrete, dec_lt}
use lib.Dec.{T, eqb}
use Rattle.std.specs.Prelude.{◌==◌, ltb}
use Rattle.std.proofs.lemmas.Bool.{lt-ltb, le-ltb}
use lib.ListN.{length, take, drop, length-append, length-drop, take-append-drop, drop_of_length-le}
use lib.Seq.{take_all, take-add}
use borrow.Author.Tests.{eq-eqb, ne_eqb}
use Rattle.std.specs.Prelude.{cond, position, Option, Some, None}
use Rattle.std.specs.List.{position_or_len}
use Rattle.std.specs.List.{starts_with as begins_with}
use Rattle.std.proofs.lemmas.List.Recursion.{is_position_or_len}
use Rattle.bmap.proofs.PlainLaws.{both_parts}
use Rattle.bmap.specs.Plain.{both, if_else}
use Rattle.bmap.specs.Line.{Line, lines_of, line_feed, line_text, starts_with, starts, before}
use Rattle.bmap.specs.Program.{split}
use Rattle.answer.specs.Cut.{InLine, feeds_last, CutIn}

-- ---- the first line feed

-- the characters before the first LF
unfoldable pub feed_in : List ℕ → ℕ
feed_in [] = zero
feed_in (c ∷ s) = if_else (eqb c line_feed) zero (suc (feed_in s))

abbrev pub is_feed : ℕ → Bool
is_feed c = c == line_feed

feed_is : (s : List ℕ) → position_or_len is_feed s ≡ feed_in s
unfolding feed_in
feed_is s = sym (is_position_or_len feed_in is_feed refl (λ c l. go (c == line_feed) (feed_in l)) s)
  where
    go : (b : Bool) (n : ℕ) → if_else b zero (suc n) ≡ cond b 0 (1 + n)
    go true n = refl
    go false n = omega arith

pub feed_most : (s : List ℕ) → feed_in s ≤ length s
unfolding feed_in
feed_most [] = omega arith
feed_most (c ∷ s) = elim (ℕ_discrete c line_feed) [ yes e ↦ rw (eq-eqb _ _ e) (omega arith) | no e ↦ rw (ne_eqb _ _ e) (omega (arith, feed_most s)) ]

-- what `starts_with` and `position` say of the rest of an input from a place on
module _ (input : List ℕ) (at : ℕ) where
  lent : take (length input - at) (drop at input) ≡ drop at input
  lent = take_all (length input - at) (drop at input) (omega (arith, length-drop at input))

  module _ {found : Option ℕ} (e : position is_feed (take (length input - at) (drop at input)) ≡ found) where
    seen_at : found ≡ cond (ltb (feed_in (drop at input)) (length (drop at input))) (Some (feed_in (drop at input))) None
    seen_at = sym e ∙ ap (position is_feed) lent ∙ ap (λ n. cond (ltb n (length (drop at input))) (Some n) None) (feed_is (drop at input))

    seen_in : feed_in (drop at input) < length (drop at input) → found ≡ Some (feed_in (drop at input))
    seen_in h = seen_at ∙ ap (λ b. cond b (Some (feed_in (drop at input))) None) (lt-ltb (feed_in (drop at input)) (length (drop at input)) h)

    not_seen : length (drop at input) ≤ feed_in (drop at input) → found ≡ None
    not_seen h = seen_at ∙ ap (λ b. cond b (Some (feed_in (drop at input))) None) (le-ltb (feed_in (drop at input)) (length (drop at input)) h)

    pub feed_found : {feed : ℕ} → found ≡ Some feed → (feed ≡ feed_in (drop at input)) × (at + feed < length input)
    feed_found {feed} f = elim (dec_lt (feed_in (drop at input)) (length (drop at input))) [
      | yes h ↦
          let is : Some (feed_in (drop at input)) ≡ Some feed = sym (seen_in h) ∙ f in
          let same : feed_in (drop at input) ≡ feed = cc in
          (sym same, omega (arith, h, same, length-drop at input))
      | no h ↦ let is : None ≡ Some feed = sym (not_seen (omega arith)) ∙ f in absurd (cc)
    ]

    pub feed_none : found ≡ None → at ≤ length input → at + feed_in (drop at input) ≡ length input
    feed_none f g = elim (dec_lt (feed_in (drop at input)) (length (drop at input))) [
      | yes h ↦ let is : Some (feed_in (drop at input)) ≡ None = sym (seen_in h) ∙ f in absurd (cc)
      | no h ↦ omega (arith, feed_most (drop at input), length-drop at input)
    ]

-- std's test of the word is the paper's
starts_are : (s word : List ℕ) → begins_with eqb s word ≡ starts_with word s
unfolding starts_with
starts_are s [] = refl
starts_are [] (c ∷ word) = refl
starts_are (d ∷ s) (c ∷ word) = elim (ℕ_discrete d c) [
  | yes e ↦ rw (eq-eqb d c e, eq-eqb c d (sym e)) (starts_are s word)
  | no e ↦ rw (ne_eqb d c e, ne_eqb c d (λ f. e (sym f)))
]

pub starts_at : (input word : List ℕ) (at : ℕ) {r b : Bool} → r ≡ begins_with eqb (take (length input - at) (drop at input)) word → r ≡ b → starts_with word (drop at input) ≡ b
starts_at input word at e f = sym (starts_are (drop at input) word) ∙ sym (ap (λ s. begins_with eqb s word) (lent input at)) ∙ sym e ∙ f

-- ---- the lines up to it

-- a line without its LF is the last
open_line : (s : List ℕ) → 0 < length s → feed_in s ≡ length s → lines_of s ≡ record { digits = s; ended = false } ∷ []
unfolding lines_of feed_in
open_line [] h e = absurd (omega arith)
open_line (c ∷ []) h e = elim (ℕ_discrete c line_feed) [ yes q ↦ absurd (omega (arith, rw (eq-eqb _ _ q) at e)) | no q ↦ rw (ne_eqb _ _ q) ]
open_line (c ∷ d ∷ s) h e =
    elim (ℕ_discrete c line_feed) [
      | yes q ↦ absurd (omega (arith, rw (eq-eqb _ _ q) at e))
      | no q ↦ rw (ne_eqb _ _ q) (ap (before c) (open_line (d ∷ s) (omega arith) (omega (arith, rw (ne_eqb _ _ q) at e))))
    ]

-- a line with its LF, and any lines after it
closed_line : (s b : List ℕ) → feed_in s < length s → lines_of (take (suc (feed_in s)) s ++ b) ≡ record { digits = take (feed_in s) s; ended = true } ∷ lines_of b
unfolding lines_of feed_in
closed_line [] b h = absurd (omega arith)
closed_line (c ∷ s) b h =
    elim (ℕ_discrete c line_feed) [
      | yes q ↦ rw (eq-eqb _ _ q)
      | no q ↦ rw (ne_eqb _ _ q) (ap (before c) (closed_line s b (omega (arith, rw (ne_eqb _ _ q) at h))))
    ]

-- ---- the test of the word

-- the text's first line, as it stands in it
abbrev first_text : List ℕ → List ℕ
first_text s = take (suc (feed_in s)) s

rest_in_line : (c : ℕ) (word : List ℕ) → InLine (c ∷ word) → InLine word
unfolding feeds_last
rest_in_line c [] h = tt
rest_in_line c (d ∷ word) h = (both_parts (not (eqb c line_feed)) (feeds_last (d ∷ word)) h).1

no_feed : {c : ℕ} → c ≡ line_feed → T (not (eqb c line_feed)) → ⊥
no_feed {c} e h = rw (eq-eqb c line_feed e) at h

-- LF ends the line, and the word
word_ends : (c d : ℕ) (word s : List ℕ) → InLine (c ∷ word) → d ≡ line_feed → both (eqb d c) (starts_with word []) ≡ both (eqb d c) (starts_with word s)
unfolding starts_with feeds_last
word_ends c d [] s h q = refl
word_ends c d (e ∷ word) s h q = rw (ne_eqb d c (λ (r : d ≡ c). no_feed (sym r ∙ q) (both_parts (not (eqb c line_feed)) (feeds_last (e ∷ word)) h).0))

-- whether a line starts with a word is seen at its place in the text
seen_first : (word : List ℕ) → InLine word → (s : List ℕ) → starts_with word (first_text s) ≡ starts_with word s
unfolding starts_with feed_in
seen_first [] h s = refl
seen_first (c ∷ word) h [] = refl
seen_first (c ∷ word) h (d ∷ s) =
    elim (ℕ_discrete d line_feed) [
      | yes q ↦ rw (eq-eqb _ _ q) (word_ends c d word s h q)
      | no q ↦ rw (ne_eqb _ _ q) (ap (both (eqb d c)) (seen_first word (rest_in_line c word h) s))
    ]

-- ---- the lines before a place

-- lines none of which starts so
abbrev pub Skips : List ℕ → List Line → Type 0
Skips word d = (rest : List Line) → ((split word (d ++ rest)).before ≡ d ++ (split word rest).before) × ((split word (d ++ rest)).from ≡ (split word rest).from)

-- the text up to a place ends with its lines, and none of them starts so
pub record Before (word input : List ℕ) (at lines : ℕ) : Type 0 where
  pub in_line : InLine word
  pub within : at ≤ length input
  pub closed : (b : List ℕ) → lines_of (take at input ++ b) ≡ lines_of (take at input) ++ lines_of b
  pub skips : Skips word (lines_of (take at input))
  pub count : lines ≡ length (lines_of (take at input))

pub nothing_before : (word input : List ℕ) → InLine word → Before word input 0 0
unfolding lines_of
nothing_before word input h = record { in_line = h; within = omega arith; closed = λ b. refl; skips = λ rest. (refl, refl); count = refl }

-- the first line of a text
record First (s : List ℕ) : Type 0 where
  line : Line
  others : List Line
  lines : lines_of s ≡ line ∷ others
  says : line_text line ≡ first_text s

closed_text : (s : List ℕ) → feed_in s < length s → take (feed_in s) s ++ (line_feed ∷ []) ≡ first_text s
unfolding feed_in
closed_text [] h = absurd (omega arith)
closed_text (c ∷ s) h =
    elim (ℕ_discrete c line_feed) [
      | yes q ↦ rw (eq-eqb _ _ q) (ap (λ d. d ∷ []) (sym q))
      | no q ↦ rw (ne_eqb _ _ q) (ap (λ l. c ∷ l) (closed_text s (omega (arith, rw (ne_eqb _ _ q) at h))))
    ]

open_text : (s : List ℕ) → feed_in s ≡ length s → s ++ [] ≡ first_text s
open_text s e = append-nil s ∙ sym (take_all (suc (feed_in s)) s (omega arith))

first : (s : List ℕ) → 0 < length s → First s
first s h =
    elim (dec_lt (feed_in s) (length s)) [
      | yes e ↦ record {
        line = record { digits = take (feed_in s) s; ended = true };
        others = lines_of (drop (suc (feed_in s)) s);
        lines = ap lines_of (sym (take-append-drop (suc (feed_in s)) s)) ∙ closed_line s (drop (suc (feed_in s)) s) e;
        says = closed_text s e;
      }
      | no e ↦
          let all : feed_in s ≡ length s = omega (arith, feed_most s) in
          record { line = record { digits = s; ended = false }; others = []; lines = open_line s h all; says = open_text s all }
    ]

-- a line that does not start so is skipped
skip_one : (word : List ℕ) (l : Line) → starts word l ≡ false → Skips word (l ∷ [])
unfolding split
skip_one word l t rest = (rw t, rw t)

skip_more : (word : List ℕ) (d : List Line) (l : Line) → Skips word d → Skips word (l ∷ []) → Skips word (d ++ (l ∷ []))
skip_more word d l f g rest = rw (append_assoc d (l ∷ []) rest) ((f (l ∷ rest)).0 ∙ ap (λ r. d ++ r) (g rest).0 ∙ sym (append_assoc d (l ∷ []) _), (f (l ∷ rest)).1 ∙ (g rest).1)

module _ {word input : List ℕ} {at lines : ℕ} (x : Before word input at lines) where
  whole : lines_of input ≡ lines_of (take at input) ++ lines_of (drop at input)
  whole = ap lines_of (sym (take-append-drop at input)) ∙ x.closed (drop at input)

  close : (at < length input → starts_with word (drop at input) ≡ true) → (split word (lines_of (drop at input))).before ≡ [] → (split word (lines_of (drop at input))).from ≡ lines_of (drop at input) → CutIn word input at lines
  close there d s =
      let here : lines_of (take at input) ≡ (split word (lines_of input)).before = sym (rw (whole, (x.skips (lines_of (drop at input))).0, d) (append-nil _)) in
      record {
        within = x.within;
        before = here;
        from = sym (rw whole ((x.skips (lines_of (drop at input))).1 ∙ s));
        count = x.count ∙ ap length here;
        stands = there;
      }

  pub cut_end : length input ≤ at → CutIn word input at lines
  unfolding split lines_of
  cut_end g = close (λ h. absurd (omega arith)) (rw (drop_of_length-le input g)) (rw (drop_of_length-le input g))

  module _ (h : at < length input) where
    some : 0 < length (drop at input)
    some = rw (length-drop at input) (omega arith)

    -- what the line says decides
    seen : (l : Line) {b : Bool} → line_text l ≡ first_text (drop at input) → starts_with word (drop at input) ≡ b → starts word l ≡ b
    seen l e t = ap (starts_with word) e ∙ seen_first word x.in_line (drop at input) ∙ t

    -- the part begins here
    pub cut_here : starts_with word (drop at input) ≡ true → CutIn word input at lines
    unfolding split
    cut_here t =
        let f : First (drop at input) = first (drop at input) some in
        let s : starts word f.line ≡ true = seen f.line f.says t in
        close (λ _. t) (rw (f.lines, s)) (rw (f.lines, s))

    module _ (t : starts_with word (drop at input) ≡ false) where
      -- the rest is one line without LF
      pub open_end : at + feed_in (drop at input) ≡ length input → CutIn word input (length input) (lines + 1)
      unfolding split lines_of
      open_end e =
          let all : feed_in (drop at input) ≡ length (drop at input) = rw (length-drop at input) (omega arith) in
          let l : Line = record { digits = drop at input; ended = false } in
          let only : lines_of (drop at input) ≡ l ∷ [] = open_line (drop at input) some all in
          let s : starts word l ≡ false = seen l (open_text (drop at input) all) t in
          let k : Skips word (lines_of (take at input) ++ (l ∷ [])) = skip_more word (lines_of (take at input)) l x.skips (skip_one word l s) in
          let now : lines_of input ≡ (lines_of (take at input) ++ (l ∷ [])) ++ [] = whole ∙ ap (λ r. lines_of (take at input) ++ r) only ∙ sym (append-nil _) in
          let here : lines_of input ≡ (split word (lines_of input)).before = now ∙ sym (ap (λ r. (split word r).before) now ∙ (k []).0) in
          record {
            within = omega arith;
            before = ap lines_of (take_all (length input) input (omega arith)) ∙ here;
            from = rw (drop_of_length-le input {i = length input} (omega arith)) (sym (ap (λ r. (split word r).from) now ∙ (k []).1));
            count = rw x.count (sym (ap length (sym here ∙ now ∙ append-nil (lines_of (take at input) ++ (l ∷ []))) ∙ length-append (lines_of (take at input)) (l ∷ [])));
            stands = λ h. absurd (omega arith);
          }

      pub next_line : at + feed_in (drop at input) < length input → Before word input (at + (feed_in (drop at input) + 1)) (lines + 1)
      unfolding lines_of
      next_line e =
          let k : ℕ = feed_in (drop at input) in
          let short : k < length (drop at input) = rw (length-drop at input) (omega arith) in
          let l : Line = record { digits = take k (drop at input); ended = true } in
          let a : List ℕ = take at input in
          let new : List ℕ = take (suc k) (drop at input) in
          let part : take (at + (k + 1)) input ≡ a ++ new = ap (λ n. take (at + n) input) (add-one k) ∙ take-add at (suc k) input in
          let now : lines_of (a ++ new) ≡ lines_of a ++ (l ∷ []) = x.closed new ∙ ap (λ r. lines_of a ++ r) (ap lines_of (sym (append-nil new)) ∙ closed_line (drop at input) [] short) in
          record {
            in_line = x.in_line;
            within = omega arith;
            closed = λ b. rw part (ap lines_of (append_assoc a new b) ∙ x.closed (new ++ b) ∙ ap (λ r. lines_of a ++ r) (closed_line (drop at input) b short) ∙ sym (ap (λ r. r ++ lines_of b) now ∙ append_assoc (lines_of a) (l ∷ []) (lines_of b)));
            skips = rw (part, now) (skip_more word (lines_of a) l x.skips (skip_one word l (seen l (closed_text (drop at input) short) t)));
            count = rw (part, now, length-append (lines_of a) (l ∷ []), x.count);
          }

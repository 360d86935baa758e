-- The replacements so far, and where they stand. Assumes nothing.
use Prim.Native.Nat.{ℕ, ◌+◌, ◌-◌, ◌*◌, ◌≤◌, ◌<◌}
use native.Mathlib.Omega.{arith}
use mathlib.Core.Path.{◌≡◌, refl, sym, ap, ◌∙◌}
use mathlib.Core.Bool.{Bool, true, false}
use mathlib.Core.List.{List, [], ◌∷◌, ◌++◌, map}
use mathlib.Core.Option.{Option, none, some}
use lib.Dec.{eqb}
use lib.ListN.{length, get_or, set, replicate, length-append, length-set}
use Rattle.std.specs.List.{sum_by}
use Rattle.std.proofs.lemmas.List.Sums.{sum_by-set}
use Rattle.std.proofs.lemmas.List.Folds.{sum_by-replicate}
use lib.Seq.{get_or-set_same, get_or-set_other}
use borrow.Author.Tests.{eqb-true, eqb-false, ne_eqb}
use Rattle.bmap.specs.Plain.{either, if_else, maybe, any, flat, numbers}
use Rattle.bmap.specs.Line.{stored}
use Rattle.bmap.specs.Supplement.{Replacement, replaces, payload_in, in_supplement, Part, replacement_part}
use Rattle.bmap.specs.Laying.{bytes_of}
use Rattle.bmap.proofs.PlainLaws.{flat_one}
use Rattle.bmap.proofs.NumbersLaws.{map_length, map_at}
use Rattle.domain.proofs.Rows.{length_snoc, map_snoc, numbers_all}
use Rattle.supplement.specs.Check.{count_place, over_of}

abbrev pub gives : ℕ → Replacement → Bool
gives n r = eqb (replaces r) n

-- ---- where a number's replacement stands

-- the law of a replacement whose frame stands at a place
abbrev part_of : ℕ → Replacement → Part
part_of at r = record { stands = in_supplement (at + 4); bytes = payload_in r.frame }

-- one replacement more
part_snoc : (at : ℕ) (s : List Replacement) (r : Replacement) (n : ℕ)
    → replacement_part at (s ++ (r ∷ [])) n ≡ maybe (replacement_part at s n) (if_else (gives n r) (some (part_of (at + length (bytes_of s)) r)) none) some
unfolding replacement_part flat
part_snoc at [] r n = ap (λ (k : ℕ). if_else (gives n r) (some (part_of k r)) none) (omega arith)
part_snoc at (q ∷ s) r n = go (gives n q) (part_snoc (at + length (stored q.frame)) s r n)
  where
    behind : at + length (stored q.frame) + length (bytes_of s) ≡ at + length (stored q.frame ++ bytes_of s)
    behind = omega (arith, length-append (stored q.frame) (bytes_of s))

    go : (t : Bool)
        → replacement_part (at + length (stored q.frame)) (s ++ (r ∷ [])) n ≡ maybe (replacement_part (at + length (stored q.frame)) s n) (if_else (gives n r) (some (part_of (at + length (stored q.frame) + length (bytes_of s)) r)) none) some
        → if_else t (some (part_of at q)) (replacement_part (at + length (stored q.frame)) (s ++ (r ∷ [])) n)
        ≡ maybe (if_else t (some (part_of at q)) (replacement_part (at + length (stored q.frame)) s n)) (if_else (gives n r) (some (part_of (at + length (stored q.frame ++ bytes_of s)) r)) none) some
    go true h = refl
    go false h = h ∙ ap (λ (k : ℕ). maybe (replacement_part (at + length (stored q.frame)) s n) (if_else (gives n r) (some (part_of k r)) none) some) behind

-- a number that no replacement gives has no part, any other one behind a count
pub not_given : (at : ℕ) (s : List Replacement) (n : ℕ) → any (gives n) s ≡ false → replacement_part at s n ≡ none
unfolding replacement_part any
not_given at [] n e = refl
not_given at (q ∷ s) n e = go (gives n q) e (not_given (at + length (stored q.frame)) s n)
  where
    go : (t : Bool) → either t (any (gives n) s) ≡ false → (any (gives n) s ≡ false → replacement_part (at + length (stored q.frame)) s n ≡ none)
        → if_else t (some (part_of at q)) (replacement_part (at + length (stored q.frame)) s n) ≡ none
    go true h rec = absurd cc
    go false h rec = rec h

pub given : (at : ℕ) (s : List Replacement) (n : ℕ) → any (gives n) s ≡ true → 1 ≤ count_place (replacement_part at s n)
unfolding replacement_part any
given at [] n e = absurd cc
given at (q ∷ s) n e = go (gives n q) e (given (at + length (stored q.frame)) s n)
  where
    go : (t : Bool) → either t (any (gives n) s) ≡ true → (any (gives n) s ≡ true → 1 ≤ count_place (replacement_part (at + length (stored q.frame)) s n))
        → 1 ≤ count_place (if_else t (some (part_of at q)) (replacement_part (at + length (stored q.frame)) s n))
    go true h rec = omega arith
    go false h rec = rec h

-- ---- of each law number

abbrev over_at : List Replacement → ℕ → ℕ
over_at s n = count_place (replacement_part 0 s n)

pub over_length : (s : List Replacement) → length (over_of s) ≡ 128
unfolding over_of
over_length s = map_length (over_at s) 0 128

pub over_at_lem : (s : List Replacement) (n : ℕ) → n < 128 → get_or (over_of s) n 0 ≡ over_at s n
unfolding over_of
over_at_lem s n h = map_at (over_at s) 128 n 0 h

-- how many numbers have no replacement
abbrev pub one : Bool → ℕ
one true = 1
one false = 0

abbrev pub free : List ℕ → ℕ
free l = sum_by (λ x. one (eqb x 0)) l

module _ (s : List Replacement) (r : Replacement) (new : any (gives (replaces r)) s ≡ false) (few : replaces r < 128) where
  over_next_at : (n : ℕ) → n < 128 → over_at (s ++ (r ∷ [])) n ≡ get_or (set (over_of s) (replaces r) (length (bytes_of s) + 1)) n 0
  over_next_at n h = ap count_place (part_snoc 0 s r n) ∙ go (gives n r) refl
    where
      same : (o : Option Part) → count_place (maybe o none some) ≡ count_place o
      same none = refl
      same (some p) = refl

      go : (t : Bool) → gives n r ≡ t
          → count_place (maybe (replacement_part 0 s n) (if_else t (some (part_of (0 + length (bytes_of s)) r)) none) some) ≡ get_or (set (over_of s) (replaces r) (length (bytes_of s) + 1)) n 0
      go true q =
          let e : replaces r ≡ n = eqb-true (replaces r) n q in
          let none_there : replacement_part 0 s n ≡ none = ap (replacement_part 0 s) (sym e) ∙ not_given 0 s (replaces r) new in
          let z : 0 + length (bytes_of s) + 4 - 3 ≡ length (bytes_of s) + 1 = omega arith in
          ap (λ (o : Option Part). count_place (maybe o (some (part_of (0 + length (bytes_of s)) r)) some)) none_there
          ∙ z
          ∙ sym (get_or-set_same (over_of s) (replaces r) (length (bytes_of s) + 1) 0 (omega (arith, over_length s)))
          ∙ ap (λ (i : ℕ). get_or (set (over_of s) (replaces r) (length (bytes_of s) + 1)) i 0) e
      go false q =
          same (replacement_part 0 s n)
          ∙ sym (over_at_lem s n h)
          ∙ sym (get_or-set_other (over_of s) (replaces r) n (length (bytes_of s) + 1) 0 (λ z. eqb-false (replaces r) n q (sym z)))

  over_more : set (over_of s) (replaces r) (length (bytes_of s) + 1) ≡ over_of (s ++ (r ∷ []))
  unfolding over_of
  over_more =
      let l = set (over_of s) (replaces r) (length (bytes_of s) + 1) in
      let size : length l ≡ 128 = length-set (over_of s) (replaces r) (length (bytes_of s) + 1) ∙ over_length s in
      sym (numbers_all (over_at (s ++ (r ∷ []))) 0 l (λ n h. over_next_at n (omega (arith, size))))
      ∙ ap (λ (k : ℕ). map (over_at (s ++ (r ∷ []))) (numbers 0 k)) size

-- ---- after some replacements

pub record Over (earlier : List Replacement) (over : List ℕ) (at : ℕ) : Type 0 where
  pub places : over ≡ over_of earlier
  pub here : at ≡ length (bytes_of earlier)
  pub before : at ≤ 122 * length earlier
  -- each of them took a number
  pub rest : length earlier + free over ≡ 128

module _ {earlier : List Replacement} {over : List ℕ} {at : ℕ} (h : Over earlier over at) where
  pub over_most : at ≤ 15_616
  over_most = omega (arith, h.before, h.rest)

  pub over_long : length over ≡ 128
  over_long = ap length h.places ∙ over_length earlier

  pub over_here : (n : ℕ) → n < 128 → get_or over n 0 ≡ over_at earlier n
  over_here n k = ap (λ (l : List ℕ). get_or l n 0) h.places ∙ over_at_lem earlier n k

  -- one more, whose number is new
  pub over_next : (r : Replacement) → any (gives (replaces r)) earlier ≡ false → replaces r < 128 → length r.frame.payload ≤ 120
      → Over (earlier ++ (r ∷ [])) (set over (replaces r) (at + 1)) (at + length (stored r.frame))
  unfolding flat
  over_next r new few short =
      let n = length_snoc earlier r in
      record {
        places =
            ap (λ (l : List ℕ). set l (replaces r) (at + 1)) h.places ∙ ap (λ (k : ℕ). set (over_of earlier) (replaces r) (k + 1)) h.here
            ∙ over_more earlier r new few;
        here =
            ap (λ (k : ℕ). k + length (stored r.frame)) h.here ∙ sym (length-append (bytes_of earlier) (stored r.frame))
            ∙ ap length (sym (ap flat (map_snoc (λ (q : Replacement). stored q.frame) earlier r) ∙ flat_one (map (λ (q : Replacement). stored q.frame) earlier) (stored r.frame)));
        before = omega (arith, h.before, n, short);
        rest =
            let free_there : get_or over (replaces r) 0 ≡ 0 = over_here (replaces r) few ∙ ap count_place (not_given 0 earlier (replaces r) new) in
            let taken = sum_by-set (λ x. one (eqb x 0)) over (replaces r) (at + 1) 0 (omega (arith, over_long)) in
            omega (arith, h.rest, n, taken, ap (λ (x : ℕ). one (eqb x 0)) free_there, ap one (ne_eqb (at + 1) 0 (λ z. omega arith)));
      }

pub over_first : Over [] (replicate 128 0) 0
unfolding over_of numbers replacement_part flat
over_first = record { places = refl; here = refl; before = omega arith; rest = sum_by-replicate (λ x. one (eqb x 0)) 128 0 }

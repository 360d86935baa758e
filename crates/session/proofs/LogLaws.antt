-- Laws of the log: the edits that its entries read as, how they are written, and what they leave when they are done in turn.
-- Assumes nothing.
use mathlib.Core.Path.{◌≡◌, refl, sym, ap, ◌∙◌}
use mathlib.Core.Bool.{Bool, true, false}
use mathlib.Core.List.{List, [], ◌∷◌, ◌++◌, append_assoc, append-nil}
use Prim.Native.Nat.{ℕ, zero, suc, ◌+◌, ◌-◌, ◌*◌, ◌≤◌}
use native.Mathlib.Omega.{arith}
use lib.Dec.{eqb}
use lib.ListN.{length, get_or, take, drop, length-append}
use lib.Seq.{take_at, drop_at, drop-drop, take-add, take-take, get_or-take}
use Rattle.bmap.specs.Plain.{if_else}
use Rattle.bmap.specs.Refusal.{got}
use Rattle.bmap.specs.Domain.{Names}
use Rattle.bmap.specs.Session.{Edit, enter, strike, amend, edited, replayed, logged, logged_all, edit_from, edits_from}
use Rattle.session.specs.Log.{Sound}
use Rattle.session.proofs.ListLaws.{length_padded}
use Rattle.session.proofs.SheetLaws.{got_inj, one_more, prefix_got, replayed_fits, Fits}

-- ---- the edits of a log
-- the edit that an entry, at the front, reads as
abbrev pub edit_at : ℕ → List ℕ → Edit
edit_at n l = edit_from (get_or l 0 0) (get_or l 1 0) (take n (drop 2 l))

pub length_edits : (n m : ℕ) (log : List ℕ) → length (edits_from n m log) ≡ m
unfolding edits_from
length_edits n zero log = refl
length_edits n (suc m) log = ap suc (length_edits n m (drop 18 log))

pub edits_split : (n j i : ℕ) (log : List ℕ) → edits_from n (j + i) log ≡ edits_from n j log ++ edits_from n i (drop (j * 18) log)
unfolding edits_from
edits_split n zero i log = let e : 0 + i ≡ i = omega arith in rw e
edits_split n (suc j) i log =
    let e : suc j + i ≡ suc (j + i) = omega arith in
    let f : suc j * 18 ≡ 18 + j * 18 = omega arith in
    rw (e, edits_split n j i (drop 18 log), drop-drop (j * 18) 18 log, f)

pub edits_next : (n k : ℕ) (log : List ℕ) → edits_from n (k + 1) log ≡ edits_from n k log ++ (edit_at n (drop (k * 18) log) ∷ [])
unfolding edits_from
edits_next n k log = edits_split n k 1 log

pub edits_upto : (n j m : ℕ) (log : List ℕ) → j ≤ m → edits_from n m log ≡ edits_from n j log ++ edits_from n (m - j) (drop (j * 18) log)
edits_upto n j m log h =
    let e : m ≡ j + (m - j) = omega arith in
    ap (λ (i : ℕ). edits_from n i log) e ∙ edits_split n j (m - j) log

-- ---- how edits are written
pub logged_append : (xs ys : List Edit) → logged_all (xs ++ ys) ≡ logged_all xs ++ logged_all ys
unfolding logged_all
logged_append [] ys = refl
logged_append (x ∷ xs) ys = rw (logged_append xs ys) (sym (append_assoc (logged x) (logged_all xs) (logged_all ys)))

pub logged_one : (xs : List Edit) (e : Edit) → logged_all (xs ++ (e ∷ [])) ≡ logged_all xs ++ logged e
unfolding logged_all
logged_one xs e = logged_append xs (e ∷ []) ∙ ap (λ (l : List ℕ). logged_all xs ++ l) (append-nil (logged e))

-- an edit that an entry has room for
abbrev pub Short : Edit → Type 0
Short (enter names) = length names ≤ 16
Short strike = Unit {0}
Short (amend k names) = length names ≤ 16

abbrev pub AllShort : List Edit → Type 0
AllShort [] = Unit {0}
AllShort (e ∷ es) = Short e × AllShort es

pub length_logged : (e : Edit) → Short e → length (logged e) ≡ 18
unfolding logged
length_logged (enter names) s = omega (arith, length_padded 16 names s)
length_logged strike s = refl
length_logged (amend k names) s = omega (arith, length_padded 16 names s)

pub length_all : (es : List Edit) → AllShort es → length (logged_all es) ≡ length es * 18
unfolding logged_all
length_all [] s = refl
length_all (e ∷ es) s = omega (arith, length-append (logged e) (logged_all es), length_logged e s.0, length_all es s.1)

pub take_short : (j : ℕ) (l : List ℕ) → length (take j l) ≤ j
take_short zero l = omega arith
take_short (suc j) [] = omega arith
take_short (suc j) (x ∷ l) = omega (arith, take_short j l)

short_from : (k m : ℕ) (names : List ℕ) → length names ≤ 16 → Short (edit_from k m names)
short_from k m names h = by_tests (eqb k 1) (eqb k 3)
  where
    by_tests : (a b : Bool) → Short (if_else a (enter names) (if_else b (amend m names) strike))
    by_tests true b = h
    by_tests false true = h
    by_tests false false = tt

pub edits_short : (n m : ℕ) (log : List ℕ) → n ≤ 16 → AllShort (edits_from n m log)
unfolding edits_from
edits_short n zero log h = tt
edits_short n (suc m) log h = (short_from (get_or log 0 0) (get_or log 1 0) (take n (drop 2 log)) (omega (arith, take_short n (drop 2 log))), edits_short n m (drop 18 log) h)

pub length_edits_logged : (n m : ℕ) (log : List ℕ) → n ≤ 16 → length (logged_all (edits_from n m log)) ≡ m * 18
length_edits_logged n m log h = omega (arith, length_all (edits_from n m log) (edits_short n m log h), length_edits n m log)

-- ---- an entry by itself
take_drop_take : (n : ℕ) (l : List ℕ) → n ≤ 16 → take n (drop 2 (take 18 l)) ≡ take n (drop 2 l)
take_drop_take n [] h = refl
take_drop_take n (a ∷ []) h = refl
take_drop_take n (a ∷ b ∷ l) h = take-take n 16 l h

pub entry_edit : (n : ℕ) (l : List ℕ) → n ≤ 16 → edit_at n (take 18 l) ≡ edit_at n l
entry_edit n l h = rw (get_or-take 18 l 0 0 (omega arith), get_or-take 18 l 1 0 (omega arith), take_drop_take n l h)

-- ---- a sound log
module _ (n : ℕ) (log : List ℕ) where
  pub none_written : [] ≡ logged_all (edits_from n 0 log)
  unfolding edits_from logged_all
  none_written = refl

  pub none_leaves : replayed n (edits_from n 0 log) [] ≡ got []
  unfolding edits_from replayed
  none_leaves = refl

  abbrev pub sound_none : Sound n 0 log
  sound_none = record { sheet = []; written = none_written; leaves = none_leaves }

  pub sound_sheet : (k : ℕ) (a b : Sound n k log) → a.sheet ≡ b.sheet
  sound_sheet k a b = got_inj a.sheet b.sheet (sym a.leaves ∙ b.leaves)

  pub sound_fits : (k : ℕ) (a : Sound n k log) → Fits n a.sheet
  sound_fits k a = replayed_fits n (edits_from n k log) [] a.sheet a.leaves (tt, omega arith)

  abbrev pub sound_more : (k : ℕ) (a : Sound n k log) (t : List Names) → take 18 (drop (k * 18) log) ≡ logged (edit_at n (drop (k * 18) log))
      → edited n (edit_at n (drop (k * 18) log)) a.sheet ≡ got t → Sound n (k + 1) log
  sound_more k a t w d =
      let e : Edit = edit_at n (drop (k * 18) log) in
      let f : (k + 1) * 18 ≡ k * 18 + 18 = omega arith in
      record {
        sheet = t;
        written = rw (f, take-add (k * 18) 18 log, w, a.written, edits_next n k log) (sym (logged_one (edits_from n k log) e));
        leaves = rw (edits_next n k log) (one_more n (edits_from n k log) e [] a.sheet a.leaves ∙ d);
      }

  module _ (few : n ≤ 16) where
    pub sound_prefix : (j m : ℕ) → j ≤ m → Sound n m log → Sound n j log
    sound_prefix j m h a =
        let xs : List Edit = edits_from n j log in
        let ys : List Edit = edits_from n (m - j) (drop (j * 18) log) in
        let p = prefix_got n xs ys [] a.sheet (sym (ap (λ (es : List Edit). replayed n es []) (edits_upto n j m log h)) ∙ a.leaves) in
        record {
          sheet = p.0;
          written =
              sym (take-take (j * 18) (m * 18) log (omega arith))
              ∙ ap (take (j * 18)) (a.written ∙ ap logged_all (edits_upto n j m log h) ∙ logged_append xs ys)
              ∙ take_at (logged_all xs) (logged_all ys) (j * 18) (length_edits_logged n j log few);
          leaves = p.1;
        }

    -- the entry after those that are done
    pub sound_entry : (k : ℕ) → Sound n (k + 1) log → take 18 (drop (k * 18) log) ≡ logged (edit_at n (drop (k * 18) log))
    sound_entry k a =
        let e : Edit = edit_at n (drop (k * 18) log) in
        let xs : List Edit = edits_from n k log in
        let f : (k + 1) * 18 ≡ k * 18 + 18 = omega arith in
        let b : Sound n k log = sound_prefix k (k + 1) (omega arith) a in
        let both : logged_all xs ++ take 18 (drop (k * 18) log) ≡ logged_all xs ++ logged e =
        ap (λ (l : List ℕ). l ++ take 18 (drop (k * 18) log)) (sym b.written) ∙ sym (take-add (k * 18) 18 log) ∙ ap (λ (i : ℕ). take i log) (sym f) ∙ a.written ∙ ap logged_all (edits_next n k log) ∙ logged_one xs e in
        let l = length_edits_logged n k log few in
        sym (drop_at (logged_all xs) (take 18 (drop (k * 18) log)) (k * 18) l) ∙ ap (drop (k * 18)) both ∙ drop_at (logged_all xs) (logged e) (k * 18) l

    pub sound_does : (k : ℕ) (a : Sound n k log) (b : Sound n (k + 1) log) → edited n (edit_at n (drop (k * 18) log)) a.sheet ≡ got b.sheet
    sound_does k a b =
        sym (one_more n (edits_from n k log) (edit_at n (drop (k * 18) log)) [] a.sheet a.leaves) ∙ ap (λ (es : List Edit). replayed n es []) (sym (edits_next n k log)) ∙ b.leaves

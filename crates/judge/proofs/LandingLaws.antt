-- The new state, level by level, and check 5. Assumes nothing.
use Prim.Native.Nat.{ℕ, ◌+◌, ◌*◌, ◌≤◌, ◌<◌}
use mathlib.Core.Path.{◌≡◌, refl, sym, ap, subst, ◌∙◌}
use mathlib.Core.List.{List, [], map}
use mathlib.Core.Bool.{Bool, true, false}
use native.Mathlib.Numerals.{add-one}
use native.Mathlib.Omega.{arith}
use native.Mathlib.Decide.{dec_lt}
use lib.Dec.{eqb, leb}
use lib.IntN.{ℤ, pos, negsuc}
use lib.ListN.{length, get_or, set, take, drop}
use lib.Seq.{get_or-set_same, get_or-set_other, length-take-le}
use lib.Signed.{mag, le_z}
use mir.Syntax.{w16, w32}
use mir.Val.{to_z, of_z}
use borrow.Author.Tests.{leb-true, eqb-true, eqb-false, ne_eqb}
use Rattle.bmap.specs.Plain.{both, if_else, numbers}
use Rattle.bmap.specs.Number.{apart}
use Rattle.bmap.specs.Domain.{Domain, Fluent, State}
use Rattle.bmap.specs.Judge.{Pass, pass, fine, fault, next, unless, each_from, each, Setting, level_after, state_after, slow, fits}
use Rattle.law.specs.Evaluate.{row_size, cell_at}
use Rattle.number.proofs.BackLaws.{back32, back16}
use Rattle.judge.specs.Answer.{kind_of}
use Rattle.judge.specs.States.{state_at, leaving}
use Rattle.judge.specs.Settings.{no_setting, settings_of}
use Rattle.judge.specs.declared.reading.Setting.{Setting as Wanted}
use Rattle.judge.specs.Landing.{fit_of, Ranged, Laid, ranged}
use Rattle.index.specs.declared.Fluent.{Fluent as Row}
use Rattle.index.specs.Index.{no_fluent, fluent_said}
use Rattle.std.specs.Prelude.{Option, Some, None, Result, Ok, Err}
use Rattle.judge.specs.declared.verdict.Fault.{Fault}
use Rattle.judge.specs.declared.verdict.Breach.{Breach}
use Rattle.bmap.proofs.NumbersLaws.{map_length, map_at}
use Rattle.judge.proofs.LoopLaws.{ends, stops, on, each_on, each_stop, each_none}
use Rattle.judge.proofs.StateLaws.{first_same, level_of, row_none, row_more, row_whole}

-- a number between two of 16 bits
pub between : (lo v hi : ℤ) → mag lo < 32768 → mag hi < 32768 → le_z lo v ≡ true → le_z v hi ≡ true → mag v < 32768
between lo (pos n) (pos h) p q r s = omega (arith, leb-true n h s)
between lo (pos n) (negsuc h) p q r s = absurd cc
between (pos l) (negsuc n) hi p q r s = absurd cc
between (negsuc l) (negsuc n) hi p q r s = omega (arith, leb-true n l r)

-- ---- a list that is filled from the front

pub filled_more : {A : Type 0} (z : A) (g : ℕ → A) (l : List A) (f : ℕ) {v : A} → f < length l → ((k : ℕ) → k < f → get_or l k z ≡ g k) → v ≡ g f → (k : ℕ) → k < f + 1 → get_or (set l f v) k z ≡ g k
filled_more z g l f {v} h before e k p = elim (dec_lt k f) [
  | yes q ↦ get_or-set_other l f k v z (λ r. omega arith) ∙ before k q
  | no q ↦ let y : k ≡ f = omega arith in ap (λ (i : ℕ). get_or (set l f v) i z) y ∙ (get_or-set_same l f v z h ∙ (e ∙ ap g (sym y)))
]

-- ---- settings over old levels

-- none: the old levels, written one by one
pub old_laid : (w j f : ℕ) (history new : List ℤ) → w ≤ f → ((g : ℕ) → g < f → get_or new g (pos 0) ≡ cell_at history j g) → Laid w new [] (state_at w history j)
unfolding level_after
old_laid w j f history new h e g p = e g (omega arith) ∙ sym (level_of w j g history p)

pub laid_none : (w : ℕ) (new : List ℤ) (list : List Wanted) (old : State) → Laid w new [] old → Laid w new (settings_of 0 list) old
unfolding settings_of
laid_none w new list old laid = laid

over_one : (b : Bool) (w : ℕ) (new : List ℤ) (f g : ℕ) (v : ℤ) (rest : ℤ) → eqb f g ≡ b → g < length new → get_or new g (pos 0) ≡ rest → get_or (set new f v) g (pos 0) ≡ if_else b v rest
over_one true w new f g v rest t h e = let q : f ≡ g = eqb-true f g t in ap (λ (i : ℕ). get_or (set new i v) g (pos 0)) q ∙ get_or-set_same new g v (pos 0) h
over_one false w new f g v rest t h e = get_or-set_other new f g v (pos 0) (λ q. eqb-false f g t (sym q)) ∙ e

module _ (w i : ℕ) (new : List ℤ) (list : List Wanted) (old : State) (laid : Laid w new (settings_of i list) old) where
  abbrev new_one : Wanted
  new_one = get_or list i no_setting

  pub laid_more : {v : ℤ} → w ≤ length new → v ≡ new_one.level → Laid w (set new new_one.fluent v) (settings_of (i + 1) list) old
  unfolding settings_of level_after
  laid_more {v} h q g r =
      over_one (eqb new_one.fluent g) w new new_one.fluent g v (level_after (settings_of i list) g (get_or old g (pos 0))) refl (omega arith) (laid g r)
      ∙ (ap (λ (y : ℤ). if_else (eqb new_one.fluent g) y (level_after (settings_of i list) g (get_or old g (pos 0)))) q
      ∙ ap (λ (n : ℕ). level_after (settings_of n list) g (get_or old g (pos 0))) (sym (add-one i)))

  -- a fluent that is none
  pub laid_past : w ≤ new_one.fluent → Laid w new (settings_of (i + 1) list) old
  unfolding settings_of level_after
  laid_past h g r = laid g r ∙ (sym (ap (λ (b : Bool). if_else b new_one.level (level_after (settings_of i list) g (get_or old g (pos 0)))) (ne_eqb new_one.fluent g (λ e. omega arith))) ∙ ap (λ (n : ℕ). level_after (settings_of n list) g (get_or old g (pos 0))) (sym (add-one i)))

-- ---- a level within its bounds

module _ (lo v hi : ℤ) where
  pub fit_in : le_z lo v ≡ true → le_z v hi ≡ true → Some v ≡ fit_of lo v hi
  unfolding fit_of
  fit_in p q = rw (p, q)

  pub fit_above : le_z lo v ≡ true → le_z v hi ≡ false → None ≡ fit_of lo v hi
  unfolding fit_of
  fit_above p q = rw (p, q)

  pub fit_below : le_z lo v ≡ false → None ≡ fit_of lo v hi
  unfolding fit_of
  fit_below p = rw p

fit_cases : (t : Bool) (v : ℤ) {z : ℤ} → if_else t (Some v) None ≡ Some z → (v ≡ z) × (t ≡ true)
fit_cases true v e = ((cc), refl)
fit_cases false v e = absurd cc

fit_cases_out : (t : Bool) (v : ℤ) → if_else t (Some v) None ≡ None → t ≡ false
fit_cases_out true v e = absurd cc
fit_cases_out false v e = refl

module _ (lo v hi : ℤ) {r : Option ℤ} (l : mag lo < 32768) (h : mag hi < 32768) (w : mag v < 2147483648)
    (e : r ≡ fit_of (to_z w16 (of_z w16 lo)) (to_z w32 (of_z w32 v)) (to_z w16 (of_z w16 hi))) where
  fit_back : r ≡ fit_of lo v hi
  fit_back = e ∙ (ap (λ (z : ℤ). fit_of z (to_z w32 (of_z w32 v)) (to_z w16 (of_z w16 hi))) (back16 lo l) ∙ (ap (λ (z : ℤ). fit_of lo z (to_z w16 (of_z w16 hi))) (back32 v w) ∙ ap (fit_of lo v) (back16 hi h)))

  pub fit_told : {z : ℤ} → r ≡ Some z → (v ≡ z) × (both (le_z lo v) (le_z v hi) ≡ true)
  unfolding fit_of
  fit_told q = fit_cases (both (le_z lo v) (le_z v hi)) v (sym fit_back ∙ q)

  pub unfit_told : r ≡ None → both (le_z lo v) (le_z v hi) ≡ false
  unfolding fit_of
  unfit_told q = fit_cases_out (both (le_z lo v) (le_z v hi)) v (sym fit_back ∙ q)

-- ---- a change within its limit

module _ (limit : ℕ) (old new : ℤ) where
  pub no_limit : limit ≡ 0 → true ≡ slow limit old new
  no_limit e = rw e

  module _ {r : Bool} (p : mag old < 32768) (q : mag new < 32768) where
    pub a_limit : (limit ≡ 0 → ⊥) → r ≡ leb (apart (to_z w16 (of_z w16 old)) (to_z w16 (of_z w16 new))) limit → r ≡ slow limit old new
    a_limit h e = e ∙ rw (ne_eqb limit 0 h, back16 old p, back16 new q)

    pub slow_back : r ≡ slow limit (to_z w16 (of_z w16 old)) (to_z w16 (of_z w16 new)) → r ≡ slow limit old new
    slow_back e = e ∙ rw (back16 old p, back16 new q)

-- ---- check 5

abbrev pub level_then : List Setting → State → ℕ → ℤ
level_then settings old = λ f. level_after settings f (get_or old f (pos 0))

-- some fluent, where there is none
abbrev pub no_range : Fluent
no_range = fluent_said no_fluent

-- what is asked of each fluent
abbrev asks : Domain → List Setting → State → ℕ → Fluent → Pass
asks d settings old = fits old (state_after d settings old)

-- fluent by fluent: the first f levels stored as those of state j + 1, and nothing to say against them
pub record Put (d : Domain) (settings : List Setting) (old : State) (j f : ℕ) (history : List ℤ) : Type 0 where
  pub levels : take f (drop (row_size * (j + 1)) history) ≡ map (level_then settings old) (numbers 0 f)
  pub passed : each (asks d settings old) d.fluents ≡ each_from f (asks d settings old) (drop f d.fluents)

pub put_none : (d : Domain) (settings : List Setting) (old : State) (j : ℕ) (h : List ℤ) → Put d settings old j 0 h
put_none d settings old j h = record { levels = row_none (level_then settings old) (row_size * (j + 1)) h; passed = refl }

-- how many fluents there are, and which
module _ (d : Domain) (fluents : List Row) (w : ℕ) (ranges : Ranged d fluents w) where
  pub range_count : length d.fluents ≡ w
  range_count = ap length ranges ∙ map_length (λ f. fluent_said (get_or fluents f no_fluent)) 0 w

  pub range_at : (f : ℕ) → f < w → get_or d.fluents f no_range ≡ fluent_said (get_or fluents f no_fluent)
  range_at f h = ap (λ (l : List Fluent). get_or l f no_range) ranges ∙ map_at (λ f. fluent_said (get_or fluents f no_fluent)) w f no_range h

module _ (d : Domain) (settings : List Setting) (old : State) (fluents : List Row) (w : ℕ) (ranges : Ranged d fluents w) where
  pub after_is : state_after d settings old ≡ map (level_then settings old) (numbers 0 w)
  unfolding state_after
  after_is = ap (λ (n : ℕ). map (level_then settings old) (numbers 0 n)) (range_count d fluents w ranges)

  -- what is asked of the new level v of fluent f
  module _ (f : ℕ) {v : ℤ} (p : f < w) (u : v ≡ level_then settings old f) where
    here : get_or (state_after d settings old) f (pos 0) ≡ v
    here = ap (λ (s : State). get_or s f (pos 0)) after_is ∙ (map_at (level_then settings old) w f (pos 0) p ∙ sym u)

    abbrev row : Row
    row = get_or fluents f no_fluent

    abbrev InRange : Bool → Type 0
    InRange b = both (le_z row.lowest v) (le_z v row.highest) ≡ b

    abbrev asked : Pass
    asked = asks d settings old f (get_or d.fluents f no_range)

    both_asked : {b t : Bool} → InRange b → slow row.limit (get_or old f (pos 0)) v ≡ t → asked ≡ next (unless 5 f b) (λ _. unless 10 f t)
    unfolding fits
    both_asked e g = rw (here, range_at d fluents w ranges f p, e, g)

    pub out_is : InRange false → asked ≡ fault 5 f
    out_is e = both_asked e refl

    pub slow_is : {t : Bool} → InRange true → slow row.limit (get_or old f (pos 0)) v ≡ t → asked ≡ unless 10 f t
    slow_is e g = both_asked e g

  pub put_more : (j f : ℕ) {v : ℤ} (h : List ℤ) → f < w → row_size * (j + 1) + f < length h → Put d settings old j f h → v ≡ level_then settings old f → asks d settings old f (get_or d.fluents f no_range) ≡ pass
      → Put d settings old j (f + 1) (set h (row_size * (j + 1) + f) v)
  put_more j f {v} h p room so_far u e = record {
    levels = row_more (level_then settings old) (row_size * (j + 1)) f v h room so_far.levels u;
    passed = so_far.passed ∙ on (λ k q. each_from k (asks d settings old) q) d.fluents no_range f (omega (arith, range_count d fluents w ranges)) (each_on (asks d settings old) f _ _ e);
  }

  pub put_fault : (j f : ℕ) (h : List ℤ) (s : State) (x : Fault) → f < w → Put d settings old j f h → asks d settings old f (get_or d.fluents f no_range) ≡ fault (kind_of x) f → leaving (Err (record { fault = x; number = f })) s ≡ ranged d settings old
  put_fault j f h s x p so_far e = rw (so_far.passed ∙ stops (λ k q. each_from k (asks d settings old) q) d.fluents no_range f (omega (arith, range_count d fluents w ranges)) (each_stop (asks d settings old) f _ _ e))

  pub put_all : (j f : ℕ) (h : List ℤ) → f ≡ w → Put d settings old j f h → leaving (Ok tt) (state_at w h (j + 1)) ≡ ranged d settings old
  put_all j f h e so_far =
      rw (so_far.passed ∙ (ends (λ k q. each_from k (asks d settings old) q) d.fluents no_range f (omega (arith, range_count d fluents w ranges)) ∙ each_none (asks d settings old) f))
      (ap fine (row_whole (level_then settings old) (row_size * (j + 1)) f w h e so_far.levels ∙ sym after_is))

-- ---- the first fluents alone

pub ranged_first : (d : Domain) (settings : List Setting) (fluents : List Row) (w : ℕ) → w ≤ length fluents → Ranged d fluents w → (new h h' : List ℤ) (j : ℕ) (r : Result (Unit {0}) Breach)
    → (Ranged d (take w fluents) (length (take w fluents)) → Laid (length (take w fluents)) new settings (state_at (length (take w fluents)) h j) → leaving r (state_at (length (take w fluents)) h' (j + 1)) ≡ ranged d settings (state_at (length (take w fluents)) h j))
    → Laid w new settings (state_at w h j) → leaving r (state_at w h' (j + 1)) ≡ ranged d settings (state_at w h j)
ranged_first d settings fluents w p ranges new h h' j r told =
    subst (λ (k : ℕ). Ranged d (take w fluents) k → Laid k new settings (state_at k h j) → leaving r (state_at k h' (j + 1)) ≡ ranged d settings (state_at k h j)) (length-take-le w fluents p) told
    (ranges ∙ first_same fluent_said no_fluent fluents w)

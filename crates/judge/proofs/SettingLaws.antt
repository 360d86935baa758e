-- The settings of a step, searched from the newest back, and the laws that make them. Assumes nothing.
use Prim.Native.Nat.{ℕ, zero, suc, ◌+◌, ◌-◌, ◌≤◌, ◌<◌}
use mathlib.Core.Path.{◌≡◌, refl, sym, ap, ◌∙◌}
use mathlib.Core.List.{List, [], ◌∷◌}
use mathlib.Core.Option.{some, none}
use mathlib.Core.Bool.{true, false}
use native.Mathlib.Numerals.{add-one}
use native.Mathlib.Omega.{arith}
use lib.IntN.{ℤ, pos, negsuc}
use lib.ListN.{length, get_or, take, drop, set}
use lib.Seq.{get_or-set_same, get_or-set_other, get_or-take, length-take-le}
use lib.Signed.{mag}
use mir.Syntax.{w32}
use mir.Val.{to_z, of_z}
use native.Mathlib.Decide.{dec_lt}
use borrow.Author.Tests.{eq-eqb, ne_eqb, le-leb, lt-leb}
use lib.Dec.{leb}
use Rattle.bmap.proofs.PlainLaws.{both_false}
use Rattle.bmap.specs.Plain.{all}
use Rattle.bmap.specs.Number.{value, no_value, same}
use Rattle.bmap.specs.declared.Reason.{Reason}
use Rattle.bmap.specs.Meaning.{History}
use Rattle.bmap.specs.Domain.{Domain, Names, Law, executable, effect, must}
use Rattle.bmap.specs.Judge.{fine, fault, trouble_kind, Setting, agrees, sets, settled}
use Rattle.index.specs.Index.{no_law}
use Rattle.number.proofs.BackLaws.{back32}
use Rattle.judge.specs.Told.{Says}
use Rattle.judge.specs.Settings.{said, no_setting, settings_of}
use Rattle.judge.specs.declared.reading.Setting.{Setting as Wanted}
use Rattle.judge.proofs.LoopLaws.{stops}
use Rattle.judge.proofs.CheckLaws.{says}

-- ---- the earlier settings of a fluent

pub settings_none : (new : Setting) (list : List Wanted) {i : ℕ} → i ≤ 0 → all (agrees new) (settings_of i list) ≡ true
unfolding settings_of all
settings_none new list {i} h = let z : i ≡ 0 = omega arith in rw z

module _ (new : Setting) (list : List Wanted) (i : ℕ) (h : 0 < i) where
  abbrev last : Wanted
  last = get_or list (i - 1) no_setting

  last_one : i ≡ suc (i - 1)
  last_one = omega arith

  pub settings_clash : last.fluent ≡ new.fluent → same last.level new.level ≡ false → all (agrees new) (settings_of i list) ≡ false
  unfolding settings_of all
  settings_clash e q = rw (last_one, eq-eqb last.fluent new.fluent e, q)

  pub settings_same : last.fluent ≡ new.fluent → same last.level new.level ≡ true → all (agrees new) (settings_of i list) ≡ all (agrees new) (settings_of (i - 1) list)
  unfolding settings_of all
  settings_same e q = ap (λ (n : ℕ). all (agrees new) (settings_of n list)) last_one ∙ rw (eq-eqb last.fluent new.fluent e, q)

  pub settings_other : (last.fluent ≡ new.fluent → ⊥) → all (agrees new) (settings_of i list) ≡ all (agrees new) (settings_of (i - 1) list)
  unfolding settings_of all
  settings_other e = ap (λ (n : ℕ). all (agrees new) (settings_of n list)) last_one ∙ rw (ne_eqb last.fluent new.fluent e)

settings_set : (n i : ℕ) (new : Wanted) (list : List Wanted) → n ≤ i → settings_of n (set list i new) ≡ settings_of n list
unfolding settings_of
settings_set zero i new list h = refl
settings_set (suc n) i new list h = rw (get_or-set_other list i n new no_setting (λ e. omega arith), settings_set n i new list (omega arith))

pub settings_put : (m : ℕ) (new : Wanted) (list : List Wanted) → m < length list → settings_of (m + 1) (set list m new) ≡ said new ∷ settings_of m list
unfolding settings_of
settings_put m new list p = rw (add-one m, get_or-set_same list m new no_setting p, settings_set m m new list (omega arith))

-- those at the front
settings_front : (m n : ℕ) (list : List Wanted) → m ≤ n → settings_of m (take n list) ≡ settings_of m list
unfolding settings_of
settings_front zero n list h = refl
settings_front (suc m) n list h = rw (get_or-take n list m no_setting (omega arith), settings_front m n list (omega arith))

pub settings_sliced : (m : ℕ) (list : List Wanted) → m ≤ length list → settings_of (length (take m list)) (take m list) ≡ settings_of m list
settings_sliced m list h = ap (λ (n : ℕ). settings_of n (take m list)) (length-take-le m list h) ∙ settings_front m m list (omega arith)

-- levels are the same by order twice, and by equality
same_self : (z : ℤ) → same z z ≡ true
same_self (pos n) = rw (le-leb n n (omega arith))
same_self (negsuc n) = rw (le-leb n n (omega arith))

same_if : {a b : ℤ} → a ≡ b → same a b ≡ true
same_if {a} {b} e = ap (same a) (sym e) ∙ same_self a

not_same : (a b : ℤ) → (a ≡ b → ⊥) → same a b ≡ false
not_same (pos m) (pos n) q = elim (dec_lt m n) [
  | yes h ↦ rw (lt-leb n m h, both_false (leb m n))
  | no h ↦ rw (lt-leb m n (elim (dec_lt n m) [ yes g ↦ g | no g ↦ absurd (q (ap pos (let z : m ≡ n = omega arith in z))) ]))
]
not_same (pos m) (negsuc n) q = refl
not_same (negsuc m) (pos n) q = refl
not_same (negsuc m) (negsuc n) q = elim (dec_lt m n) [
  | yes h ↦ rw (lt-leb n m h)
  | no h ↦ rw (lt-leb m n (elim (dec_lt n m) [ yes g ↦ g | no g ↦ absurd (q (ap negsuc (let z : m ≡ n = omega arith in z))) ]), both_false (leb n m))
]

pub same_bits : (x y : ℤ) → mag x < 2147483648 → mag y < 2147483648 → of_z w32 x ≡ of_z w32 y → same x y ≡ true
same_bits x y p q e = same_if (sym (back32 x p) ∙ (ap (to_z w32) e ∙ back32 y q))

pub other_bits : (x y : ℤ) → (of_z w32 x ≡ of_z w32 y → ⊥) → same x y ≡ false
other_bits x y n = not_same x y (λ e. n (ap (of_z w32) e))

-- ---- the effect laws

-- a law of another kind sets nothing
pub sets_none : (d : Domain) (h : History) (j : ℕ) (names : Names) (frame : List ℕ) (l : Law) → Says d frame l → (get_or frame 0 0 ≡ 0xA6 → ⊥) → sets d h j names l ≡ value none
unfolding sets
sets_none d h j names frame (executable e c) w n = refl
sets_none d h j names frame (effect e c f x) w n = absurd (n (says d frame (effect e c f x) w).0)
sets_none d h j names frame (must s c) w n = refl

module _ (d : Domain) (h : History) (j : ℕ) (names : Names) where
  pub settled_none : (k : ℕ) (done : List Setting) → settled d h j names k done [] ≡ fine done
  unfolding settled
  settled_none k done = refl

  pub settled_idle : (k : ℕ) (done : List Setting) (l : Law) (rest : List Law) → sets d h j names l ≡ value none → settled d h j names k done (l ∷ rest) ≡ settled d h j names (suc k) done rest
  unfolding settled
  settled_idle k done l rest e = rw e

  module _ (laws : List Law) (k : ℕ) (done : List Setting) (p : k < length laws) where
    here : {y : _} → settled d h j names k done (get_or laws k no_law ∷ drop (suc k) laws) ≡ y → settled d h j names k done (drop k laws) ≡ y
    here e = stops (λ i r. settled d h j names i done r) laws no_law k p e

    pub settled_blank : (why : Reason) → sets d h j names (get_or laws k no_law) ≡ no_value why → settled d h j names k done (drop k laws) ≡ fault (trouble_kind why) k
    unfolding settled
    settled_blank why e = here (rw e)

    pub settled_clash : {new : Setting} → sets d h j names (get_or laws k no_law) ≡ value (some new) → all (agrees new) done ≡ false → settled d h j names k done (drop k laws) ≡ fault 4 k
    unfolding settled
    settled_clash e q = here (rw (e, q))

    pub settled_leaves : {after : List Setting} → sets d h j names (get_or laws k no_law) ≡ value none → after ≡ done → settled d h j names k done (drop k laws) ≡ settled d h j names (k + 1) after (drop (k + 1) laws)
    unfolding settled
    settled_leaves e a = here (rw (e, add-one, a))

    pub settled_puts : {new : Setting} {after : List Setting} → sets d h j names (get_or laws k no_law) ≡ value (some new) → all (agrees new) done ≡ true → after ≡ new ∷ done
        → settled d h j names k done (drop k laws) ≡ settled d h j names (k + 1) after (drop (k + 1) laws)
    unfolding settled
    settled_puts e q a = here (rw (e, q, add-one, a))

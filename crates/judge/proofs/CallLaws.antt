-- The judgement as a call: its refusals in their order, and what it leaves in the levels buffer. Assumes nothing.
use Prim.Native.Nat.{ℕ, ◌+◌, ◌*◌, ◌/◌, ◌%◌, ◌≤◌, ◌<◌}
use mathlib.Core.Path.{◌≡◌, refl, sym, ap, ◌∙◌}
use mathlib.Core.Bool.{true}
use mathlib.Core.List.{List, []}
use native.Mathlib.Omega.{arith}
use native.Mathlib.Nat.{div-add-mod'}
use lib.IntN.{ℤ}
use lib.ListN.{length}
use borrow.Author.Tests.{eq-eqb, ne_eqb, le-leb, lt-leb}
use Rattle.bmap.specs.Plain.{flat}
use Rattle.bmap.specs.Limits.{most_steps, levels_size}
use Rattle.bmap.specs.Refusal.{Answer, got, refused, then}
use Rattle.bmap.specs.Domain.{Domain}
use Rattle.bmap.specs.Buffer.{over}
use Rattle.bmap.specs.Store.{domain_in}
use Rattle.bmap.specs.Sheet.{rows, sheet_of}
use Rattle.bmap.specs.Judge.{Judged, judge}
use Rattle.bmap.specs.Verdict.{judgement}
use Rattle.bmap.specs.Supplement.{Replacement, replaced, supplement_in, judge_under}
use Rattle.index.specs.Index.{domain_of}
use Rattle.supplement.specs.declared.under.Under.{Under}
use Rattle.supplement.proofs.Accepted.{UnderIs}
use Rattle.supplement.proofs.EmptyLaws.{zeros_judged}
use Rattle.supplement.proofs.Theorems.{empty_changes_nothing}
use Rattle.judge.specs.Answer.{states_in, states_written, states_written_under, judge_for, states_written_for, Bounded}
use Rattle.bmap.specs.declared.refusal.Refusal.TheVariants.{NoRoom, NotDomain}
use Rattle.judge.specs.Prepared.{InLimits, Anyhow}
use Rattle.std.specs.Prelude.{Result, Err}
use Rattle.bmap.specs.declared.refusal.Refusal.{Refusal}
use Rattle.judge.specs.declared.verdict.Judged as answered
use Rattle.judge.proofs.IndexLaws.{domain_here}

-- a sheet of whole steps
pub whole : (l a : ℕ) → l % a ≡ 0 → l ≡ l / a * a
whole l a e = let z : l / a * a + l % a ≡ l = div-add-mod' l a in omega arith

module _ (d : Domain) (a : ℕ) (sheet : List ℕ) (levels : List ℤ) where
  pub by_uneven : (length sheet % a ≡ 0 → ⊥) → (record { answer = refused 8; levels = levels } ≡ judgement levels (then (sheet_of a sheet) (λ steps. got (judge d steps)))) × (0 ≡ states_in (then (sheet_of a sheet) (λ steps. got (judge d steps))))
  unfolding sheet_of
  by_uneven n = rw (ne_eqb (length sheet % a) 0 n) (refl, refl)

  pub by_long : length sheet % a ≡ 0 → most_steps < length sheet / a → (record { answer = refused 9; levels = levels } ≡ judgement levels (then (sheet_of a sheet) (λ steps. got (judge d steps)))) × (0 ≡ states_in (then (sheet_of a sheet) (λ steps. got (judge d steps))))
  unfolding sheet_of
  by_long e h = rw (eq-eqb (length sheet % a) 0 e, lt-leb (length sheet / a) most_steps h) (refl, refl)

  pub by_steps : (j : Judged) (l : List ℤ) (n : ℕ) → n ≡ length j.states → length sheet % a ≡ 0 → length sheet / a ≤ most_steps → j ≡ judge d (rows a (length sheet / a) sheet) → l ≡ over (flat j.states) levels
      → (record { answer = got j.verdict; levels = l } ≡ judgement levels (then (sheet_of a sheet) (λ steps. got (judge d steps)))) × (n ≡ states_in (then (sheet_of a sheet) (λ steps. got (judge d steps))))
  unfolding sheet_of
  by_steps j l n c e h q p = rw (eq-eqb (length sheet % a) 0 e, le-leb (length sheet / a) most_steps h, ← q, p) (refl, c)

-- ---- the whole call

-- a refusal by the second of two, where the first has something to say to what follows
refused_second : {A B C : Type 0} (a : Answer A) (f : A → Answer B) (g : A → B → Answer C) {n : ℕ} → then a f ≡ refused n → then a (λ x. then (f x) (g x)) ≡ refused n
refused_second {A} {B} {C} (refused m) f g {n} e = let q : m ≡ n = cc in ap (λ (k : ℕ). refused k) q
refused_second {A} {B} {C} (got x) f g {n} e = ap (λ (b : Answer B). then b (g x)) e

module _ (store supplement sheet : List ℕ) (levels : List ℤ) where
  pub call_short : length levels < levels_size → (record { answer = refused 10; levels = levels } ≡ judge_under store supplement sheet levels) × (0 ≡ states_written_under store supplement sheet levels)
  unfolding judge_under states_written_under
  call_short h = rw (lt-leb levels_size (length levels) h) (refl, refl)

  pub call_none : levels_size ≤ length levels → then (domain_in store) (λ d. supplement_in d supplement) ≡ refused 15
      → (record { answer = refused 15; levels = levels } ≡ judge_under store supplement sheet levels) × (0 ≡ states_written_under store supplement sheet levels)
  unfolding judge_under states_written_under
  call_none h e =
      let none = refused_second (domain_in store) (λ (d : Domain). supplement_in d supplement) (λ (d : Domain) (s : List Replacement). then (sheet_of d.agents sheet) (λ steps. got (judge (replaced s d) steps))) e in
      rw (le-leb levels_size (length levels) h, none) (refl, refl)

  pub call_judged : {u : Under} (here : UnderIs store supplement u) → levels_size ≤ length levels
      → (judgement levels (then (sheet_of u.index.counts.agents sheet) (λ steps. got (judge (domain_here here) steps))) ≡ judge_under store supplement sheet levels)
      × (states_in (then (sheet_of u.index.counts.agents sheet) (λ steps. got (judge (domain_here here) steps))) ≡ states_written_under store supplement sheet levels)
  unfolding judge_under states_written_under domain_of
  call_judged here h = rw (le-leb levels_size (length levels) h, here.domain, here.accepted) (refl, refl)

-- ---- whatever was found

module _ (u : Under) (levels : List ℤ) (r : Result answered.Judged Refusal) where
  pub turned_short : r ≡ Err NoRoom → length levels < levels_size → Anyhow u levels r levels
  turned_short e h = rw e (record { bounded = record { few = omega arith; past = refl }; short = λ g. refl; unfound = λ g n. absurd (omega (arith, g, h)) })

  pub turned_unfound : r ≡ Err NotDomain → levels_size ≤ length levels → Anyhow u levels r levels
  turned_unfound e h = rw e (record { bounded = record { few = omega arith; past = refl }; short = λ g. absurd (omega (arith, g, h)); unfound = λ g n. refl })

  pub judged_anyhow : {left : List ℤ} → Bounded u.index.counts.fluents levels r left → levels_size ≤ length levels → u.ok ≡ true → InLimits u.index.counts → Anyhow u levels r left
  judged_anyhow b h ok limits = record { bounded = b; short = λ g. absurd (omega (arith, g, h)); unfound = λ g n. absurd (n ok limits) }

-- "an empty supplement changes nothing": what it answers is supplement's theorem
pub states_alike : (store sheet : List ℕ) (levels : List ℤ) → states_written_under store [] sheet levels ≡ states_written store sheet levels
unfolding states_written_under states_written
states_alike store sheet levels = ap states_in (zeros_judged store sheet levels 0)

-- ---- a sheet for so many agents

-- a store that is no domain with an empty supplement is none
no_domain : (a : Answer Domain) → then a (λ d. supplement_in d []) ≡ refused 15 → a ≡ refused 15
no_domain (refused m) e = let q : m ≡ 15 = cc in ap (λ (k : ℕ). refused k) q
no_domain (got d) e = let z : got [] ≡ refused 15 = sym (empty_changes_nothing.accepted d 0) ∙ e in cc

module _ (agents : ℕ) (store sheet : List ℕ) (levels : List ℤ) where
  -- what is judged, by what is answered
  abbrev For : Answer Judged → Type 0
  For a = (judgement levels a ≡ judge_for agents store sheet levels) × (states_in a ≡ states_written_for agents store sheet levels)

  pub for_short : length levels < levels_size → For (refused 10)
  unfolding judge_for states_written_for
  for_short h = rw (lt-leb levels_size (length levels) h) (refl, refl)

  module _ (h : levels_size ≤ length levels) where
    pub for_none : then (domain_in store) (λ d. supplement_in d []) ≡ refused 15 → For (refused 15)
    unfolding judge_for states_written_for
    for_none e = rw (le-leb levels_size (length levels) h, no_domain (domain_in store) e) (refl, refl)

    module _ {u : Under} (here : UnderIs store [] u) where
      pub for_other : (u.index.counts.agents ≡ agents → ⊥) → For (refused 16)
      unfolding judge_for states_written_for domain_of
      for_other n = rw (le-leb levels_size (length levels) h, here.domain, ne_eqb u.index.counts.agents agents n) (refl, refl)

      -- no law is replaced
      own : domain_here here ≡ domain_of store u.index
      own =
          let z : got here.replacements ≡ got [] = sym here.accepted ∙ empty_changes_nothing.accepted (domain_of store u.index) 0 in
          let none : here.replacements ≡ [] = cc in
          ap (λ (r : List Replacement). replaced r (domain_of store u.index)) none ∙ empty_changes_nothing.laws (domain_of store u.index)

      pub for_judged : u.index.counts.agents ≡ agents → For (then (sheet_of u.index.counts.agents sheet) (λ steps. got (judge (domain_here here) steps)))
      unfolding judge_for states_written_for domain_of
      for_judged e = rw (le-leb levels_size (length levels) h, here.domain, eq-eqb u.index.counts.agents agents e, own) (refl, refl)

-- The judgement of a whole sheet. Assumes nothing.
use Prim.Native.Nat.{ℕ, zero, suc, ◌≤◌}
use mathlib.Core.Path.{◌≡◌, refl, sym, ap, ◌∙◌}
use mathlib.Core.List.{List, [], ◌∷◌, map}
use native.Mathlib.Omega.{arith}
use lib.IntN.{ℤ, pos}
use lib.ListN.{length, get_or, drop, replicate}
use Rattle.bmap.specs.Plain.{numbers}
use Rattle.bmap.specs.Limits.{most_fluents}
use Rattle.bmap.specs.Domain.{Domain, Fluent, Names, State, static, goal}
use Rattle.bmap.specs.Judge.{pass, fault, Verdict, accepted, broken, Judged, history, all_hold, carried, start_of, judge, ran, goals_after}
use Rattle.index.specs.declared.Fluent.{Fluent as Row}
use Rattle.index.specs.Index.{no_fluent, fluent_said}
use Rattle.judge.specs.Landing.{Ranged}
use Rattle.judge.specs.States.{starts_of, Blank, marks_from}
use Rattle.judge.proofs.StateLaws.{same_after}

map-map : {A B C : Type 0} (f : B → C) (g : A → B) (l : List A) → map f (map g l) ≡ map (λ x. f (g x)) l
map-map f g [] = refl
map-map {A} {B} {C} f g (x ∷ l) = ap (λ (t : List C). f (g x) ∷ t) (map-map f g l)

module _ (d : Domain) (sheet : List Names) where
  pub judge_start : {kind n : ℕ} → all_hold static 6 d (history d sheet (start_of d ∷ [])) 0 ≡ fault kind n → record { states = []; verdict = broken kind 0 n } ≡ judge d sheet
  unfolding judge ran
  judge_start e = rw e

  module _ (e : all_hold static 6 d (history d sheet (start_of d ∷ [])) 0 ≡ pass) {states : List State} {v : Verdict} (q : record { states = states; verdict = v } ≡ carried d sheet 0 (start_of d ∷ []) sheet) where
    ran_is : record { states = states; verdict = v } ≡ ran d sheet
    unfolding ran
    ran_is = rw e q

    judge_is : goals_after d sheet states v ≡ judge d sheet
    unfolding judge
    judge_is = ap (λ (j : Judged). goals_after d sheet j.states j.verdict) ran_is

    pub judge_broken : {kind k n : ℕ} → v ≡ broken kind k n → record { states = states; verdict = v } ≡ judge d sheet
    judge_broken {kind} {k} {n} p = ap (λ (u : Verdict). record { states = states; verdict = u }) p ∙ (sym (ap (goals_after d sheet states) p) ∙ judge_is)

    pub judge_goal : {kind k n : ℕ} → v ≡ accepted → k ≡ length sheet → all_hold goal 8 d (history d sheet states) k ≡ fault kind n → record { states = states; verdict = broken kind k n } ≡ judge d sheet
    judge_goal {kind} {k} {n} p r g = sym (ap (goals_after d sheet states) p ∙ rw (← r, g)) ∙ judge_is

    pub judge_accepted : {k : ℕ} → v ≡ accepted → k ≡ length sheet → all_hold goal 8 d (history d sheet states) k ≡ pass → record { states = states; verdict = v } ≡ judge d sheet
    judge_accepted {k} p r g = ap (λ (u : Verdict). record { states = states; verdict = u }) p ∙ (sym (ap (goals_after d sheet states) p ∙ rw (← r, g)) ∙ judge_is)

-- the start values
pub started : (d : Domain) (fluents : List Row) (w : ℕ) → Ranged d fluents w → start_of d ≡ starts_of fluents w
started d fluents w ranges = ap (map (λ (f : Fluent). f.start)) ranges ∙ map-map (λ (f : Fluent). f.start) (λ f. fluent_said (get_or fluents f no_fluent)) (numbers 0 w)

-- nothing is written after state 0
pub start_blank : (w : ℕ) (history h : List ℤ) → w ≤ most_fluents → drop w h ≡ drop w history → Blank 0 history → Blank (marks_from 0) h
start_blank w history h p e blank i r = same_after (pos 0) w i history h e (omega arith) ∙ blank i (omega arith)

pub blank_zeros : (n i : ℕ) → get_or (replicate n (pos 0)) i (pos 0) ≡ pos 0
blank_zeros zero i = refl
blank_zeros (suc n) zero = refl
blank_zeros (suc n) (suc i) = blank_zeros n i

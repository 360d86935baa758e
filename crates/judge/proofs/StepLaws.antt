-- A step, joined from its checks. Assumes nothing.
use Prim.Native.Nat.{ℕ, suc, ◌+◌, ◌≤◌, ◌<◌}
use mathlib.Core.Path.{◌≡◌, refl, sym, ap, ◌∙◌, subst}
use mathlib.Core.List.{List, [], ◌∷◌, ◌++◌}
use mathlib.Core.Bool.{true, false}
use native.Mathlib.Numerals.{add-one}
use native.Mathlib.Omega.{arith}
use lib.IntN.{ℤ, pos}
use lib.ListN.{length, get_or}
use Rattle.bmap.specs.Limits.{most_steps}
use Rattle.bmap.specs.Domain.{Domain, Names, State, static, concurrency}
use Rattle.bmap.specs.Meaning.{History}
use Rattle.bmap.specs.Judge.{Checked, fine, fault, Pass, pass, next, each, fits, Setting, settled, level_after, state_after, history, all_hold, placed, may_occur, step, landed}
use Rattle.law.specs.Evaluate.{cell_at}
use Rattle.judge.specs.Answer.{pass_of, kind_of}
use Rattle.judge.specs.States.{states_of, leaving}
use Rattle.judge.specs.Landing.{allowed, Laid, Ranged, ranged}
use Rattle.judge.specs.Told.{Seen, Acted}
use Rattle.index.specs.declared.Fluent.{Fluent as Row}
use Rattle.std.specs.Prelude.{Result, Ok, Err}
use Rattle.judge.specs.declared.verdict.Breach.{Breach}
use Rattle.bmap.proofs.NumbersLaws.{map_at}
use Rattle.judge.proofs.StateLaws.{level_in_lem}
use Rattle.judge.proofs.LandingLaws.{level_then, after_is}

-- ---- the history that the laws read

module _ (d : Domain) (sheet : List Names) (w : ℕ) (cells : List ℤ) (j : ℕ) (within : j ≤ most_steps) (count : length d.fluents ≡ w) where
  seen_level : (k f : ℕ) → k ≤ j → f < length d.fluents → (history d sheet (states_of w (j + 1) cells)).level k f ≡ cell_at cells k f
  unfolding history
  seen_level k f p q = level_in_lem w (j + 1) k f cells (omega arith) (omega arith)

  pub seen_states : Seen false d (history d sheet (states_of w (j + 1) cells)) cells j
  seen_states = record { within = within; level = seen_level; acted = λ e. absurd cc }

  pub seen_at : {states : List State} → states_of w (j + 1) cells ≡ states → Seen false d (history d sheet states) cells j
  seen_at e = subst (λ (s : List State). Seen false d (history d sheet s) cells j) e seen_states

  pub seen_all : Acted d sheet cells (j + 1) → Seen true d (history d sheet (states_of w (j + 1) cells)) cells j
  unfolding history
  seen_all acted = record { within = within; level = seen_level; acted = λ e. acted }

-- ---- checks 4 to 6

-- what a check of the code answers
abbrev pub Check : Type 0
Check = Result (Unit {0}) Breach

passed_fault : (e : Pass) (new : State) (k : Checked State) {kind n : ℕ} → fault kind n ≡ next e (λ _. fine new) → fault kind n ≡ next e (λ _. k)
passed_fault (fine u) new k q = absurd cc
passed_fault (fault a b) new k q = q

passed_fine : (e : Pass) (new : State) (k : Checked State) {s : State} → fine s ≡ next e (λ _. fine new) → (k ≡ next e (λ _. k)) × (s ≡ new)
passed_fine (fine u) new k q = (refl, (cc))
passed_fine (fault a b) new k q = absurd cc

leaving_next : (r : Check) (s : State) → leaving r s ≡ next (pass_of r) (λ _. fine s)
leaving_next (Ok u) s = refl
leaving_next (Err b) s = refl

module _ (d : Domain) (sheet : List Names) (states : List State) (j : ℕ) (names : Names) where
  pub landed_clash : {kind n : ℕ} → fault kind n ≡ settled d (history d sheet states) j names 0 [] d.laws → fault kind n ≡ landed d sheet states j names
  unfolding landed
  landed_clash e = rw (← e)

  -- the static laws on a new state
  abbrev lasting : State → Checked State
  lasting new = next (all_hold static 6 d (history d sheet (states ++ (new ∷ []))) (suc j)) (λ _. fine new)

  module _ (settings : List Setting) (old : State) (e : fine settings ≡ settled d (history d sheet states) j names 0 [] d.laws) (o : get_or states j [] ≡ old) where
    landed_on : next (each (fits old (state_after d settings old)) d.fluents) (λ _. lasting (state_after d settings old)) ≡ landed d sheet states j names
    unfolding landed
    landed_on = rw (← e, o)

    pub landed_fault : (r : Check) (s : State) {b : Breach} → leaving r s ≡ ranged d settings old → r ≡ Err b → fault (kind_of b.fault) b.number ≡ landed d sheet states j names
    landed_fault r s {b} q p =
        passed_fault (each (fits old (state_after d settings old)) d.fluents) (state_after d settings old) (lasting (state_after d settings old)) (ap (λ (t : Check). leaving t s) (sym p) ∙ q) ∙ landed_on

    pub landed_fine : (r r₃ : Check) (s : State) (states' : List State) → leaving r s ≡ ranged d settings old → r ≡ Ok tt → states' ≡ states ++ (s ∷ [])
        → pass_of r₃ ≡ all_hold static 6 d (history d sheet states') (j + 1) → leaving r₃ s ≡ landed d sheet states j names
    landed_fine r r₃ s states' q p more c =
        let both' = passed_fine (each (fits old (state_after d settings old)) d.fluents) (state_after d settings old) (lasting (state_after d settings old)) (ap (λ (t : Check). leaving t s) (sym p) ∙ q) in
        leaving_next r₃ s ∙ (ap (λ (t : Pass). next t (λ _. fine s)) (c ∙ ap (λ (k : ℕ). all_hold static 6 d (history d sheet states') k) (add-one j))
        ∙ (ap (λ (l : List State). next (all_hold static 6 d (history d sheet l) (suc j)) (λ _. fine s)) more
        ∙ (ap lasting both'.1 ∙ (both'.0 ∙ landed_on))))

-- ---- checks 1 to 3

module _ (d : Domain) (h : History) (j : ℕ) (names : Names) where
  pub barred_agents : {kind n : ℕ} → each (placed d names) names ≡ fault kind n → fault kind n ≡ allowed d h j names
  barred_agents e = rw e

  module _ (e₁ : each (placed d names) names ≡ pass) where
    pub barred_entries : {kind n : ℕ} → each (may_occur d h j names) d.entries ≡ fault kind n → fault kind n ≡ allowed d h j names
    barred_entries e = rw (e₁, e)

    pub allowed_laws : {p : Pass} → each (may_occur d h j names) d.entries ≡ pass → p ≡ all_hold concurrency 3 d h j → p ≡ allowed d h j names
    allowed_laws e₂ e = e ∙ rw (e₁, e₂)

-- ---- the six checks

three_next : (a b c : Pass) (k : Checked State) → next (next a (λ _. next b (λ _. c))) (λ _. k) ≡ next a (λ _. next b (λ _. next c (λ _. k)))
three_next (fine u) (fine v) c k = refl
three_next (fine u) (fault y v) c k = refl
three_next (fault y u) b c k = refl

module _ (d : Domain) (sheet : List Names) (states : List State) (j : ℕ) (names : Names) (r : Check) (e : pass_of r ≡ allowed d (history d sheet states) j names) where
  step_then : next (pass_of r) (λ _. landed d sheet states j names) ≡ step d sheet states j names
  unfolding step
  step_then =
      ap (λ (p : Pass). next p (λ _. landed d sheet states j names)) e
      ∙ three_next (each (placed d names) names) (each (may_occur d (history d sheet states) j names) d.entries) (all_hold concurrency 3 d (history d sheet states) j) (landed d sheet states j names)

  pub step_barred : (s : State) {b : Breach} → r ≡ Err b → leaving r s ≡ step d sheet states j names
  step_barred s p = ap (λ (t : Check). leaving t s) p ∙ (ap (λ (t : Check). next (pass_of t) (λ _. landed d sheet states j names)) (sym p) ∙ step_then)

  pub step_on : r ≡ Ok tt → landed d sheet states j names ≡ step d sheet states j names
  step_on p = ap (λ (t : Check). next (pass_of t) (λ _. landed d sheet states j names)) (sym p) ∙ step_then

-- ---- the levels of a state that was stored

pub laid_again : (d : Domain) (settings : List Setting) (old : State) (fluents : List Row) (w : ℕ) → Ranged d fluents w → (r : Check) (s : State) (new : List ℤ)
    → leaving r s ≡ ranged d settings old → r ≡ Ok tt → Laid w new settings old → Laid w new [] s
unfolding level_after
laid_again d settings old fluents w bounds r s new q p laid f h =
    let is : s ≡ state_after d settings old = (passed_fine (each (fits old (state_after d settings old)) d.fluents) (state_after d settings old) (fine s) (ap (λ (t : Check). leaving t s) (sym p) ∙ q)).1 in
    laid f h ∙ sym (ap (λ (l : State). get_or l f (pos 0)) (is ∙ after_is d settings old fluents w bounds) ∙ map_at (level_then settings old) w f (pos 0) h)

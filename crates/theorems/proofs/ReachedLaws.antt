-- The states that a judgement writes: what is so of the first, and stays so with each step, is so of them all. Assumes nothing.
use Prim.Native.Nat.{ℕ, suc}
use mathlib.Core.Path.{◌≡◌, refl, ap, ◌∙◌}
use mathlib.Core.List.{List, [], ◌∷◌, ◌++◌}
use native.Mathlib.Numerals.{add-one}
use lib.ListN.{length, get_or, length-append}
use Rattle.bmap.specs.Domain.{Domain, Names, State, static, concurrency, goal}
use Rattle.bmap.specs.Judge.{Checked, fine, fault, Pass, pass, next, each, placed, may_occur, all_hold, Setting, settled, state_after, fits, history, landed, step, Verdict, accepted, broken, judged_at, passed, carried, start_of, ran, goals_after, judge}

-- ---- one step

-- both of two checks in turn are fine
pub record Next {A B : Type 0} (c : Checked A) (k : A → Checked B) (b : B) : Type 0 where
  pub found : A
  pub first : c ≡ fine found
  pub then : k found ≡ fine b

pub next_fine : {A B : Type 0} (c : Checked A) (k : A → Checked B) {b : B} → next c k ≡ fine b → Next c k b
next_fine (fine a) k e = record { found = a; first = refl; then = e }
next_fine (fault kind n) k e = absurd cc

-- a step that is fine leads from the old state to what its settings make of it, which check 5 passed
pub record Stepped (d : Domain) (old new : State) : Type 0 where
  pub settings : List Setting
  pub is : new ≡ state_after d settings old
  pub passes : each (fits old new) d.fluents ≡ pass

module _ (d : Domain) (sheet : List Names) where
  pub stepped : (states : List State) (j : ℕ) (names : Names) {new : State} → step d sheet states j names ≡ fine new → Stepped d (get_or states j []) new
  unfolding step landed
  stepped states j names {new} e =
      let one = next_fine (each (placed d names) names) _ e in
      let two = next_fine (each (may_occur d (history d sheet states) j names) d.entries) _ one.then in
      let three = next_fine (all_hold concurrency 3 d (history d sheet states) j) _ two.then in
      let four = next_fine (settled d (history d sheet states) j names 0 [] d.laws) _ three.then in
      let made : State = state_after d four.found (get_or states j []) in
      let five = next_fine (each (fits (get_or states j []) made) d.fluents) _ four.then in
      let six = next_fine (all_hold static 6 d (history d sheet (states ++ (made ∷ []))) (suc j)) _ five.then in
      let same : new ≡ made = cc in
      record { settings = four.found; is = same; passes = ap (λ (s : State). each (fits (get_or states j []) s) d.fluents) same ∙ five.first }

  -- ---- the run

  module _
      (P : List State → Type 0)
      (none : P [])
      (start : P (start_of d ∷ []))
      (more : (states : List State) (j : ℕ) (new : State) → length states ≡ suc j → P states → Stepped d (get_or states j []) new → P (states ++ (new ∷ []))) where
    carried_keeps : (j : ℕ) (states : List State) (rest : List Names) → length states ≡ suc j → P states → P (carried d sheet j states rest).states
    unfolding carried
    carried_keeps j states [] l p = p
    carried_keeps j states (names ∷ rest) l p = go (step d sheet states j names) refl (λ new. carried_keeps (suc j) (states ++ (new ∷ [])) rest (length-append states (new ∷ []) ∙ (add-one (length states) ∙ ap suc l)))
      where
        go : (c : Checked State) → step d sheet states j names ≡ c → ((new : State) → P (states ++ (new ∷ [])) → P (carried d sheet (suc j) (states ++ (new ∷ [])) rest).states)
            → P (judged_at (suc j) states c (λ new. carried d sheet (suc j) (states ++ (new ∷ [])) rest)).states
        go (fine new) e later = later new (more states j new l p (stepped states j names e))
        go (fault kind n) e later = p

    ran_keeps : P (ran d sheet).states
    unfolding ran
    ran_keeps = go (all_hold static 6 d (history d sheet (start_of d ∷ [])) 0)
      where
        go : (c : Pass) → P (judged_at 0 [] c (λ _. carried d sheet 0 (start_of d ∷ []) sheet)).states
        go (fine u) = carried_keeps 0 (start_of d ∷ []) sheet refl start
        go (fault kind n) = none

    pub judge_keeps : P (judge d sheet).states
    unfolding judge
    judge_keeps = go (ran d sheet).states (ran d sheet).verdict ran_keeps
      where
        goals : (states : List State) (c : Pass) → P states → P (judged_at (length sheet) states c (λ _. passed states)).states
        goals states (fine u) p = p
        goals states (fault kind n) p = p

        go : (states : List State) (v : Verdict) → P states → P (goals_after d sheet states v).states
        go states accepted p = goals states (all_hold goal 8 d (history d sheet states) (length sheet)) p
        go states (broken kind k n) p = p

-- How a sheet is judged: step after step, the first fault wins.
use Rattle.std.specs.Prelude.{ℕ, suc, ◌-◌, Bool, true, false, List, [], ◌∷◌, ◌++◌, map, eqb, leb, ℤ, pos, length, get_or}
use Rattle.std.proofs.Math.Option.{Option, none, some}
use Rattle.std.specs.Int.Signed.{le_z}
use Rattle.bmap.specs.Plain.{both, either, implies, if_else, any, all, numbers}
use Rattle.bmap.specs.Number.{Valued, value, no_value, with1, same, apart}
use Rattle.bmap.specs.declared.Reason.{Reason}
use Rattle.bmap.specs.declared.Reason.TheVariants.{ZeroDivisor, OutOfRange}
use Rattle.bmap.specs.Meaning.{History, eval_e, eval_c}
use Rattle.bmap.specs.Domain.{Domain, Fluent, Entry, Law, Scope, static, concurrency, goal, executable, effect, must, Names, State, entry_at, has, occurs_in, readable}

-- a check's answer: what it found, or a fault's kind and number
pub data Checked (A : Type 0) : Type 0 where
  fine : A → Checked A
  fault : ℕ → ℕ → Checked A

module _ {A B : Type 0} where
  -- "First fault wins"
  abbrev pub next : Checked A → (A → Checked B) → Checked B
  next (fine a) k = k a
  next (fault kind n) k = fault kind n

abbrev pub Pass : Type 0
Pass = Checked (Unit {0})

abbrev pub pass : Pass
pass = fine tt

abbrev pub unless : ℕ → ℕ → Bool → Pass
unless kind n true = pass
unless kind n false = fault kind n

-- K2: "A zero divisor stays kind 7; a result beyond the number range becomes kind 9"
abbrev pub trouble_kind : Reason → ℕ
trouble_kind ZeroDivisor = 7
trouble_kind OutOfRange = 9

module _ {A : Type 0} where
  -- "A law without a value is kind 7, law, at the place where it is read"; K2: or kind 9, by its reason
  abbrev pub reads : ℕ → Valued A → Checked A
  reads n (value a) = fine a
  reads n (no_value why) = fault (trouble_kind why) n

  -- each of a list with its number, until a fault
  unfoldable pub each_from : ℕ → (ℕ → A → Pass) → List A → Pass
  each_from n f [] = pass
  each_from n f (a ∷ l) = next (f n a) (λ _. each_from (suc n) f l)

  abbrev pub each : (ℕ → A → Pass) → List A → Pass
  each f l = each_from 0 f l

-- "state j is the present, step j+1 the present step": the states reached, and the sheet's steps, numbered from 1
unfoldable pub history : Domain → List Names → List State → History
history d sheet states = record {
  level = λ k f. get_or (get_or states k []) f (pos 0);
  occurred = λ e k. occurs_in d (get_or sheet (k - 1) []) (entry_at d e);
}

abbrev pub same_scope : Scope → Scope → Bool
same_scope static static = true
same_scope static concurrency = false
same_scope static goal = false
same_scope concurrency static = false
same_scope concurrency concurrency = true
same_scope concurrency goal = false
same_scope goal static = false
same_scope goal concurrency = false
same_scope goal goal = true

-- law n at position j, where it is of the scope: false is a fault of that kind
unfoldable pub holds : Scope → ℕ → History → ℕ → ℕ → Law → Pass
holds s kind h j n (executable i c) = pass
holds s kind h j n (effect i c f x) = pass
holds s kind h j n (must s' c) = if_else (same_scope s s') (next (reads n (eval_c c h j)) (unless kind n)) pass

-- the laws of one scope in order
abbrev pub all_hold : Scope → ℕ → Domain → History → ℕ → Pass
all_hold s kind d h j = each (holds s kind h j) d.laws

-- 1: "it names an action but belongs to no occurring entry with that name: kind 1, agent"
unfoldable pub carries : Domain → Names → ℕ → ℕ → Entry → Bool
carries d names a name e = both (eqb e.name name) (both (has e.crew a) (occurs_in d names e))

unfoldable pub placed : Domain → Names → ℕ → ℕ → Pass
placed d names a name = unless 1 a (either (eqb name 0) (any (carries d names a name) d.entries))

-- 2: "its A5 laws in order until one is true; a law that names a fluent known to nobody in the crew counts as false
-- and is not read; none true: kind 2, entry": what one law says for entry i
unfoldable pub permits : Domain → History → ℕ → ℕ → Law → Valued Bool
permits d h j i (executable e c) = if_else (both (eqb e i) (readable d (entry_at d i) c)) (eval_c c h j) (value false)
permits d h j i (effect e c f x) = value false
permits d h j i (must s c) = value false

unfoldable pub permitted : Domain → History → ℕ → ℕ → ℕ → List Law → Pass
permitted d h j i n [] = fault 2 i
permitted d h j i n (l ∷ laws) = next (reads n (permits d h j i l)) (λ b. if_else b pass (permitted d h j i (suc n) laws))

unfoldable pub may_occur : Domain → History → ℕ → Names → ℕ → Entry → Pass
may_occur d h j names i e = if_else (occurs_in d names e) (permitted d h j i 0 d.laws) pass

-- 4: "each A6 law in order whose entry occurs: constraint, and if true, expression"
pub record Setting : Type 0 where
  pub fluent : ℕ
  pub level : ℤ

abbrev pub sets_if : ℕ → Valued ℤ → Valued Bool → Valued (Option Setting)
sets_if f v (no_value why) = no_value why
sets_if f v (value false) = value none
sets_if f v (value true) = with1 (λ z. value (some (record { fluent = f; level = z }))) v

unfoldable pub sets : Domain → History → ℕ → Names → Law → Valued (Option Setting)
sets d h j names (executable i c) = value none
sets d h j names (must s c) = value none
sets d h j names (effect i c f x) =
    if_else (occurs_in d names (entry_at d i)) (sets_if f (eval_e x h j) (eval_c c h j)) (value none)

-- "a value differing from an earlier one for the same fluent: kind 4, the later law": the newest setting stands first
abbrev pub agrees : Setting → Setting → Bool
agrees new old = implies (eqb old.fluent new.fluent) (same old.level new.level)

abbrev pub settle : ℕ → List Setting → Option Setting → Checked (List Setting)
settle n done none = fine done
settle n done (some new) = if_else (all (agrees new) done) (fine (new ∷ done)) (fault 4 n)

-- "Fluents that no law set keep their value"; the settings of one fluent all agree, so the first found is its value
unfoldable pub level_after : List Setting → ℕ → ℤ → ℤ
level_after [] f old = old
level_after (s ∷ rest) f old = if_else (eqb s.fluent f) s.level (level_after rest f old)

-- the laws in turn, from law n on, with the settings so far: all of them are read on the one history
unfoldable pub settled : Domain → History → ℕ → Names → ℕ → List Setting → List Law → Checked (List Setting)
settled d h j names n done [] = fine done
settled d h j names n done (l ∷ laws) =
    next (reads n (sets d h j names l)) (λ new.
    next (settle n done new) (λ done'.
    settled d h j names (suc n) done' laws))

-- the new state, fluent by fluent
unfoldable pub state_after : Domain → List Setting → State → State
state_after d settings old = map (λ f. level_after settings f (get_or old f (pos 0))) (numbers 0 (length d.fluents))

-- 5: not "new value outside its range"
abbrev pub in_range : Fluent → ℤ → Bool
in_range x new = both (le_z x.lowest new) (le_z new x.highest)

-- K6: not "a change larger than the limit in either direction": the change is that from the value before the step to the new one
abbrev pub slow : ℕ → ℤ → ℤ → Bool
slow limit old new = either (eqb limit 0) (leb (apart old new) limit)

-- 5: "each fluent by number, new value outside its range: kind 5, fluent"; K6: "After the range check of a fluent and before the next
-- fluent, a change larger than the limit in either direction is kind 10, fluent"
unfoldable pub fits : State → State → ℕ → Fluent → Pass
fits old new f x =
    next (unless 5 f (in_range x (get_or new f (pos 0)))) (λ _.
    unless 10 f (slow x.limit (get_or old f (pos 0)) (get_or new f (pos 0))))

-- checks 4 to 6 of the step from state j: the effects, the new state within its ranges and no further from state j than allowed, the
-- static laws on it
unfoldable pub landed : Domain → List Names → List State → ℕ → Names → Checked State
landed d sheet states j names =
    next (settled d (history d sheet states) j names 0 [] d.laws) (λ settings.
    let old : State = get_or states j [] in
    let new : State = state_after d settings old in
    next (each (fits old new) d.fluents) (λ _.
    next (all_hold static 6 d (history d sheet (states ++ (new ∷ []))) (suc j)) (λ _.
    fine new)))

-- "Step k leads from state k−1 to state k; its laws are read at position k−1, static laws at position k": the step
-- from state j, with the states 0 to j that were reached
unfoldable pub step : Domain → List Names → List State → ℕ → Names → Checked State
step d sheet states j names =
    let h : History = history d sheet states in
    next (each (placed d names) names) (λ _.
    next (each (may_occur d h j names) d.entries) (λ _.
    next (all_hold concurrency 3 d h j) (λ _.
    landed d sheet states j names)))

-- "A verdict is Accepted, or Broken with kind, step and number"
pub data Verdict : Type 0 where
  accepted : Verdict
  broken : ℕ → ℕ → ℕ → Verdict

-- the states that the levels buffer receives, and the verdict
pub record Judged : Type 0 where
  pub states : List State
  pub verdict : Verdict

module _ {A : Type 0} where
  -- a check at a step, with the states that are written where it faults, and how the judgement goes on where it passes
  abbrev pub judged_at : ℕ → List State → Checked A → (A → Judged) → Judged
  judged_at k states (fine a) go = go a
  judged_at k states (fault kind n) go = record { states = states; verdict = broken kind k n }

abbrev pub passed : List State → Judged
passed states = record { states = states; verdict = accepted }

-- the steps after state j: "else those before the faulty step"
unfoldable pub carried : Domain → List Names → ℕ → List State → List Names → Judged
carried d sheet j states [] = passed states
carried d sheet j states (names ∷ rest) =
    judged_at (suc j) states (step d sheet states j names) (λ new. carried d sheet (suc j) (states ++ (new ∷ [])) rest)

abbrev pub start_of : Domain → State
start_of d = map (λ (f : Fluent). f.start) d.fluents

-- the run without its goals, accepted so far. "Before step 1 the A7 laws are read on state 0 (step 0)"; "none for a fault of A7 at
-- step 0"
unfoldable pub ran : Domain → List Names → Judged
ran d sheet =
    judged_at 0 [] (all_hold static 6 d (history d sheet (start_of d ∷ [])) 0)
    (λ _. carried d sheet 0 (start_of d ∷ []) sheet)

-- "After the last step n each A9 law in order is read at position n; false: kind 8, step n, law"; "0 to n if accepted or
-- if a goal law is at fault"
abbrev pub goals_after : Domain → List Names → List State → Verdict → Judged
goals_after d sheet states (broken kind k n) = record { states = states; verdict = broken kind k n }
goals_after d sheet states accepted =
    judged_at (length sheet) states (all_hold goal 8 d (history d sheet states) (length sheet)) (λ _. passed states)

-- the run, then the goals
unfoldable pub judge : Domain → List Names → Judged
judge d sheet = goals_after d sheet (ran d sheet).states (ran d sheet).verdict

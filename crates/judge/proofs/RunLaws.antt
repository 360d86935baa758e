-- The run over the steps of a sheet. Assumes nothing.
use Prim.Native.Nat.{ℕ, zero, suc, ◌+◌, ◌-◌, ◌*◌, ◌≤◌, ◌<◌}
use mathlib.Core.Path.{◌≡◌, refl, sym, ap, subst, ◌∙◌}
use mathlib.Core.List.{List, [], ◌∷◌, ◌++◌, map}
use mathlib.Core.Bool.{Bool, true, false}
use native.Mathlib.Numerals.{add-one}
use native.Mathlib.Omega.{arith}
use native.Mathlib.Decide.{dec_le}
use native.Mathlib.Nat.{suc-mul}
use lib.Dec.{eqb}
use lib.IntN.{ℤ, pos}
use lib.ListN.{length, get_or, take, drop, length-drop}
use lib.Seq.{get_or-drop, length-take-le, drop-drop, take_all}
use borrow.Author.Tests.{eq-eqb, eqb-true}
use Rattle.bmap.specs.Plain.{both, implies, all, any, numbers}
use Rattle.bmap.proofs.PlainLaws.{both_false}
use Rattle.bmap.specs.Domain.{Domain, Names, State, Entry, has, follows, occurs_in, entry_at}
use Rattle.bmap.specs.Limits.{most_fluents, most_entries}
use Rattle.bmap.specs.Sheet.{rows}
use Rattle.bmap.specs.Judge as paper
use Rattle.bmap.specs.Judge.{broken, accepted, carries, step, carried}
use Rattle.law.specs.Evaluate.{row_size, marked, in_step}
use Rattle.judge.specs.Answer.{kind_of}
use Rattle.judge.specs.Masks.{joins, joins_at, crew_at, mask_from, union_from}
use Rattle.judge.specs.States.{state_at, states_of, leaving, marks_from, Blank}
use Rattle.judge.specs.Landing.{Laid}
use Rattle.judge.specs.Told.{Occurring, Belonging, Acts, Acted}
use Rattle.judge.specs.Prepared.{Entered, RanThrough, judged_of}
use Rattle.judge.specs.declared.acting.Acting.{Acting}
use Rattle.std.specs.Prelude.{Result, Ok, Err}
use Rattle.judge.specs.declared.verdict.Judged.{Judged}
use Rattle.judge.specs.declared.verdict.Verdict.TheVariants.{Broken}
use Rattle.judge.specs.declared.verdict.Breach.{Breach}
use Rattle.bmap.proofs.NumbersLaws.{map_at, map_length, all_at}
use Rattle.index.specs.declared.Entry.{Entry as Row}
use Rattle.index.specs.Index.{no_entry as no_row, entry_said}
use Rattle.judge.proofs.CheckLaws.{no_entry}
use Rattle.judge.proofs.StateLaws.{same_before, first_same}
use Rattle.judge.proofs.MaskLaws.{mask_bit, union_bit, any_map, any_same}

-- ---- who acts

-- the first entries alone
pub entered_first : (d : Domain) (entries : List Row) (count : ℕ) → count ≤ length entries → Entered d entries count → Entered d (take count entries) (length (take count entries))
entered_first d entries count h entered =
    entered ∙ (first_same entry_said no_row entries count
    ∙ ap (λ (k : ℕ). map (λ e. entry_said (get_or (take count entries) e no_row)) (numbers 0 k)) (sym (length-take-le count entries h)))

pub entries_many : (d : Domain) (entries : List Row) (count : ℕ) → Entered d entries count → length d.entries ≡ count
entries_many d entries count entered = ap length entered ∙ map_length (λ i. entry_said (get_or entries i no_row)) 0 count

module _ (d : Domain) (names : Names) (entries : List Row) (count : ℕ) (entered : Entered d entries count) (all_named : length names ≡ d.agents) where
  abbrev entry : ℕ → Entry
  entry i = entry_said (get_or entries i no_row)

  entry_is : (e : ℕ) → e < count → entry_at d e ≡ entry e
  entry_is e h = ap (λ (l : List Entry). get_or l e no_entry) entered ∙ map_at entry count e no_entry h

  joins_is : (e : ℕ) → joins_at names entries e ≡ occurs_in d names (entry e)
  unfolding joins occurs_in
  joins_is e = ap (λ (n : ℕ). all (follows names (entry e)) (numbers 0 n)) all_named

  pub entries_count : length d.entries ≡ count
  entries_count = entries_many d entries count entered

  pub occurring_is : {mask : ℕ} → mask ≡ mask_from (joins_at names entries) 0 count → Occurring d names mask
  occurring_is {mask} m e h =
      let p : e < count = omega (arith, entries_count) in
      sym (ap (λ (k : ℕ). has k e) m ∙ (mask_bit (joins_at names entries) 0 count e p
      ∙ (ap (joins_at names entries) (let z : 0 + e ≡ e = omega arith in z) ∙ (joins_is e ∙ ap (occurs_in d names) (sym (entry_is e p))))))

  -- an agent in the crew of an entry that occurs names its action
  named : (a : ℕ) (e : Entry) → a < length names → (t : Bool) → occurs_in d names e ≡ t → (u : Bool) → has e.crew a ≡ u → both (eqb e.name (get_or names a 0)) (both u t) ≡ both t u
  unfolding occurs_in
  named a e h true o true u =
      let f : follows names e a ≡ true = all_at (follows names e) d.agents a (omega arith) o in
      let g : implies true (eqb (get_or names a 0) e.name) ≡ true = ap (λ (b : Bool). implies b (eqb (get_or names a 0) e.name)) (sym u) ∙ f in
      ap (λ (b : Bool). both b true) (eq-eqb e.name (get_or names a 0) (sym (eqb-true (get_or names a 0) e.name g)))
  named a e h true o false u = both_false (eqb e.name (get_or names a 0))
  named a e h false o u q = rw (both_false u, both_false (eqb e.name (get_or names a 0)))

  pub belonging_is : {mask : ℕ} → mask ≡ union_from (joins_at names entries) (crew_at entries) 0 count → Belonging d names mask
  unfolding carries
  belonging_is {mask} m a h =
      ap (any (carries d names a (get_or names a 0))) entered
      ∙ (any_map (carries d names a (get_or names a 0)) entry 0 count
      ∙ (any_same (λ k. carries d names a (get_or names a 0) (entry k)) (λ k. both (joins_at names entries k) (has (crew_at entries k) a)) 0 count
      (λ k p q. named a (entry k) h (occurs_in d names (entry k)) refl (has (crew_at entries k) a) refl ∙ ap (λ (t : Bool). both t (has (crew_at entries k) a)) (sym (joins_is k)))
      ∙ (sym (union_bit (joins_at names entries) (crew_at entries) 0 count a) ∙ ap (λ (k : ℕ). has k a) (sym m))))

-- ---- the marks of the steps

-- those of earlier rows are kept
pub acted_kept : (d : Domain) (sheet : List Names) (m n : ℕ) (h h' : List ℤ) → length d.entries ≤ most_entries → row_size * m ≤ n → take n h' ≡ take n h → Acted d sheet h m → Acted d sheet h' m
acted_kept d sheet m n h h' few p e acted k i q r s =
    acted k i q r s ∙ ap marked (sym (same_before (pos 0) n (row_size * (k - 1) + (most_fluents + i)) h h' e (omega arith)))

-- with one step more
pub acted_more : (d : Domain) (sheet : List Names) (j : ℕ) (h h' : List ℤ) (names : Names) (mask : ℕ) → length d.entries ≤ most_entries → take (marks_from j) h' ≡ take (marks_from j) h → get_or sheet j [] ≡ names
    → Occurring d names mask → ((e : ℕ) → e < length d.entries → in_step h' e (j + 1) ≡ has mask e) → Acted d sheet h j → Acted d sheet h' (j + 1)
acted_more d sheet j h h' names mask few kept e o marks acted k i p q r = elim (dec_le k j) [
  | yes s ↦ acted_kept d sheet j (marks_from j) h h' few (omega arith) kept acted k i p s r
  | no s ↦ let z : k ≡ j + 1 = omega arith in
      ap (λ (m : ℕ). occurs_in d (get_or sheet m []) (entry_at d i)) (let y : k - 1 ≡ j = omega arith in y)
      ∙ (ap (λ (l : Names). occurs_in d l (entry_at d i)) e ∙ (o i r ∙ (sym (marks i r) ∙ ap (in_step h' i) (sym z))))
]

-- ---- the steps of a sheet, row by row

module _ (a : ℕ) where
  pub rows_length : (n : ℕ) (s : List ℕ) → length (rows a n s) ≡ n
  unfolding rows
  rows_length zero s = refl
  rows_length (suc n) s = ap suc (rows_length n (drop a s))

  module _ (n j : ℕ) (rest : List ℕ) (h : j < n) where
    row_first : rows a (n - j) rest ≡ take a rest ∷ rows a (n - (j + 1)) (drop a rest)
    unfolding rows
    row_first = let z : n - j ≡ suc (n - (j + 1)) = omega arith in rw z

    pub row_names : (sheet : List Names) → drop j sheet ≡ rows a (n - j) rest → get_or sheet j [] ≡ take a rest
    row_names sheet e = sym (get_or-drop j sheet 0 [] ∙ ap (λ (k : ℕ). get_or sheet k []) (let z : j + 0 ≡ j = omega arith in z)) ∙ ap (λ (l : List Names). get_or l 0 []) (e ∙ row_first)

    pub row_on : (sheet : List Names) → drop j sheet ≡ rows a (n - j) rest → drop (j + 1) sheet ≡ rows a (n - (j + 1)) (drop a rest)
    row_on sheet e = sym (drop-drop 1 j sheet) ∙ ap (drop 1) (e ∙ row_first)

    pub row_there : length rest ≡ (n - j) * a → a ≤ length rest
    row_there e = let z : n - j ≡ suc (n - (j + 1)) = omega arith in omega (arith, e ∙ (ap (λ (k : ℕ). k * a) z ∙ suc-mul (n - (j + 1)) a))

    pub row_left : length rest ≡ (n - j) * a → length (drop a rest) ≡ (n - (j + 1)) * a
    row_left e = let z : n - j ≡ suc (n - (j + 1)) = omega arith in omega (arith, length-drop a rest, e ∙ (ap (λ (k : ℕ). k * a) z ∙ suc-mul (n - (j + 1)) a))

  module _ (d : Domain) (sheet : List Names) (n j : ℕ) (states : List State) (rest : List ℕ) where
    pub carried_end : n ≤ j → carried d sheet j states (rows a (n - j) rest) ≡ record { states = states; verdict = accepted }
    unfolding carried rows
    carried_end h = let z : n - j ≡ 0 = omega arith in rw z

    module _ (h : j < n) (r : Result (Unit {0}) Breach) (s : State) (told : leaving r s ≡ step d sheet states j (take a rest)) where
      pub carried_stop : {b : Breach} {after : List State} → r ≡ Err b → after ≡ states → carried d sheet j states (rows a (n - j) rest) ≡ record { states = after; verdict = broken (kind_of b.fault) (j + 1) b.number }
      unfolding carried
      carried_stop e q = rw (row_first n j rest h, ← told, e, add-one, q)

      pub carried_on : {after : List State} → r ≡ Ok tt → after ≡ states ++ (s ∷ []) → carried d sheet j states (rows a (n - j) rest) ≡ carried d sheet (j + 1) after (rows a (n - (j + 1)) (drop a rest))
      unfolding carried
      carried_on e q = rw (row_first n j rest h, ← told, e, add-one j, q)

-- before the first step
pub rows_start : (a n : ℕ) (s : List ℕ) → rows a n s ≡ rows a (n - 0) s
rows_start a n s = ap (λ (k : ℕ). rows a k s) (let z : n ≡ n - 0 = omega arith in z)

pub left_start : (a n k : ℕ) → k ≡ n * a → k ≡ (n - 0) * a
left_start a n k e = e ∙ ap (λ (m : ℕ). m * a) (let z : n ≡ n - 0 = omega arith in z)

-- what is left after a row
pub rest_is : (a : ℕ) (l : List ℕ) → take (length l - a) (drop a l) ≡ drop a l
rest_is a l = take_all (length l - a) (drop a l) (omega (arith, length-drop a l))

-- ---- the loop over the steps

-- before the step from state j: the rest of the sheet, and what was not written of the history
pub record Round (n agents : ℕ) (history : List ℤ) (rest : List ℕ) (j : ℕ) : Type 0 where
  pub whole : length rest ≡ (n - j) * agents
  pub blank : Blank (marks_from j) history

-- and what was done is a domain's: the marks, the steps that are left, the run, the levels of state j, who acted in the step before
pub record Going (d : Domain) (agents n w : ℕ) (sheet : List Names) (begun : List State) (j : ℕ) (history levels : List ℤ) (acting : Acting) (before rest : List ℕ) : Type 0 where
  pub acted : Acted d sheet history j
  pub left : drop j sheet ≡ rows agents (n - j) rest
  pub run : carried d sheet 0 begun sheet ≡ carried d sheet j (states_of w (j + 1) history) (rows agents (n - j) rest)
  pub present : Laid w levels [] (state_at w history j)
  pub last : 0 < length before → Acts d before acting

-- a fault at the step from state j
module _ (j : ℕ) (b : Breach) (r : Judged) (e : r ≡ record { verdict = Broken b.fault (j + 1) b.number; states = j + 1 }) where
  pub broken_through : {n : ℕ} → j < n → RanThrough r n
  broken_through {n} h = subst (λ (t : Judged). RanThrough t n) (sym e) (record { most = omega arith; all = λ q. absurd cc })

  pub broken_judged : (w : ℕ) (history : List ℤ) {run : paper.Judged} → run ≡ record { states = states_of w (j + 1) history; verdict = broken (kind_of b.fault) (j + 1) b.number } → judged_of w r history ≡ run
  broken_judged w history q = ap (λ (t : Judged). judged_of w t history) e ∙ sym q

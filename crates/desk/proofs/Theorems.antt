-- What a caller reads from an answer is what was answered, and from the lower 32 bits as from all 64: no refusal reads as something found, and none but an
-- accepted sheet as accepted. Assumes nothing.
use Prim.Native.Nat.{ℕ, ◌+◌, ◌*◌, ◌/◌, ◌%◌, ◌<◌, ◌≤◌, ◌^◌}
use native.Mathlib.Omega.{arith}
use mathlib.Core.Path.{◌≡◌, refl, sym, ap, subst, ◌∙◌}
use mathlib.Core.List.{List}
use lib.ListN.{length}
use Rattle.bmap.specs.Refusal.{Answer, got, refused, number_of}
use Rattle.bmap.specs.Limits.{most_agents, most_fluents, most_entries, most_laws, frame_size}
use Rattle.bmap.specs.Judge.{accepted, broken}
use Rattle.bmap.specs.Supplement.{Where, in_domain, in_supplement, Part, law_in_force}
use Rattle.bmap.specs.declared.limits.Counts.{Counts}
use Rattle.supplement.specs.Check.{place_in}
use Rattle.supplement.specs.Force.{Stretch, stretch_of}
use Rattle.supplement.proofs.Theorems.{in_force_low}
use Rattle.judge.specs.Answer.{answer_of, counted_of, states_counted}
use Rattle.std.specs.Prelude.{Some, Result, Ok, Err}
use Rattle.bmap.specs.declared.refusal.Refusal.{Refusal}
use Rattle.judge.specs.declared.verdict.Verdict.{Verdict}
use Rattle.judge.specs.declared.verdict.Verdict.TheVariants.{Accepted, Broken}
use Rattle.judge.specs.declared.verdict.Judged.{Judged}
use Rattle.desk.specs.Numbers.{found_number, refused_number, judged_number, four_bytes, size_number, accepted_kind, refused_kind, refusal_in, lower_half, mark_in, count_in, line_in, states_in, kind_in, step_in, number_in, stands_number, law_place_number, StretchIn, CountsIn}
use Rattle.desk.proofs.NumberLaws.{number_small, kind_small, verdict_small}

-- ---- the lower half has what the answer has, but for the upper half's number

module _ (answer : ℕ) where
  pub half_mark : mark_in (lower_half answer) ≡ mark_in answer
  half_mark = omega arith

  pub half_count : count_in (lower_half answer) ≡ count_in answer
  half_count = omega arith

  pub half_states : states_in (lower_half answer) ≡ states_in answer
  half_states = omega arith

  pub half_kind : kind_in (lower_half answer) ≡ kind_in answer
  half_kind = omega arith

  pub half_step : step_in (lower_half answer) ≡ step_in answer
  half_step = omega arith

  pub half_number : number_in (lower_half answer) ≡ number_in answer
  half_number = omega arith

-- ---- a refusal has its number and the mark

module _ (number with : ℕ) where
  pub refusal_back : refusal_in (refused_number number with) ≡ number
  refusal_back = omega arith

  pub refusal_marked : mark_in (refused_number number with) ≡ 1
  refusal_marked = omega arith

  pub line_back : with < 2 ^ 31 → line_in (refused_number number with) ≡ with
  line_back h = omega arith

-- ---- nothing else has: what is below 2 ^ 31

pub unmarked : (answer : ℕ) → answer < 2 ^ 31 → (refusal_in answer ≡ 0) × (mark_in answer ≡ 0)
unmarked answer h = (omega arith, omega arith)

pub found_below : (n : ℕ) → found_number n < 2 ^ 31
found_below n = omega arith

pub verdict_below : (states : ℕ) (v : Verdict) → judged_number states (answer_of (Ok v)) < 2 ^ 31
verdict_below states v = omega (arith, verdict_small v)

-- of a judgement as the calls are given it, with the number of its states
pub judged_below : (j : Judged) → judged_number (states_counted (Ok j)) (counted_of (Ok j)) < 2 ^ 31
judged_below j = verdict_below j.states j.verdict

pub counts_below : (n : Counts) → n.agents ≤ most_agents → n.fluents ≤ most_fluents → n.entries ≤ most_entries → n.laws ≤ most_laws → four_bytes n < 2 ^ 31
counts_below n a f e l = omega arith

pub size_below : (size : ℕ) → size ≤ frame_size → size_number (Some size) < 2 ^ 31
size_below size h = omega arith

-- ---- what was found is read back

pub count_back : (n : ℕ) → n < 2 ^ 31 → count_in (found_number n) ≡ n
count_back n h = omega arith

pub counts_back : (n : Counts) → n.agents ≤ most_agents → n.fluents ≤ most_fluents → n.entries ≤ most_entries → n.laws ≤ most_laws → CountsIn (four_bytes n) n
counts_back n a f e l = record { agents = omega arith; fluents = omega arith; entries = omega arith; laws = omega arith }

module _ (states number : ℕ) (h : number < 2 ^ 8) where
  -- its bits, from the top
  refused_is : judged_number states (refused number) ≡ number * 2 ^ 32 + (2 ^ 31 + (refused_kind * 2 ^ 16 + number))
  refused_is =
      let below : (refused_kind * 2 ^ 16 + number) % 2 ^ 31 ≡ refused_kind * 2 ^ 16 + number = omega arith in
      ap (λ (with : ℕ). number * 2 ^ 32 + (2 ^ 31 + with)) below

  pub refused_kind_lem : kind_in (judged_number states (refused number)) ≡ refused_kind
  refused_kind_lem =
      let above : (number * 2 ^ 32 + (2 ^ 31 + (refused_kind * 2 ^ 16 + number))) / 2 ^ 16 ≡ number * 2 ^ 16 + (2 ^ 15 + refused_kind) = omega arith in
      ap kind_in refused_is ∙ (ap (λ (k : ℕ). k % 2 ^ 8) above ∙ omega arith)

  pub refused_number_lem : number_in (judged_number states (refused number)) ≡ number
  refused_number_lem = ap number_in refused_is ∙ omega arith

  pub refused_states : states_in (judged_number states (refused number)) ≡ 0
  refused_states =
      let above : (number * 2 ^ 32 + (2 ^ 31 + (refused_kind * 2 ^ 16 + number))) / 2 ^ 24 ≡ number * 2 ^ 8 + 2 ^ 7 = omega arith in
      ap states_in refused_is ∙ (ap (λ (k : ℕ). k % 2 ^ 7) above ∙ omega arith)

module _ (states : ℕ) where
  pub accepted_kind_lem : kind_in (judged_number states (got accepted)) ≡ accepted_kind
  accepted_kind_lem = omega arith

  pub accepted_states : states < 2 ^ 7 → states_in (judged_number states (got accepted)) ≡ states
  accepted_states k = omega arith

module _ (states kind step number : ℕ) (h : kind < 2 ^ 8) where
  pub kind_back : kind_in (judged_number states (got (broken kind step number))) ≡ kind
  kind_back = omega arith

  pub step_back : step < 2 ^ 8 → step_in (judged_number states (got (broken kind step number))) ≡ step
  step_back k = omega arith

  pub number_back : number < 2 ^ 8 → number_in (judged_number states (got (broken kind step number))) ≡ number
  number_back k = omega arith

  pub states_back : states < 2 ^ 7 → states_in (judged_number states (got (broken kind step number))) ≡ states
  states_back k = omega arith

-- ---- where a law in force stands

stands_below : (w : Where) → stands_number w < 2 ^ 25
stands_below (in_domain at) = omega arith
stands_below (in_supplement at) = omega arith

pub law_below : (x : Stretch) → law_place_number (got x) < 2 ^ 31
law_below x = omega (arith, stands_below x.stands)

module _ (at size : ℕ) (h : at < 2 ^ 16) (k : size < 2 ^ 8) where
  pub domain_back : StretchIn (law_place_number (got (record { stands = in_domain at; size = size }))) 0 at size
  domain_back = record { supplement = omega arith; place = omega arith; size = omega arith }

  pub supplement_back : StretchIn (law_place_number (got (record { stands = in_supplement at; size = size }))) 1 at size
  supplement_back = record { supplement = omega arith; place = omega arith; size = omega arith }

-- which of the two stores
abbrev store_of : Where → ℕ
store_of (in_domain at) = 0
store_of (in_supplement at) = 1

told : (w : Where) (size : ℕ) → place_in w < 2 ^ 16 → size < 2 ^ 8 → StretchIn (law_place_number (got (record { stands = w; size = size }))) (store_of w) (place_in w) size
told (in_domain at) size h k = domain_back at size h k
told (in_supplement at) size h k = supplement_back at size h k

-- what `waroth_law` answers of a law in force is read back whole
pub law_told : (store supplement : List ℕ) (n : ℕ) (p : Part) → law_in_force store supplement n ≡ got p
    → StretchIn (law_place_number (stretch_of (law_in_force store supplement n))) (store_of p.stands) (place_in p.stands) (length p.bytes)
law_told store supplement n p e =
    let low = in_force_low store supplement n p e in
    subst (λ (a : Answer Part). StretchIn (law_place_number (stretch_of a)) (store_of p.stands) (place_in p.stands) (length p.bytes)) (sym e)
    (told p.stands (length p.bytes) low.place (omega (arith, low.size)))

-- who looks at the kind alone, of the lower half alone, and reads "accepted", has an accepted verdict
pub accepted_verdict : (states : ℕ) (j : Result Verdict Refusal) → kind_in (lower_half (judged_number states (answer_of j))) ≡ accepted_kind → j ≡ Ok Accepted
accepted_verdict states (Err why) e =
    let kind : kind_in (judged_number states (refused (number_of why))) ≡ refused_kind = refused_kind_lem states (number_of why) (omega (arith, number_small why)) in
    let half = half_kind (judged_number states (refused (number_of why))) in
    absurd (omega (arith, kind, half))
accepted_verdict states (Ok Accepted) e = refl
accepted_verdict states (Ok (Broken f step number)) e = absurd (omega (arith, kind_small f))

-- and what the call was given is an accepted sheet's judgement, with the number of its states
pub accepted_only : (given : Result Judged Refusal) → kind_in (lower_half (judged_number (states_counted given) (counted_of given))) ≡ accepted_kind
    → given ≡ Ok (record { verdict = Accepted; states = states_counted given })
accepted_only (Err why) e = let x : ◌≡◌ {A = Result Verdict Refusal} (Err why) (Ok Accepted) = accepted_verdict 0 (Err why) e in cc
accepted_only (Ok j) e =
    let x : ◌≡◌ {A = Result Verdict Refusal} (Ok j.verdict) (Ok Accepted) = accepted_verdict j.states (Ok j.verdict) e in
    let v : j.verdict ≡ Accepted = cc in
    ap (λ (w : Verdict). Ok (record { verdict = w; states = j.states })) v

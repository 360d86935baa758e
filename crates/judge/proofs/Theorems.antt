-- A judgement is the only one that keeps its promise: two answers that the paper numbers alike are one.
use Prim.Native.Nat.{ℕ, ◌-◌}
use mathlib.Core.Path.{◌≡◌, refl, sym, ap, ◌∙◌}
use mathlib.Core.List.{List, [], ◌∷◌}
use lib.ListN.{get_or}
use Rattle.bmap.specs.Refusal.{number_of}
use Rattle.bmap.proofs.RefusalLaws.{same_refusal}
use Rattle.judge.specs.Answer.{kind_of, verdict_of, answer_of, counted_of, states_counted}
use Rattle.judge.specs.declared.verdict.Fault.{Fault}
use Rattle.judge.specs.declared.verdict.Fault.TheVariants.{Misplaced, Barred, Concurrency, Conflict, Range, Static, ZeroDivisor, Goal, Beyond, TooFast}
use Rattle.judge.specs.declared.verdict.Verdict.{Verdict}
use Rattle.judge.specs.declared.verdict.Verdict.TheVariants.{Accepted, Broken}
use Rattle.bmap.specs.declared.refusal.Refusal.{Refusal}
use Rattle.std.specs.Prelude.{Result, Ok, Err}
use Rattle.judge.specs.declared.verdict.Judged.{Judged}

-- the faults by their number
faults : List Fault
faults = Misplaced ∷ Barred ∷ Concurrency ∷ Conflict ∷ Range ∷ Static ∷ ZeroDivisor ∷ Goal ∷ Beyond ∷ TooFast ∷ []

fault_of : (f : Fault) → get_or faults (kind_of f - 1) Misplaced ≡ f
unfolding faults
fault_of Misplaced = refl
fault_of Barred = refl
fault_of Concurrency = refl
fault_of Conflict = refl
fault_of Range = refl
fault_of Static = refl
fault_of ZeroDivisor = refl
fault_of Goal = refl
fault_of Beyond = refl
fault_of TooFast = refl

pub same_fault : (a b : Fault) → kind_of a ≡ kind_of b → a ≡ b
same_fault a b e = sym (fault_of a) ∙ (ap (λ (n : ℕ). get_or faults (n - 1) Misplaced) e ∙ fault_of b)

pub same_verdict : (a b : Verdict) → verdict_of a ≡ verdict_of b → a ≡ b
same_verdict Accepted Accepted e = refl
same_verdict Accepted (Broken f k n) e = cc
same_verdict (Broken f k n) Accepted e = cc
same_verdict (Broken f k n) (Broken g j m) e = let q : kind_of f ≡ kind_of g = cc in cc (same_fault f g q)

pub same_judgement : (a b : Result Verdict Refusal) → answer_of a ≡ answer_of b → a ≡ b
same_judgement (Err r) (Err q) e = let n : number_of r ≡ number_of q = cc in ap Err (same_refusal r q n)
same_judgement (Err r) (Ok v) e = cc
same_judgement (Ok v) (Err r) e = cc
same_judgement (Ok v) (Ok w) e = let q : verdict_of v ≡ verdict_of w = cc in ap Ok (same_verdict v w q)

-- and so is one that counts the states written
pub same_judged : (a b : Result Judged Refusal) → counted_of a ≡ counted_of b → states_counted a ≡ states_counted b → a ≡ b
same_judged (Err r) (Err q) e s = let n : number_of r ≡ number_of q = cc in ap Err (same_refusal r q n)
same_judged (Err r) (Ok j) e s = cc
same_judged (Ok j) (Err r) e s = cc
same_judged (Ok i) (Ok j) e s =
    let q : verdict_of i.verdict ≡ verdict_of j.verdict = cc in
    ap (λ (v : Verdict). Ok (record { verdict = v; states = i.states })) (same_verdict i.verdict j.verdict q) ∙ ap (λ (n : ℕ). Ok (record { verdict = j.verdict; states = n })) s

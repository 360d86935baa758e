-- What document 02 asks to be shown of supplements, and that each answer is the only one that keeps its promise. Assumes nothing.
use Prim.Native.Nat.{ℕ, ◌<◌}
use mathlib.Core.Path.{◌≡◌, sym, ap}
use mathlib.Core.List.{List}
use lib.ListN.{length}
use denote.Ref.{Bor}
use Rattle.std.specs.Prelude.{Result, Ok, Err}
use Rattle.bmap.specs.declared.refusal.Refusal.{Refusal}
use Rattle.bmap.specs.Refusal.{got, number_of}
use Rattle.bmap.specs.Verdict.{judgement, judge_sheet}
use Rattle.bmap.specs.Supplement.{judge_under, Where, in_domain, in_supplement, Part, law_in_force}
use Rattle.bmap.specs.Theorems.{EmptyChangesNothing, SupplementStands, SupplementLinesReturn, InForceJudged}
use Rattle.bmap.proofs.RefusalLaws.{same_refusal}
use Rattle.supplement.specs.declared.force.LawPlace.{LawPlace}
use Rattle.supplement.specs.declared.force.LawPlace.TheVariants.{InDomain, InSupplement}
use Rattle.supplement.specs.Check.{place_in}
use Rattle.supplement.specs.Force.{Stretch, stretch, placed, StandsIn}
use Rattle.index.proofs.Theorems as part
use Rattle.supplement.proofs.EmptyLaws.{nothing_replaced, zeros_accepted, zeros_judged, zeros_asked}
use Rattle.supplement.proofs.RoundTrip.{left_supplement, left_lines}
use Rattle.supplement.proofs.JudgedLaws.{in_force_says}
use Rattle.supplement.proofs.BoundLaws.{Low, law_low}

-- THEOREM. "an empty supplement changes nothing", also of length 0 and of zeros only.
pub empty_changes_nothing : EmptyChangesNothing
unfolding judge_under judge_sheet
empty_changes_nothing = record {
  laws = nothing_replaced;
  accepted = zeros_accepted;
  asked = zeros_asked;
  judged = λ store sheet levels zeros. ap (judgement levels) (zeros_judged store sheet levels zeros);
}

-- THEOREM. The store that the reader leaves is accepted, as the supplement that the lines are.
pub supplement_stands : SupplementStands
supplement_stands = left_supplement

-- THEOREM. Its frames written as lines are the lines that were read.
pub supplement_lines_return : SupplementLinesReturn
supplement_lines_return = left_lines

-- THEOREM. The law in force that is handed out is the one by which a sheet is judged.
pub in_force_judged : InForceJudged
in_force_judged = in_force_says

-- THEOREM. A law in force stands below 2 ^ 16, in a domain's store and in a supplement's, and has no more bytes than a payload.
pub in_force_low : (store supplement : List ℕ) (n : ℕ) (p : Part) → law_in_force store supplement n ≡ got p → Low p
in_force_low = law_low

-- ---- one result for each promise; the reader's answer has `same_reading` of `domain`

apart : {A : Type 0} (at bt : ℕ) → in_domain at ≡ in_supplement bt → A
apart at bt e = absurd cc

same_stretch : (a b : LawPlace) → stretch a ≡ stretch b → a ≡ b
same_stretch (InDomain a n) (InDomain b m) e =
    let p : a ≡ b = ap (λ (x : Stretch). place_in x.stands) e in
    let q : n ≡ m = ap (λ (x : Stretch). x.size) e in
    cc
same_stretch (InDomain a n) (InSupplement b m) e = apart a b (ap (λ (x : Stretch). x.stands) e)
same_stretch (InSupplement a n) (InDomain b m) e = apart b a (sym (ap (λ (x : Stretch). x.stands) e))
same_stretch (InSupplement a n) (InSupplement b m) e =
    let p : a ≡ b = ap (λ (x : Stretch). place_in x.stands) e in
    let q : n ≡ m = ap (λ (x : Stretch). x.size) e in
    cc

pub same_law_place : (a b : Result LawPlace Refusal) → placed a ≡ placed b → a ≡ b
same_law_place (Ok a) (Ok b) e = let s : stretch a ≡ stretch b = cc in ap Ok (same_stretch a b s)
same_law_place (Ok a) (Err q) e = cc
same_law_place (Err r) (Ok b) e = cc
same_law_place (Err r) (Err q) e = let n : number_of r ≡ number_of q = cc in ap Err (same_refusal r q n)

-- contents, and, where there are bytes, the place
module _ (store supplement r q : Bor (List ℕ)) (bytes : List ℕ) where
  pub same_bytes_lem : (w : Where) → StandsIn w store supplement bytes r → StandsIn w store supplement bytes q → r.now ≡ q.now
  same_bytes_lem (in_domain at) one other = part.same_contents one other
  same_bytes_lem (in_supplement at) one other = part.same_contents one other

  pub same_stand : (w : Where) → StandsIn w store supplement bytes r → StandsIn w store supplement bytes q → 0 < length bytes → r.ref_ptr ≡ q.ref_ptr
  same_stand (in_domain at) one other = part.same_place one other
  same_stand (in_supplement at) one other = part.same_place one other

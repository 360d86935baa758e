-- The law in force that is handed out is the one by which a sheet is judged. Assumes nothing.
use Prim.Native.Nat.{ℕ, ◌<◌}
use native.Mathlib.Omega.{arith}
use mathlib.Core.Path.{◌≡◌, refl, sym, ap, subst, ◌∙◌}
use mathlib.Core.Bool.{Bool, true, false}
use mathlib.Core.List.{List, [], ◌∷◌}
use mathlib.Core.Option.{Option, none, some}
use lib.Dec.{eqb}
use lib.ListN.{length}
use Rattle.bmap.specs.Plain.{if_else}
use Rattle.bmap.specs.Code.{parse_c}
use Rattle.bmap.specs.Domain.{Domain, Law}
use Rattle.bmap.specs.Payload.{byte, kind_of, executable_in, effect_in, must_in, law_in}
use Rattle.bmap.specs.Supplement.{Replacement, replaced, supplement_in}
use Rattle.bmap.specs.Theorems.{JudgedBy, InForceJudged}
use Rattle.bmap.specs.declared.limits.Counts.{Counts}
use Rattle.index.specs.Index.{law_bytes, domain_of, law_number, no_law}
use Rattle.index.proofs.DomainLaws.{counts_are, law_count}
use Rattle.domain.proofs.Passed.{Form, is_executable, is_effect, is_must, law_form}
use Rattle.supplement.specs.Under.{under_in}
use Rattle.supplement.proofs.CheckLaws.{numbered_some}
use Rattle.supplement.proofs.Accepted.{length_in_force}
use Rattle.supplement.proofs.ForceLaws.{known_law, bytes_there_lem}

-- the kind of a law's bytes is the law's
kind_is : (n : Counts) (k : ℕ) (p : List ℕ) (l : Law) → law_in n k p ≡ some l → k ≡ kind_of l
kind_is n k p l e = go (law_form n k p l e)
  where
    go : Form n k p l → k ≡ kind_of l
    go (is_executable q below c z) = q ∙ ap kind_of (sym z)
    go (is_effect q c f x z) = q ∙ ap kind_of (sym z)
    go (is_must s q c z) = q ∙ ap kind_of (sym z)

-- no law is without bytes
some_law : (n : Counts) (k : ℕ) (p : List ℕ) (l : Law) → law_in n k p ≡ some l → 0 < length p
unfolding law_in executable_in effect_in must_in parse_c
some_law n k (x ∷ p) l e = omega arith
some_law n k [] l e = absurd (go (eqb k 0xA5) (eqb k 0xA6) (eqb k 0xA7) (eqb k 0xA8) (eqb k 0xA9) e)
  where
    no : (b : Bool) → ◌≡◌ {A = Option Law} (if_else b none none) none
    no true = refl
    no false = refl

    go : (a b c d g : Bool) → ◌≡◌ {A = Option Law} (if_else a none (if_else b none (if_else c none (if_else d none (if_else g none none))))) (some l) → ⊥
    go true b c d g z = cc
    go false true c d g z = cc
    go false false true d g z = cc
    go false false false true g z = cc
    go false false false false true z = cc
    go false false false false false z = cc

pub in_force_says : InForceJudged
in_force_says store supplement d s n part g a e =
    let k = known_law store supplement n part e in
    let u = under_in store supplement in
    let same : domain_of store u.index ≡ d = (let y = sym k.under.domain ∙ g in cc) in
    let its : k.under.replacements ≡ s = (let y = sym k.under.accepted ∙ ap (λ (x : Domain). supplement_in x supplement) same ∙ a in cc) in
    let l = law_number (replaced k.under.replacements (domain_of store u.index)) n in
    let spelt : law_in u.index.counts (byte (law_bytes store u.index n) 0) part.bytes ≡ some l = ap (law_in u.index.counts (byte (law_bytes store u.index n) 0)) (sym k.part.there) ∙ k.under.law n k.number in
    let kind = kind_is u.index.counts (byte (law_bytes store u.index n) 0) part.bytes l spelt in
    let here : JudgedBy store supplement (domain_of store u.index) k.under.replacements n part l = record {
      law = numbered_some (replaced k.under.replacements (domain_of store u.index)).laws n no_law (omega (arith, length_in_force k.under.replacements (domain_of store u.index), law_count store u.index, k.number));
      says = ap (λ (c : Counts). law_in c (kind_of l) part.bytes) (counts_are store u.index) ∙ ap (λ (x : ℕ). law_in u.index.counts x part.bytes) (sym kind) ∙ spelt;
      some_bytes = some_law u.index.counts (byte (law_bytes store u.index n) 0) part.bytes l spelt;
      there = bytes_there_lem store supplement n part e;
    } in
    (l, subst (λ (x : Domain). JudgedBy store supplement x s n part l) same (subst (λ (x : List Replacement). JudgedBy store supplement (domain_of store u.index) x n part l) its here))

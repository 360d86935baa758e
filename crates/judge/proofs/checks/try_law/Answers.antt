use Prim.Native.Nat.{ℕ, ◌+◌, ◌*◌}
use mathlib.Core.Path.{◌≡◌, sym, ap, ◌∙◌, subst}
use mathlib.Core.Bool.{Bool}
use native.Mathlib.Omega.{arith}
use lib.ListN.{get_or}
use Rattle.std.specs.Prelude.{Option, Some, None}
use Rattle.bmap.specs.Limits.{frame_size}
use Rattle.index.specs.Index.{law_number}
use Rattle.judge.specs.Told.{Seen}
use Rattle.judge.proofs.CheckLaws.{permits_other, permits_mine, owned_place}
use Rattle.judge.proofs.checks.try_law.Goals as goal

pub returns-in_default : goal.returns-in_default
returns-in_default c = λ d h n lawful p owned seen. sym (permits_other d h c.args.j c.args.i (law_number d c.args.l) (owned c.args.l (omega (arith, lawful.count))) (λ e. let z : ◌≡◌ {A = Option ℕ} None (Some c.args.i) = sym c.in_default.is ∙ e in cc))

pub returns-then-owner-i : goal.returns-then-owner-i
returns-then-owner-i c = λ d h n lawful p owned seen. sym (permits_other d h c.args.j c.args.i (law_number d c.args.l) (owned c.args.l (omega (arith, lawful.count))) (λ e. c.if-owner-i.true (let z : ◌≡◌ {A = Option ℕ} (Some c.in-Some.owner) (Some c.args.i) = sym c.in-Some.is ∙ e in cc)))

pub returns : goal.returns
returns c = λ d h n lawful p owned seen.
    let own = owned c.args.l (omega (arith, lawful.count)) in
    let mine : get_or c.args.owners.now c.args.l None ≡ Some c.args.i = c.in-Some.is ∙ ap Some c.if-owner-i.false in
    let place = owned_place d (law_number d c.args.l) own mine in
    c.constraint_of.ensures d h (law_number d c.args.l) (frame_size * c.args.l) (lawful.law c.args.l p) (ap (λ (k : ℕ). frame_size * c.args.l + k) place.0)
    (subst (λ (b : Bool). Seen b d h c.args.history.now c.args.j) place.1 seen)
    ∙ sym (permits_mine d h c.args.j c.args.i (law_number d c.args.l) own mine)

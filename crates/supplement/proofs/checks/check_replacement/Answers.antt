use mathlib.Core.Path.{◌≡◌, sym, ap, ◌∙◌}
use mathlib.Core.Bool.{Bool}
use mathlib.Core.List.{List}
use Prim.Native.Nat.{ℕ}
use Rattle.bmap.specs.Payload.{law_in}
use Rattle.line.proofs.Lists.{part_to_end}
use Rattle.domain.specs.Check.{is_some}
use Rattle.supplement.specs.Check.{stands_in}
use Rattle.supplement.proofs.CheckLaws.{not_kind, not_long, not_there, other_law, given_twice, no_law_lem, is_law_lem}
use Rattle.supplement.proofs.checks.check_replacement.Goals as goal
use Rattle.supplement.proofs.checks.check_replacement.Goals.{then-n-index-via-then-n-index, then-n-index-via-else-n-index+then-not-stands_for, then-n-index-via-else-n-index+else-not-stands_for+then-over-n-ne0}

-- asked of the frame of the domain's law
of_frame : (p : List ℕ) {b : Bool} {part frame : List ℕ} → part ≡ frame → b ≡ stands_in part p → stands_in frame p ≡ b
of_frame p h e = sym (e ∙ ap (λ (l : List ℕ). stands_in l p) h)

pub returns-then-kind-ne-SUPPLEMENT-clause-number : goal.returns-then-kind-ne-SUPPLEMENT-clause-number
returns-then-kind-ne-SUPPLEMENT-clause-number c d earlier h o = not_kind d earlier _ c.if-kind-ne-SUPPLEMENT.true

pub returns-then-p-lt3-clause-number : goal.returns-then-p-lt3-clause-number
returns-then-p-lt3-clause-number c d earlier h o = not_long d earlier _ c.if-kind-ne-SUPPLEMENT.false c.if-p-lt3.true

pub returns-then-n-index-clause-number : goal.returns-then-n-index-clause-number
returns-then-n-index-clause-number c d earlier h o =
    elim c.then-n-index.branch [
      | then-n-index-via-then-n-index w ↦
          not_there h earlier o _ c.if-kind-ne-SUPPLEMENT.false c.if-p-lt3.false _ c.byte_at-n.ensures w.if-n-index.true
      | then-n-index-via-else-n-index+then-not-stands_for w ↦
          other_law h earlier o _ c.if-kind-ne-SUPPLEMENT.false c.if-p-lt3.false _ c.byte_at-n.ensures w.if-n-index.false (of_frame c.args.p.now w.law_at.ensures.contents w.if-not-stands_for.ensures)
      | then-n-index-via-else-n-index+else-not-stands_for+then-over-n-ne0 w ↦
          given_twice h earlier o _ c.if-kind-ne-SUPPLEMENT.false c.if-p-lt3.false _ c.byte_at-n.ensures w.if-n-index.false (of_frame c.args.p.now w.law_at.ensures.contents w.if-not-stands_for.ensures) c.requires w.if-over-n-ne0.true
    ]

pub returns-then-not-law_fits-clause-number : goal.returns-then-not-law_fits-clause-number
returns-then-not-law_fits-clause-number c d earlier h o =
    no_law_lem h earlier o _ c.if-kind-ne-SUPPLEMENT.false c.if-p-lt3.false _ c.byte_at-n.ensures c.if-n-index.false (of_frame c.args.p.now c.law_at.ensures.contents c.if-not-stands_for.ensures) c.requires c.if-over-n-ne0.false
    _ c.byte_at.ensures (c.if-not-law_fits.ensures ∙ ap (λ (l : List ℕ). is_some (law_in c.args.index.now.counts c.byte_at.result l)) (part_to_end c.args.p.now 2))

pub returns-clause-number : goal.returns-clause-number
returns-clause-number c d earlier h o =
    is_law_lem h earlier o _ c.if-kind-ne-SUPPLEMENT.false c.if-p-lt3.false _ c.byte_at-n.ensures c.if-n-index.false (of_frame c.args.p.now c.law_at.ensures.contents c.if-not-stands_for.ensures) c.requires c.if-over-n-ne0.false
    _ c.byte_at.ensures (c.if-not-law_fits.ensures ∙ ap (λ (l : List ℕ). is_some (law_in c.args.index.now.counts c.byte_at.result l)) (part_to_end c.args.p.now 2))

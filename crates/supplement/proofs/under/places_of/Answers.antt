use mathlib.Core.Path.{refl, sym, ap, ◌∙◌}
use native.Mathlib.Omega.{arith}
use Rattle.domain.proofs.Held.{framed, no_frame}
use Rattle.bmap.specs.Supplement.{replacement_in}
use Rattle.index.specs.Index.{domain_of}
use Rattle.index.specs.declared.Index.{Index}
use Rattle.index.proofs.DomainLaws.{law_count}
use Rattle.supplement.specs.Check.{frame_there}
use Rattle.supplement.specs.Under.{under_of}
use Rattle.supplement.proofs.UnderLaws.{made, passing_first, passing_over, passing_most, passing_junk, passing_done, passing_taken, passing_not}
use Rattle.supplement.proofs.under.places_of.Goals as goal

pub loop-size-init : goal.loop-size-init
loop-size-init c = rw c.found_alone-under.ensures (record { ok = refl; index = refl; passing = passing_first (domain_of c.args.store.now c.args.index) c.args.supplement.now })

pub returns-then-is_zero_from : goal.returns-then-is_zero_from
returns-then-is_zero_from c =
    let so = c.loop-size.invariant in
    made c.loop-size.under so.ok so.index (passing_over so.passing)
    ∙ sym (ap (under_of c.args.index) (passing_done so.passing (no_frame _ _ c.in_default.ensures) c.if-is_zero_from.ensures))

pub returns-else-is_zero_from : goal.returns-else-is_zero_from
returns-else-is_zero_from c =
    c.refused-else-is_zero_from.ensures 15 ∙ sym (ap (under_of c.args.index) (passing_junk c.loop-size.invariant.passing (no_frame _ _ c.in_default.ensures) c.if-is_zero_from.ensures))

pub take-requires-clause-sound : goal.take-requires-clause-sound
take-requires-clause-sound c = rw c.loop-size.invariant.index c.requires

pub take-requires-clause-low : goal.take-requires-clause-low
take-requires-clause-low c = omega (arith, passing_most c.loop-size.invariant.passing)

pub returns-in-Err : goal.returns-in-Err
returns-in-Err c =
    let so = c.loop-size.invariant in
    c.refused.ensures 15
    ∙ sym (ap (under_of c.args.index)
    (passing_not so.passing (framed _ _ _ c.in-Some.ensures) _ (ap (λ (x : Index). replacement_in (domain_of c.args.store.now x) so.passing.earlier (frame_there c.args.supplement.now c.loop-size.at c.in-Some.size)) so.index)
    _ (c.in-Err.ensures.over so.passing.earlier (passing_over so.passing))))

pub loop-size-preserved : goal.loop-size-preserved
loop-size-preserved c =
    let so = c.loop-size.invariant in
    record {
      ok = c.take.ensures.ok ∙ so.ok;
      index = c.take.ensures.index ∙ so.index;
      passing =
          passing_taken so.passing (framed _ _ _ c.in-Some.ensures) _ (ap (λ (x : Index). replacement_in (domain_of c.args.store.now x) so.passing.earlier (frame_there c.args.supplement.now c.loop-size.at c.in-Some.size)) so.index)
          (omega (arith, law_count c.args.store.now c.args.index, c.requires.laws)) _ (c.in_default-take.ensures.over so.passing.earlier (passing_over so.passing));
    }

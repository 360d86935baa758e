use lib.Dec.{eqb}
use Rattle.law.specs.Packed.{truth_in}
use Rattle.law.proofs.PackedLaws.{without, within}
use Rattle.law.proofs.packed.truth_of.Goals as goal

pub returns-then-word-eq0 : goal.returns-then-word-eq0
unfolding truth_in
returns-then-word-eq0 c = without (λ n. eqb n 1) c.args.word c.if-word-eq0.true c.reason_at.ensures

pub returns : goal.returns
unfolding truth_in
returns c = within (λ n. eqb n 1) c.args.word c.if-word-eq0.false

use Rattle.std.proofs.Common.{rules}
use mathlib.Core.Path.{◌∙◌}
use native.Mathlib.Omega.{arith}
use lib.Dec.{eqb}
use Rattle.law.specs.Packed.{truth_in}
use Rattle.law.proofs.PackedLaws.{packed_none, packed_some, packed_zero}
use Rattle.law.proofs.packed.with_truth.Goals as goal

pub returns-then-b : goal.returns-then-b
unfolding truth_in
returns-then-b c =
    packed_some (λ n. eqb n 1) c.args.end 1 (omega arith) ∙ rw (c.in-Ok.is, c.if-b.true)

pub returns-in-Err : goal.returns-in-Err
unfolding truth_in
returns-in-Err c =
    packed_none (λ n. eqb n 1) c.args.end c.in-Err.why (search rules) ∙ rw c.in-Err.is

pub returns-else-b : goal.returns-else-b
unfolding truth_in
returns-else-b c =
    packed_zero (λ n. eqb n 1) c.args.end ∙ rw (c.in-Ok.is, c.if-b.false)

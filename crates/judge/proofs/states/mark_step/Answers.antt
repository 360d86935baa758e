use Prim.Native.Nat.{ℕ, ◌+◌, ◌*◌, ◌%◌}
use lib.Dec.{eqb}
use mathlib.Core.Path.{ap, ◌∙◌}
use native.Mathlib.Omega.{arith}
use lib.ListN.{length-set}
use Rattle.law.specs.Evaluate.{row_size}
use Rattle.number.proofs.BackLaws.{back16}
use Rattle.judge.specs.States.{marks_from}
use Rattle.judge.proofs.StateLaws.{mark_of, mark_byte, between_set, marks_more}
use Rattle.judge.proofs.MaskLaws.{next_rest}
use Rattle.judge.proofs.states.mark_step.Goals as goal

pub loop-i-preserved : goal.loop-i-preserved
loop-i-preserved c = (
  (simp length-set c.loop-i.invariant.0.0, next_rest c.args.entries c.loop-i.i c.loop-i.invariant.0.1),
  (
    between_set (marks_from c.args.j) (row_size * (c.args.j + 1)) c.args.history.now c.loop-i.history c.loop-i.invariant.1.0 (marks_from c.args.j + c.loop-i.i) _ (omega arith) (omega arith),
    marks_more c.loop-i.history (marks_from c.args.j) c.args.entries c.loop-i.i (omega (arith, c.loop-i.invariant.0.0)) (back16 c.from.result c.from.type_inv ∙ (c.from.ensures ∙ (mark_byte (eqb (c.loop-i.rest % 2) 1) ∙ ap (λ (k : ℕ). mark_of (eqb (k % 2) 1)) c.loop-i.invariant.0.1))) c.loop-i.invariant.1.1,
  ),
)

use mathlib.Core.Path.{◌∙◌}
use Prim.Native.Nat.{◌%◌}
use native.Mathlib.Omega.{arith}
use Rattle.law.specs.Packed.{room, value_in}
use Rattle.law.proofs.PackedLaws.{lowered, without, within, lowers}
use Rattle.law.proofs.packed.value_of.Goals as goal

pub returns-then-word-eq0 : goal.returns-then-word-eq0
unfolding value_in
returns-then-word-eq0 c = without lowered c.args.word c.if-word-eq0.true c.reason_at.ensures

pub returns : goal.returns
unfolding value_in
returns c =
    lowers (c.args.word % room) (omega arith) ∙ within lowered c.args.word c.if-word-eq0.false

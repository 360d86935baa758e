use Prim.Native.Nat.{◌-◌}
use mathlib.Core.Path.{◌∙◌}
use native.Mathlib.Omega.{arith}
use lib.ListN.{length}
use Rattle.judge.proofs.MaskLaws.{mask_none, mask_more, mask_small}
use Rattle.judge.proofs.KnowledgeLaws.{shared}
use Rattle.judge.proofs.knowledge.known_to.Goals as goal

pub loop-f-init : goal.loop-f-init
loop-f-init c = mask_none _ _

pub pushed-mask-requires : goal.pushed-mask-requires
pushed-mask-requires c = mask_small _ _ _ 63 (omega arith) c.loop-f.invariant

pub loop-f-preserved : goal.loop-f-preserved
loop-f-preserved c = c.pushed-mask.ensures ∙ mask_more (shared c.args.crew c.args.table.now) (length c.args.table.now) c.loop-f.f c.loop-f-test.true c.loop-f.auto.f c.loop-f.invariant c.share.ensures

pub overflow_cast-result : goal.overflow_cast-result
overflow_cast-result c = record { fits = mask_small (shared c.args.crew c.args.table.now) c.loop-f.f (length c.args.table.now - c.loop-f.f) 32 (omega arith) c.loop-f.invariant }

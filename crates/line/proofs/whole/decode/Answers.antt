use Prim.Native.Nat.{◌-◌}
use mathlib.Core.Path.{refl}
use lib.ListN.{length, length-drop}
use native.Mathlib.Omega.{arith}
use Rattle.line.specs.Read.{spelt}
use Rattle.line.proofs.Lists.{part_to_end}
use Rattle.line.proofs.WholeLaws.{spells_part, block_more, blocks_done}
use Rattle.line.proofs.whole.decode.Goals as goal

pub loop-at-init : goal.loop-at-init
unfolding spelt
loop-at-init c = (omega arith, refl)

pub decode_block-requires : goal.decode_block-requires
decode_block-requires c =
    record { spells = spells_part c.args.text.now (length c.args.out.now) c.loop-at.at 16 (omega arith) c.requires; room = rw (part_to_end c.loop-at.out c.loop-at.at, length-drop c.loop-at.at c.loop-at.out) (omega arith) }

pub loop-at-preserved : goal.loop-at-preserved
loop-at-preserved c = (
  omega arith,
  block_more c.args.text.now c.loop-at.out (length c.args.out.now) c.loop-at.at c.requires c.loop-at.auto.out c.loop-at.invariant.0 c.loop-at.invariant.1 16 c.decode_block.new.out (omega arith) c.decode_block.ensures,
)

pub decode_each-requires : goal.decode_each-requires
decode_each-requires c =
    rw (part_to_end c.loop-at.out c.loop-at.at, length-drop c.loop-at.at c.loop-at.out)
    (spells_part c.args.text.now (length c.args.out.now) c.loop-at.at (length c.loop-at.out - c.loop-at.at) (omega arith) c.requires)

pub returns : goal.returns
returns c =
    blocks_done c.args.text.now c.loop-at.out (length c.args.out.now) c.loop-at.at c.requires c.loop-at.auto.out c.loop-at.invariant.0 c.loop-at.invariant.1 c.decode_each.new.out c.decode_each.ensures

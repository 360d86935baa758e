use mathlib.Core.Path.{sym}
use native.Mathlib.Omega.{arith}
use Rattle.line.proofs.WholeLaws.{no_digits, spells_part}
use Rattle.line.proofs.PayloadLaws.{spelt_start, digits_in_part, spelt_block, spelt_on}
use Rattle.line.proofs.payload.spell_blocks.Goals as goal

pub loop-out-init : goal.loop-out-init
loop-out-init g c = (omega arith, spelt_start _ _)

pub returns-then-not-all_digits : goal.returns-then-not-all_digits
returns-then-not-all_digits g c w = no_digits _ _ (sym c.if-not-all_digits.ensures) (spells_part c.args.text.now _ c.loop-out.at g.row.N (omega arith) w)

pub decode_block-requires-clause-spells : goal.decode_block-requires-clause-spells
decode_block-requires-clause-spells g c = digits_in_part c.args.text.now c.loop-out.at g.row.N (omega (arith, c.requires.room)) (sym c.if-not-all_digits.ensures)

pub loop-out-preserved : goal.loop-out-preserved
loop-out-preserved g c =
    let w = digits_in_part c.args.text.now c.loop-out.at g.row.N (omega (arith, c.requires.room)) (sym c.if-not-all_digits.ensures) in
    (omega arith, spelt_on c.args.text.now c.loop-out.out c.loop-out.at c.loop-out.invariant.1 g.row.N c.decode_block.new.out (spelt_block g.row.N _ _ _ w c.decode_block.ensures))

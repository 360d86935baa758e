use Prim.Native.Nat.{◌+◌, ◌≤◌}
use mathlib.Core.Path.{ap, ◌∙◌}
use lib.ListN.{length, length-drop}
use native.Mathlib.Omega.{arith}
use Rattle.line.proofs.Lists.{part_to_end, length_back}
use Rattle.line.proofs.WholeLaws.{spells_part}
use Rattle.line.proofs.PayloadLaws.{spelt_on, spelt_rest}
use Rattle.line.proofs.payload.spell_all.Goals as goal

pub returns-in_default-spell_blocks : goal.returns-in_default-spell_blocks
returns-in_default-spell_blocks c w =
    let size = ap length (part_to_end c.spell_blocks.new.out c.in-Some.blocks) ∙ length-drop c.in-Some.blocks c.spell_blocks.new.out in
    c.in_default-spell_blocks.ensures (spells_part c.args.text.now (length c.args.out.now) c.in-Some.blocks _ (omega (arith, size, c.in-Some.ensures.within, c.spell_blocks.auto.out)) w)

pub returns : goal.returns
returns c =
    let d = spelt_on c.args.text.now c.spell_blocks.new.out c.in-Some.blocks c.in-Some.ensures.spelt c.in-Some-spell_blocks.few c.spell_blocks-2.new.out c.in-Some-spell_blocks.ensures.spelt in
    let back = length_back c.spell_blocks.new.out c.spell_blocks-2.new.out c.in-Some.blocks c.in-Some.ensures.within c.spell_blocks-2.auto.out in
    let inside : c.in-Some.blocks + c.in-Some-spell_blocks.few ≤ length c.spell_blocks.new.out =
    omega (arith, c.in-Some.ensures.within, c.in-Some-spell_blocks.ensures.within, c.spell_blocks-2.auto.out, ap length (part_to_end c.spell_blocks.new.out c.in-Some.blocks) ∙ length-drop c.in-Some.blocks c.spell_blocks.new.out) in
    spelt_rest c.args.text.now _ _ _ (back ∙ c.spell_blocks.auto.out) d (omega (arith, inside, back)) c.spell_each.new.out c.spell_each.auto.out c.spell_each.result c.spell_each.ensures

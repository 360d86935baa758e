use mathlib.Core.Path.{refl, ap, ◌∙◌}
use mathlib.Core.List.{◌++◌}
use lib.ListN.{length, take}
use native.Mathlib.Omega.{arith}
use Rattle.line.proofs.Digits.{spelt_more, spell_more}
use Rattle.line.proofs.WholeLaws.{each_done}
use Rattle.line.proofs.whole.decode_each.Goals as goal

pub loop-n-preserved : goal.loop-n-preserved
loop-n-preserved c =
    let m = length c.args.out.now in
    let e = spelt_more m c.args.text.now c.loop-n.n (omega arith) (omega (arith, c.requires.within)) (c.requires.pairs c.loop-n.n (omega arith)) in
    (spell_more m c.args.text.now c.loop-n.out c.loop-n.out c.loop-n.n c.byte_of.result (omega arith) (rw c.byte_of.ensures (c.loop-n.invariant ∙ ap (λ x. take c.loop-n.n c.loop-n.out ++ x) e)) refl).0

pub returns : goal.returns
returns c =
    each_done (length c.args.out.now) c.args.text.now c.loop-n.out c.loop-n.n (omega arith) (omega arith) c.loop-n.invariant

use mathlib.Core.Path.{◌≡◌, sym, ap, ◌∙◌}
use mathlib.Core.List.{◌++◌}
use lib.ListN.{length, take}
use native.Mathlib.Omega.{arith}
use Rattle.line.proofs.Digits.{spelt_more, spelt_stop, spelt_end, spell_more, spell_done}
use Rattle.line.proofs.read.spell.Goals as goal

pub returns-in_default : goal.returns-in_default
returns-in_default c =
    let m = length c.args.out.now in
    let e = spelt_stop m c.args.text.now c.loop-n.n (omega arith) (omega arith) c.in_default.ensures in
    let (n, b) = spell_done m c.args.text.now c.loop-n.out c.args.out.now c.loop-n.n (omega arith) (c.loop-n.invariant.0 ∙ ap (λ x. take c.loop-n.n c.loop-n.out ++ x) e) c.loop-n.invariant.1 in
    record { count = n; buffer = b }

pub loop-n-preserved : goal.loop-n-preserved
loop-n-preserved c =
    let m = length c.args.out.now in
    let e = spelt_more m c.args.text.now c.loop-n.n (omega arith) (omega arith) c.in-Some.ensures.0 in
    spell_more m c.args.text.now c.loop-n.out c.args.out.now c.loop-n.n c.in-Some.byte (omega arith) (rw c.in-Some.ensures.1 (c.loop-n.invariant.0 ∙ ap (λ x. take c.loop-n.n c.loop-n.out ++ x) e)) c.loop-n.invariant.1

pub returns : goal.returns
returns c =
    let m = length c.args.out.now in
    let most : c.loop-n.n ≡ c.min-most.result = omega arith in
    let e = spelt_end m c.args.text.now c.loop-n.n (omega arith) in
    let (n, b) = spell_done m c.args.text.now c.loop-n.out c.args.out.now c.loop-n.n (omega arith) (c.loop-n.invariant.0 ∙ ap (λ x. take c.loop-n.n c.loop-n.out ++ x) e) c.loop-n.invariant.1 in
    record { count = sym most ∙ n; buffer = b }

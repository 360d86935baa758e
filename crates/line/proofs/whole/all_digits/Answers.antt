use mathlib.Core.Path.{sym, ap, ◌∙◌}
use native.Mathlib.Omega.{arith}
use Rattle.bmap.specs.Plain.{both}
use Rattle.line.specs.Within.{is_digit}
use Rattle.line.proofs.Lists.{ask_more, ask_end, and_both}
use Rattle.line.proofs.whole.all_digits.Goals as goal

pub loop-c-preserved : goal.loop-c-preserved
loop-c-preserved c =
    c.loop-c.invariant
    ∙ ask_more is_digit c.args.text.now c.loop-c.so_far _ c.loop-c.c-index (omega arith)
    (and_both c.loop-c.so_far c.is_digit-so_far.result ∙ ap (both c.loop-c.so_far) c.is_digit-so_far.ensures)

pub returns : goal.returns
returns c =
    sym (c.loop-c.invariant ∙ ask_end is_digit c.args.text.now c.loop-c.so_far c.loop-c.c-index (omega arith))

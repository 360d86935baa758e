use mathlib.Core.Path.{sym, ap, ◌∙◌}
use lib.ListN.{drop}
use native.Mathlib.Omega.{arith}
use Rattle.std.proofs.lemmas.List.{drop_min}
use Rattle.bmap.specs.Store.{zeros}
use Rattle.line.proofs.Lists.{part_to_end, join_more, join_end}
use Rattle.line.proofs.buffer.is_zero_from.Goals as goal

pub loop-b-preserved : goal.loop-b-preserved
loop-b-preserved c = c.loop-b.invariant ∙ join_more _ c.loop-b.joined c.loop-b.b-index (omega arith)

pub returns : goal.returns
returns c =
    sym (c.loop-b.invariant ∙ join_end _ c.loop-b.joined c.loop-b.b-index (omega arith))
    ∙ ap zeros (part_to_end c.args.buffer.now c.min.result ∙ ap (λ n. drop n c.args.buffer.now) c.min.ensures ∙ drop_min c.args.at c.args.buffer.now)

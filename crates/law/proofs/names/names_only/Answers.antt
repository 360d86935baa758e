use mathlib.Core.Path.{◌∙◌}
use lib.ListN.{drop}
use Rattle.bmap.specs.Limits.{most_depth}
use Rattle.bmap.specs.Code.{parse_c}
use Rattle.law.specs.Check.{in_mask}
use Rattle.law.proofs.CheckLaws.{names_known}
use Rattle.law.proofs.names.names_only.Goals as goal

pub returns : goal.returns
returns c =
    c.is_some.ensures ∙ names_known c.args.mask c.args.at c.tree_end.result (parse_c most_depth (drop c.args.at c.args.s.now)) (c.tree_end.ensures (in_mask c.args.mask) c.only_of.ensures)

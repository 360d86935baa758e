use mathlib.Core.Path.{ap, ◌∙◌}
use mathlib.Core.List.{List}
use Prim.Native.Nat.{ℕ, ◌-◌}
use lib.ListN.{get_or}
use Rattle.law.proofs.Codes.{row_at}
use Rattle.law.proofs.table.row_of.Goals as goal

pub returns : goal.returns
returns c =
    ap (λ (l : List ℕ). get_or l (c.args.code - 0x10) 0) c.requires.whole ∙ row_at c.args.code c.requires.from_first c.requires.to_last

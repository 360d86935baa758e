use Prim.Native.Nat.{◌+◌}
use mathlib.Core.Path.{subst, sym}
use mathlib.Core.List.{List}
use native.Mathlib.Omega.{arith}
use borrow.Author.Rules.{rules}
use lib.IntN.{ℤ}
use Rattle.judge.proofs.StateLaws.{Closed, closed_none, closed_more}
use Rattle.judge.proofs.states.copy_states.Goals as goal

pub loop-k-init : goal.loop-k-init
loop-k-init c = (search rules, closed_none c.args.w c.args.history.now)

pub loop-k-preserved : goal.loop-k-preserved
loop-k-preserved c = (
  omega arith,
  subst (λ (h : List ℤ). Closed c.args.w (c.loop-k.k + 1) c.args.history.now h (c.loop-k.at + c.args.w)) (sym c.move_row.ensures) (closed_more c.args.w c.loop-k.k c.args.history.now c.loop-k.history c.loop-k.at c.loop-k.invariant.1 c.requires.fluents c.loop-k.invariant.0 (omega arith)),
)

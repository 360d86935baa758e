-- `value_in` calls `inner_value`, and `so_far` calls `truth_in` at each position, with the same depth left; all other calls are with
-- one level less.
use Rattle.std.proofs.Common.{◌≡◌, ◌+◌, ◌*◌}
use Rattle.law.specs.Table.{look_back_at}
use Rattle.law.specs.Evaluate.{so_far_at}
use Rattle.law.specs.Packed.{judged_in}
use Rattle.law.proofs.eval.+inner_value_so_far_truth_in_value_in.Given as goal

abbrev pub decreases-inner_value : goal.decreases-inner_value
decreases-inner_value l = 2 * l.depth

abbrev pub decreases-so_far : goal.decreases-so_far
decreases-so_far l = 2 * l.depth + 1

abbrev pub decreases-truth_in : goal.decreases-truth_in
decreases-truth_in l = 2 * l.depth

abbrev pub decreases-value_in : goal.decreases-value_in
decreases-value_in l = 2 * l.depth + 1

-- the positions up to i are joined
abbrev pub invariant-so_far-loop-i : goal.invariant-so_far-loop-i
invariant-so_far-loop-i l = judged_in l.all ≡ so_far_at (look_back_at l.n) l.depth l.s l.at l.history l.i

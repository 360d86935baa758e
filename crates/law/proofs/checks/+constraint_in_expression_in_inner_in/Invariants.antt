-- Each function calls the others with one level less, but `expression_in` calls `inner_in` with the same depth left.
use Rattle.std.proofs.Common.{◌+◌, ◌*◌}
use Rattle.law.proofs.checks.+constraint_in_expression_in_inner_in.Given as goal

abbrev pub decreases-constraint_in : goal.decreases-constraint_in
decreases-constraint_in l = 2 * l.depth

abbrev pub decreases-expression_in : goal.decreases-expression_in
decreases-expression_in l = 2 * l.depth + 1

abbrev pub decreases-inner_in : goal.decreases-inner_in
decreases-inner_in l = 2 * l.depth

-- Each call has one level less.
use Rattle.law.proofs.long.+tree_in.Given as goal

abbrev pub decreases-tree_in : goal.decreases-tree_in
decreases-tree_in l = l.depth

use mathlib.Core.Path.{◌≡◌}
use Rattle.bmap.specs.Plain.{all}
use Rattle.line.specs.Within.{is_digit}
use Rattle.line.proofs.Lists.{asking}
use Rattle.line.proofs.whole.all_digits.Given as goal

abbrev pub invariant-loop-c : goal.invariant-loop-c
invariant-loop-c l = all is_digit l.text ≡ asking is_digit l.text l.so_far l.c-index

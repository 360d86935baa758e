use mathlib.Core.Path.{refl}
use native.Mathlib.Omega.{arith}
use Rattle.line.specs.Within.{pair_of}
use Rattle.line.proofs.Digits.{pair_digits}
use Rattle.line.proofs.digit.byte_of.Goals as goal

pub digit_value-requires : goal.digit_value-requires
digit_value-requires c = (pair_digits c.args.high c.args.low c.requires).0

pub overflow_mul-result : goal.overflow_mul-result
unfolding pair_of
overflow_mul-result c = omega (arith, c.digit_value.ensures, c.requires)

pub digit_value-requires-2 : goal.digit_value-requires-2
digit_value-requires-2 c = (pair_digits c.args.high c.args.low c.requires).1

pub overflow_add-result : goal.overflow_add-result
unfolding pair_of
overflow_add-result c = omega (arith, c.digit_value.ensures, c.digit_value-2.ensures, c.requires)

pub returns : goal.returns
unfolding pair_of
returns c = rw (← c.digit_value.ensures, ← c.digit_value-2.ensures) refl

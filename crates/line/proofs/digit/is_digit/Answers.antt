use Rattle.line.proofs.Digits.{in_ranges}
use Rattle.line.proofs.digit.is_digit.Goals as goal

pub returns : goal.returns
returns c = in_ranges c.args.c

use Rattle.line.proofs.Digits.{shifted}
use Rattle.line.proofs.digit.digit_value.Goals as goal

pub overflow_sub-result : goal.overflow_sub-result
overflow_sub-result c = (shifted c.args.c c.requires).least

pub overflow_sub-result-else-c-le57 : goal.overflow_sub-result-else-c-le57
overflow_sub-result-else-c-le57 c = (shifted c.args.c c.requires).least_letter c.if-c-le57.false

pub returns-then-c-le57 : goal.returns-then-c-le57
returns-then-c-le57 c = (shifted c.args.c c.requires).number c.if-c-le57.true

pub returns-else-c-le57 : goal.returns-else-c-le57
returns-else-c-le57 c = (shifted c.args.c c.requires).letter c.if-c-le57.false

use mathlib.Core.Path.{◌∙◌}
use Rattle.std.proofs.lemmas.Bool.{le-ltb}
use Rattle.law.proofs.Bits.{no_bit}
use Rattle.judge.proofs.acting.has.Goals as goal

pub returns-else-i-lt-ENTRIES : goal.returns-else-i-lt-ENTRIES
returns-else-i-lt-ENTRIES c = le-ltb c.args.i 64 c.if-i-lt-ENTRIES.false ∙ no_bit 64 c.args.mask c.args.i c.ranges.mask.fits c.if-i-lt-ENTRIES.false

use native.Mathlib.Omega.{arith}
use lib.ListN.{get_or}
use Rattle.judge.proofs.ReadingLaws.{no_value_past}
use Rattle.judge.proofs.reading.setting_at.Goals as goal

pub returns-then-at-ge-HELD : goal.returns-then-at-ge-HELD
returns-then-at-ge-HELD c = no_value_past c.args.held.now c.args.at (get_or c.args.held.now c.args.at 0) c.args.history.now c.args.j (omega arith)

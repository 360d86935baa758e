use native.Mathlib.Omega.{arith}
use Rattle.session.proofs.CallLaws.{undone_got}
use Rattle.session.proofs.value.undone.Goals as goal

pub returns : goal.returns
returns c =
    let o = rw c.in_ok-sheet.ensures.ok_part at c.open_at.ensures in
    undone_got c.args.s o.0 c.saturating_sub-standing.result c.in_ok-sheet.sheet c.saturating_sub-standing.ensures (omega arith) o.1

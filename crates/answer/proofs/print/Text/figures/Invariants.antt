use Rattle.std.proofs.Common.{◌+◌, ◌*◌, ◌≤◌}
use Rattle.bmap.specs.Report.{figures_lines}
use Rattle.answer.specs.States.{rows_of}
use Rattle.answer.specs.Put.{Put}
use Rattle.answer.specs.Room.{fluent_room}
use Rattle.answer.proofs.print.Text.figures.Given as goal

abbrev pub invariant-loop-fluent : goal.invariant-loop-fluent
invariant-loop-fluent l =
    (l.self.at ≤ l.initial.self.at + fluent_room * l.fluent) × Put l.initial.self (figures_lines l.fluent (rows_of l.states)) l.self

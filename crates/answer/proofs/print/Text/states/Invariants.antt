use Rattle.std.proofs.Common.{◌+◌, ◌≤◌}
use Rattle.bmap.specs.Sheet.{rows}
use Rattle.bmap.specs.Program.{state_lines}
use Rattle.answer.specs.Put.{Put}
use Rattle.answer.specs.Room.{states_room}
use Rattle.answer.proofs.print.Text.states.Given as goal

abbrev pub invariant-loop-k : goal.invariant-loop-k
invariant-loop-k l =
    (l.self.at ≤ l.initial.self.at + states_room l.k) × Put l.initial.self (state_lines 0 (rows l.states.fluents l.k l.states.levels.now)) l.self

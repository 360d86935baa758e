use Rattle.std.proofs.Common.{◌+◌, ◌*◌, ◌≤◌, map, take}
use Rattle.bmap.specs.Program.{decimal_z, spaced}
use Rattle.answer.specs.Put.{Put}
use Rattle.answer.specs.Room.{level_room}
use Rattle.answer.proofs.print.Text.levels.Given as goal

abbrev pub invariant-loop-level : goal.invariant-loop-level
invariant-loop-level l =
    (l.self.at ≤ l.initial.self.at + level_room * l.level-index) × Put l.initial.self (spaced (map decimal_z (take l.level-index l.levels))) l.self

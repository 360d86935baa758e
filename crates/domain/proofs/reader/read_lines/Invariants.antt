use Rattle.std.proofs.Common.{◌≡◌, length}
use Rattle.domain.proofs.ReaderLaws.{Reads}
use Rattle.domain.proofs.reader.read_lines.Given as goal

abbrev pub invariant-loop-first : goal.invariant-loop-first
invariant-loop-first l = (length l.store ≡ length l.initial.store) × Reads l.text l.store l.rest l.progress l.used l.line

abbrev pub decreases-loop-first : goal.decreases-loop-first
decreases-loop-first l = length l.rest

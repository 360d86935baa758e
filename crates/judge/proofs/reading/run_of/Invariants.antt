use mathlib.Core.Path.{◌≡◌}
use lib.ListN.{get_or}
use Rattle.judge.specs.Told.{Spans, frame_of}
use Rattle.judge.proofs.reading.run_of.Given as goal

abbrev pub invariant-loop-l : goal.invariant-loop-l
invariant-loop-l l = Spans (λ i. get_or (frame_of l.held i) 0 0 ≡ l.kind) l.n l.l l.run

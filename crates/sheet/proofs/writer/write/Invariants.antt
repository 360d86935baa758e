use mathlib.Core.Path.{◌≡◌}
use Rattle.std.specs.Slice.Iter.{chunks_exact_rest, chunks_exact_size}
use Rattle.sheet.proofs.WriteLaws.{Put}
use Rattle.sheet.proofs.writer.write.Given as goal

abbrev pub invariant-loop-names : goal.invariant-loop-names
invariant-loop-names l =
    (chunks_exact_size l.names-iterator ≡ l.agents) × Put l.agents l.steps l.sheet l.initial.text l.text (chunks_exact_rest l.names-iterator) l.used

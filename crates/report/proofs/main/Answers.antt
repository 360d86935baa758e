-- By the law: so many zeros are too many to be counted by computing.
use Rattle.std.proofs.Common.{ℕ, sym}
use Rattle.std.proofs.lemmas.List.{length-replicate}
use Rattle.bmap.specs.Limits.{report_input}
use Rattle.report.proofs.main.Goals as goal

pub slice_bounds-figures-end : goal.slice_bounds-figures-end
slice_bounds-figures-end c = sym {A = ℕ} {b = report_input} (length-replicate {0} {A = ℕ} report_input 0)

pub figures-requires-clause-taken : goal.figures-requires-clause-taken
figures-requires-clause-taken c = length-replicate {0} {A = ℕ} report_input 0

use mathlib.Core.Path.{◌≡◌}
use mathlib.Core.Bool.{true}
use lib.ListN.{length}
use Rattle.index.specs.Index.{domain_of}
use Rattle.supplement.proofs.ReaderLaws.{Reads}
use Rattle.supplement.proofs.reader.read_lines.Given as goal

abbrev pub invariant-loop-first : goal.invariant-loop-first
invariant-loop-first l = record {
  ok : l.under.ok ≡ true;
  index : l.under.index ≡ l.initial.under.index;
  size : length l.buffer ≡ length l.initial.buffer;
  reads : Reads (domain_of l.store l.initial.under.index) l.text l.buffer l.rest l.under.over l.used l.line;
}

abbrev pub decreases-loop-first : goal.decreases-loop-first
decreases-loop-first l = length l.rest

-- The fluents that a law names.
use Rattle.std.specs.Prelude.{ℕ, Bool, false}
use Rattle.std.proofs.Math.Option.{Option, none, some}
use Rattle.bmap.specs.Plain.{all}
use Rattle.bmap.specs.Tree.{Con, named_c}
use Rattle.bmap.specs.Code.{Parsed}
use Rattle.bmap.specs.Domain.{has}

-- whether a constraint stands there, and every fluent that it names is in the mask
abbrev pub names_only : ℕ → Option (Parsed Con) → Bool
names_only mask none = false
names_only mask (some p) = all (has mask) (named_c p.tree)

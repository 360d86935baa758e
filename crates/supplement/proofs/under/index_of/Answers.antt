use mathlib.Core.Path.{sym, ◌∙◌}
use Rattle.domain.proofs.Accepted.{found_ok}
use Rattle.supplement.proofs.UnderLaws.{under_not, under_by}
use Rattle.supplement.proofs.under.index_of.Goals as goal

pub places_of-requires : goal.places_of-requires
places_of-requires c = (found_ok c.args.store.now _ (sym c.in-Some.ensures)).sound

pub returns-in-Some : goal.returns-in-Some
returns-in-Some c = c.places_of.ensures ∙ under_by c.args.store.now c.args.supplement.now _ (sym c.in-Some.ensures)

pub returns-in-None : goal.returns-in-None
returns-in-None c = c.found_alone.ensures ∙ under_not c.args.store.now c.args.supplement.now (sym c.in-None.ensures)

use mathlib.Core.Path.{sym, ap, ◌∙◌}
use Rattle.bmap.specs.Refusal.{got}
use Rattle.supplement.specs.declared.under.Under.{Under}
use Rattle.supplement.proofs.Accepted.{under_is}
use Rattle.supplement.proofs.ForceLaws.{not_found, not_numbered, stretch_is}
use Rattle.supplement.proofs.force.place_in_force.Goals as goal

pub returns-then-not-under : goal.returns-then-not-under
returns-then-not-under c =
    not_found c.args.store.now c.args.supplement.now c.args.n (sym (ap (λ (x : Under). x.ok) c.index_of-under.ensures) ∙ c.if-not-under.true)

pub returns-then-under-n : goal.returns-then-under-n
returns-then-under-n c =
    not_numbered c.args.store.now c.args.supplement.now c.args.n _ (under_is _ _ _ c.index_of-under.ensures c.if-not-under.false) c.if-under-n.true

pub returns : goal.returns
returns c =
    ap got c.standing.ensures ∙ stretch_is c.args.store.now c.args.supplement.now c.args.n _ (under_is _ _ _ c.index_of-under.ensures c.if-not-under.false) c.if-under-n.false

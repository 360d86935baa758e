use mathlib.Core.Path.{sym, ◌∙◌}
use native.Mathlib.Omega.{arith}
use Rattle.std.proofs.lemmas.Bool.{not-true, not-false}
use Rattle.session.proofs.ListLaws.{never}
use Rattle.session.proofs.OpenLaws.{like_sheet, sheet_like, other_sheet, not_all, by_tail}
use Rattle.session.proofs.kept.is_kept.Goals as goal

pub returns-then-ne : goal.returns-then-ne
returns-then-ne c =
    other_sheet c.args.s.now c.requires.few c.requires.below c.requires.short c.args.sheet c.requires.reached (λ e. never _ (like_sheet _ _ e) (not-true _ (sym c.ne.ensures ∙ c.if-ne.true)))

pub returns-in-None : goal.returns-in-None
returns-in-None c =
    not_all c.args.s.now c.requires.few c.requires.below c.requires.short c.in-None.ensures

pub returns-in-Some : goal.returns-in-Some
returns-in-Some c =
    by_tail c.args.s.now c.requires.few c.requires.below c.requires.short c.args.sheet c.requires.reached (omega arith) (sheet_like _ _ (not-false _ (sym c.ne.ensures ∙ c.if-ne.false))) c.in-Some.ensures.sound c.is_zero_from.result c.is_zero_from.ensures

use Prim.Native.Nat.{◌+◌, ◌*◌, ◌<◌}
use mathlib.Core.Path.{◌≡◌, refl, sym, ap, ◌∙◌}
use mathlib.Core.Bool.{true}
use native.Mathlib.Omega.{arith}
use borrow.Author.Rules.{rules}
use lib.IntN.{ℤ, pos}
use lib.ListN.{length, length-set, get_or}
use lib.Signed.{le_z, mag}
use Rattle.bmap.specs.Plain.{both}
use Rattle.bmap.specs.Domain.{State}
use Rattle.bmap.specs.Judge.{slow}
use Rattle.number.proofs.BackLaws.{back16}
use Rattle.law.specs.Evaluate.{row_size}
use Rattle.judge.specs.States.{state_at, marks_from}
use Rattle.index.specs.Index.{no_fluent}
use Rattle.judge.proofs.StateLaws.{level_of, state_kept, between_set}
use Rattle.judge.proofs.LandingLaws.{fit_told, unfit_told, slow_back, out_is, slow_is, put_none, put_more, put_fault, put_all}
use Rattle.judge.specs.declared.verdict.Fault.TheVariants.{Range, TooFast}
use Rattle.index.specs.declared.Fluent.{Fluent as Row}
use Rattle.judge.proofs.landing.put_state.Goals as goal
use Rattle.judge.proofs.landing.put_state.Goals.{After-is_slow}

pub loop-f-init : goal.loop-f-init
loop-f-init c = (c.told-history, (record { before = refl; after = refl }, λ d settings r l. put_none d settings (state_at (length c.args.fluents.now) c.args.history.now c.args.j) c.args.j c.args.history.now))

pub returns-in_default : goal.returns-in_default
returns-in_default c =
    let low : ℤ = (get_or c.args.fluents.now c.loop-f.f no_fluent).lowest in
    let high : ℤ = (get_or c.args.fluents.now c.loop-f.f no_fluent).highest in
    let level : ℤ = get_or c.args.new.now c.loop-f.f (pos 0) in
    let low_small : mag ((get_or c.args.fluents.now c.loop-f.f no_fluent).lowest) < 32768 = search rules in
    let high_small : mag ((get_or c.args.fluents.now c.loop-f.f no_fluent).highest) < 32768 = search rules in
    let level_small : mag (get_or c.args.new.now c.loop-f.f (pos 0)) < 2147483648 = search rules in record {
      kept = c.loop-f.invariant.1.0;
      ranged = λ d settings r l.
          put_fault d settings (state_at (length c.args.fluents.now) c.args.history.now c.args.j) c.args.fluents.now (length c.args.fluents.now) r c.args.j c.loop-f.f c.loop-f.history (state_at (length c.args.fluents.now) c.loop-f.history (c.args.j + 1)) Range c.loop-f-test.true (c.loop-f.invariant.1.1 d settings r l)
          (out_is d settings (state_at (length c.args.fluents.now) c.args.history.now c.args.j) c.args.fluents.now (length c.args.fluents.now) r c.loop-f.f c.loop-f-test.true (l c.loop-f.f c.loop-f-test.true) (unfit_told low level high low_small high_small level_small c.fitted.ensures c.in_default.is));
    }

-- a level within its range, and how its change was asked
module _ (c : After-is_slow) where
  abbrev row : Row
  row = get_or c.args.fluents.now c.loop-f.f no_fluent

  abbrev level : ℤ
  level = get_or c.args.new.now c.loop-f.f (pos 0)

  abbrev here : ℤ
  here = get_or c.loop-f.history (row_size * c.args.j + c.loop-f.f) (pos 0)

  abbrev old : State
  old = state_at (length c.args.fluents.now) c.args.history.now c.args.j

  record Fitted : Type 0 where
    small : mag c.in-Some.z < 32768
    is : level ≡ c.in-Some.z
    within : both (le_z row.lowest level) (le_z level row.highest) ≡ true
    slowly : c.is_slow.result ≡ slow row.limit (get_or old c.loop-f.f (pos 0)) level

  fitted_in : Fitted
  fitted_in =
      let low_small : mag (get_or c.args.fluents.now c.loop-f.f no_fluent).lowest < 32768 = search rules in
      let high_small : mag (get_or c.args.fluents.now c.loop-f.f no_fluent).highest < 32768 = search rules in
      let level_small : mag (get_or c.args.new.now c.loop-f.f (pos 0)) < 2147483648 = search rules in
      let here_small : mag (get_or c.loop-f.history (row_size * c.args.j + c.loop-f.f) (pos 0)) < 32768 = search rules in
      let put_small : mag c.in-Some.z < 32768 = search rules in
      let fine = fit_told row.lowest level row.highest low_small high_small level_small c.fitted.ensures c.in-Some.is in
      let before : here ≡ get_or old c.loop-f.f (pos 0) = sym (level_of (length c.args.fluents.now) c.args.j c.loop-f.f c.loop-f.history c.loop-f-test.true)
      ∙ ap (λ (l : State). get_or l c.loop-f.f (pos 0)) (state_kept (length c.args.fluents.now) (row_size * (c.args.j + 1)) c.args.j c.args.history.now c.loop-f.history c.loop-f.invariant.1.0.before (omega (arith, c.requires.fluents))) in
      record {
        small = put_small;
        is = fine.0;
        within = fine.1;
        slowly = slow_back row.limit here c.in-Some.z here_small put_small c.is_slow.ensures
            ∙ (ap (λ (z : ℤ). slow row.limit z c.in-Some.z) before ∙ ap (slow row.limit (get_or old c.loop-f.f (pos 0))) (sym fine.0));
      }

pub returns-then-not-is_slow : goal.returns-then-not-is_slow
returns-then-not-is_slow c =
    let fine = fitted_in (goal.at.returns-then-not-is_slow c).After-is_slow in record {
      kept = c.loop-f.invariant.1.0;
      ranged = λ d settings r l.
          put_fault d settings (state_at (length c.args.fluents.now) c.args.history.now c.args.j) c.args.fluents.now (length c.args.fluents.now) r c.args.j c.loop-f.f c.loop-f.history (state_at (length c.args.fluents.now) c.loop-f.history (c.args.j + 1)) TooFast c.loop-f-test.true (c.loop-f.invariant.1.1 d settings r l)
          (slow_is d settings (state_at (length c.args.fluents.now) c.args.history.now c.args.j) c.args.fluents.now (length c.args.fluents.now) r c.loop-f.f c.loop-f-test.true (l c.loop-f.f c.loop-f-test.true) fine.within (sym fine.slowly ∙ c.if-not-is_slow.true));
    }

pub loop-f-preserved : goal.loop-f-preserved
loop-f-preserved c =
    let fine = fitted_in (goal.at.loop-f-preserved c).After-is_slow in (
      simp length-set c.loop-f.invariant.0,
      (
        between_set (row_size * (c.args.j + 1)) (marks_from (c.args.j + 1)) c.args.history.now c.loop-f.history c.loop-f.invariant.1.0 (row_size * (c.args.j + 1) + c.loop-f.f) _ (omega arith) (omega arith),
        λ d settings r l.
            put_more d settings (state_at (length c.args.fluents.now) c.args.history.now c.args.j) c.args.fluents.now (length c.args.fluents.now) r c.args.j c.loop-f.f c.loop-f.history c.loop-f-test.true (omega (arith, c.loop-f.invariant.0)) (c.loop-f.invariant.1.1 d settings r l)
            (back16 c.in-Some.z fine.small ∙ (sym fine.is ∙ l c.loop-f.f c.loop-f-test.true))
            (slow_is d settings (state_at (length c.args.fluents.now) c.args.history.now c.args.j) c.args.fluents.now (length c.args.fluents.now) r c.loop-f.f c.loop-f-test.true (l c.loop-f.f c.loop-f-test.true) fine.within (sym fine.slowly ∙ c.if-not-is_slow.false)),
      ),
    )

pub returns : goal.returns
returns c = record {
  kept = c.loop-f.invariant.1.0;
  ranged = λ d settings r l. put_all d settings (state_at (length c.args.fluents.now) c.args.history.now c.args.j) c.args.fluents.now (length c.args.fluents.now) r c.args.j c.loop-f.f c.loop-f.history (omega arith) (c.loop-f.invariant.1.1 d settings r l);
}

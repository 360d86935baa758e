use Prim.Native.Nat.{ℕ, ◌-◌, ◌<◌}
use mathlib.Core.Path.{◌≡◌, refl, sym, ap, ◌∙◌}
use mathlib.Core.List.{[]}
use native.Mathlib.Omega.{arith}
use borrow.Author.Rules.{rules}
use lib.ListN.{length, get_or}
use Rattle.bmap.specs.Judge.{fault, trouble_kind, settled}
use Rattle.index.specs.Index.{law_number}
use Rattle.judge.specs.Answer.{wants_of}
use Rattle.judge.specs.Settings.{said, no_setting, settings_of, settled_of}
use Rattle.judge.proofs.CheckLaws.{run_starts, run_ends, run_law, run_says}
use Rattle.judge.proofs.SettingLaws.{settings_none, settings_clash, settings_same, settings_other, settings_put, same_bits, other_bits, sets_none, settled_none, settled_idle, settled_blank, settled_clash, settled_leaves, settled_puts}
use lib.Signed.{mag}
use Rattle.std.specs.Prelude.{Result, Ok, Err}
use Rattle.judge.specs.declared.verdict.Breach.{Breach}
use Rattle.judge.proofs.LoopLaws.{read_fine, read_fault}
use Rattle.judge.proofs.effects.settle.Goals as goal
use Rattle.judge.proofs.effects.settle.Goals.{else-settings-i-via-then-settings-i+else-settings-i-2, else-settings-i-via-else-settings-i, in-Some+else-loop-i-test, in_default, else-laws-test, then-laws-test+in_ok-wants+in-Some+then-loop-i-test+then-settings-i+then-settings-i-2}

pub laws-init : goal.laws-init
unfolding settings_of
laws-init c = (
  refl,
  (
    (search rules, search rules),
    λ d h n names lawful within occurring seen.
        run_starts (λ k r. settled d h c.args.j names k [] r) d c.args.held.now n 0xA6 c.args.run lawful within
        (λ k l r w q. settled_idle d h c.args.j names k [] l r (sets_none d h c.args.j names _ l w q)),
  ),
)

pub returns-in_err-wants-clause-settled : goal.returns-in_err-wants-clause-settled
returns-in_err-wants-clause-settled c = λ d h n names lawful within occurring seen.
    let e : c.from_residual.result ≡ Err c.in_err-wants.field-0.0 = search rules in
    let blank = read_fault c.in_err-wants.ensures in
    ap (λ (r : Result ℕ Breach). settled_of r c.laws.settings) e
    ∙ (ap (λ (kind : ℕ). fault kind c.in_err-wants.field-0.0.number) blank.kinds ∙ (ap (fault (trouble_kind blank.why)) blank.places
    ∙ sym (c.laws.invariant.1.1 d h n names lawful within occurring seen
    ∙ settled_blank d h c.args.j names d.laws c.laws.l _ (run_law d _ n 0xA6 c.args.run c.laws.l lawful within c.laws-test.true) blank.why
    (sym (c.wanted.ensures d h (law_number d c.laws.l) names (run_says d _ n 0xA6 c.args.run c.laws.l lawful within c.laws-test.true) occurring seen) ∙ ap wants_of blank.is))))

pub loop-i-preserved : goal.loop-i-preserved
loop-i-preserved c = (
  c.loop-i.invariant.0,
  c.loop-i.invariant.1 ∙ elim c.else-settings-i.branch [
    | else-settings-i-via-then-settings-i+else-settings-i-2 w ↦
        let before_small : mag (get_or c.laws.settings (c.loop-i.i - 1) no_setting).level < 2147483648 = search rules in
        let small : mag c.in-Some.new.level < 2147483648 = search rules in
        settings_same (said c.in-Some.new) _ c.loop-i.i c.loop-i-test.true w.if-settings-i.true (same_bits (get_or c.laws.settings (c.loop-i.i - 1) no_setting).level c.in-Some.new.level before_small small w.if-settings-i-2.false)
    | else-settings-i-via-else-settings-i w ↦ settings_other (said c.in-Some.new) _ c.loop-i.i c.loop-i-test.true w.if-settings-i.false
  ],
)

pub laws-preserved : goal.laws-preserved
laws-preserved c = elim c.match-wants.branch [
  | in-Some+else-loop-i-test w ↦ (
    w.bad-is ∙ (w.loop-i.invariant.0 ∙ c.laws.invariant.0),
    (
      (omega arith, omega arith),
      λ d h n names lawful within occurring seen. c.laws.invariant.1.1 d h n names lawful within occurring seen
          ∙ settled_puts d h c.args.j names d.laws c.laws.l (settings_of c.laws.m c.laws.settings) (run_law d _ n 0xA6 c.args.run c.laws.l lawful within c.laws-test.true)
          (sym (c.wanted.ensures d h (law_number d c.laws.l) names (run_says d _ n 0xA6 c.args.run c.laws.l lawful within c.laws-test.true) occurring seen)
          ∙ ap wants_of (read_fine c.laws.l c.in_ok-wants.ensures ∙ ap Ok w.in-Some.is))
          (w.loop-i.invariant.1 ∙ settings_none _ _ w.loop-i-test.false) (rw (w.m-is, w.settings-is) (settings_put c.laws.m w.in-Some.new c.laws.settings (let long : length c.laws.settings ≡ 128 = search rules in omega arith))),
    ),
  )
  | in_default w ↦ let kept : settings_of c.match-wants.m c.match-wants.settings ≡ settings_of c.laws.m c.laws.settings = rw (w.m-is, w.settings-is) refl in (
    w.bad-is ∙ c.laws.invariant.0,
    (
      (omega arith, omega arith),
      λ d h n names lawful within occurring seen. c.laws.invariant.1.1 d h n names lawful within occurring seen
          ∙ settled_leaves d h c.args.j names d.laws c.laws.l (settings_of c.laws.m c.laws.settings) (run_law d _ n 0xA6 c.args.run c.laws.l lawful within c.laws-test.true)
          (sym (c.wanted.ensures d h (law_number d c.laws.l) names (run_says d _ n 0xA6 c.args.run c.laws.l lawful within c.laws-test.true) occurring seen)
          ∙ ap wants_of (read_fine c.laws.l c.in_ok-wants.ensures ∙ ap Ok w.in_default.is)) kept,
    ),
  )
]

pub returns-then-bad-run-clause-settled : goal.returns-then-bad-run-clause-settled
returns-then-bad-run-clause-settled c = elim c.laws-test.branch [
  | else-laws-test w ↦ absurd (omega arith)
  | then-laws-test+in_ok-wants+in-Some+then-loop-i-test+then-settings-i+then-settings-i-2 w ↦ λ d h n names lawful within occurring seen. sym (
      c.laws.invariant.1.1 d h n names lawful within occurring seen
      ∙ (settled_clash d h c.args.j names d.laws c.laws.l _ (run_law d _ n 0xA6 c.args.run c.laws.l lawful within w.laws-test.true)
      (sym (w.wanted.ensures d h (law_number d c.laws.l) names (run_says d _ n 0xA6 c.args.run c.laws.l lawful within w.laws-test.true) occurring seen)
      ∙ ap wants_of (read_fine c.laws.l w.in_ok-wants.ensures ∙ ap Ok w.in-Some.is))
      (w.loop-i.invariant.1 ∙ settings_clash (said w.in-Some.new) _ w.loop-i.i w.loop-i-test.true w.if-settings-i.true (other_bits (get_or c.laws.settings (w.loop-i.i - 1) no_setting).level w.in-Some.new.level w.if-settings-i-2.true))
      ∙ ap (fault 4) (sym w.bad-is)))
]

pub returns-clause-settled : goal.returns-clause-settled
returns-clause-settled c = elim c.laws-test.branch [
  | else-laws-test w ↦ λ d h n names lawful within occurring seen. sym (
      c.laws.invariant.1.1 d h n names lawful within occurring seen
      ∙ run_ends (λ k r. settled d h c.args.j names k (settings_of c.laws.m c.laws.settings) r) d c.args.held.now n 0xA6 c.args.run lawful within
      (λ k l r z q. settled_idle d h c.args.j names k _ l r (sets_none d h c.args.j names _ l z q)) c.laws.l w.laws-test.false (λ k. settled_none d h c.args.j names k _))
  | then-laws-test+in_ok-wants+in-Some+then-loop-i-test+then-settings-i+then-settings-i-2 w ↦ absurd (omega arith)
]

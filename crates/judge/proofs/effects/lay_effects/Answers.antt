use Prim.Native.Nat.{ℕ}
use mathlib.Core.Path.{◌≡◌, sym, ap, ◌∙◌, subst}
use mathlib.Core.List.{List, []}
use native.Mathlib.Omega.{arith}
use borrow.Author.Rules.{rules}
use Rattle.std.specs.Prelude.{Result, Err}
use Rattle.bmap.specs.Judge.{Setting, settled}
use Rattle.judge.specs.Landing.{Laid, Lays}
use Rattle.judge.specs.Told.{Occurring}
use Rattle.judge.specs.Settings.{settled_of}
use Rattle.judge.specs.declared.verdict.Breach.{Breach}
use Rattle.judge.proofs.SettingLaws.{settings_sliced}
use Rattle.judge.proofs.ReadingLaws.{settled_nobody}
use Rattle.judge.proofs.effects.lay_effects.Goals as goal

pub returns-then-entries-eq0 : goal.returns-then-entries-eq0
returns-then-entries-eq0 c = λ d h n names w old lawful within occurring seen few laid. record {
  settings = [];
  are = settled_nobody d h c.args.j names (subst (λ (m : ℕ). Occurring d names m) c.if-entries-eq0.true occurring) c.args.held.now n lawful;
  laid = laid;
}

pub returns-in_err-m : goal.returns-in_err-m
returns-in_err-m c = λ d h n names w old lawful within occurring seen few laid.
    let e : c.from_residual.result ≡ Err c.in_err-m.field-0.0 = search rules in
    subst (λ (r : Result (Unit {0}) Breach). Lays r w c.args.new.now (settled d h c.args.j names 0 [] d.laws) old) (sym e) (c.in_err-m.ensures.settled d h n names lawful within occurring seen)

pub returns : goal.returns
returns c = λ d h n names w old lawful within occurring seen few laid. record {
  settings = _;
  are = sym (ap (λ (t : Result ℕ Breach). settled_of t c.settle.new.settings) c.in_ok-m.was) ∙ c.settle.ensures.settled d h n names lawful within occurring seen;
  laid = subst (λ (l : List Setting). Laid w c.lay.new.new l old) (settings_sliced c.in_ok-m.m c.settle.new.settings (omega (arith, c.settle.array_long, c.in_ok-m.ensures.count))) (c.lay.ensures w old few laid);
}

use Prim.Native.Nat.{ℕ, ◌<◌}
use mathlib.Core.Path.{◌≡◌, sym, ap, ◌∙◌, subst}
use native.Mathlib.Omega.{arith}
use borrow.Author.Rules.{rules}
use lib.ListN.{length, length-set, get_or}
use lib.Signed.{mag}
use Rattle.number.proofs.BackLaws.{back32}
use Rattle.judge.specs.Settings.{no_setting, settings_of}
use Rattle.judge.specs.Landing.{Laid}
use Rattle.judge.proofs.LandingLaws.{laid_none, laid_more, laid_past}
use Rattle.judge.proofs.landing.lay.Goals as goal
use Rattle.judge.proofs.landing.lay.Goals.{then-f-lt-FLUENTS, else-f-lt-FLUENTS}

pub loop-setting-init : goal.loop-setting-init
loop-setting-init c = λ w old h laid. laid_none w c.args.new.now c.args.settings.now old laid

pub loop-setting-preserved : goal.loop-setting-preserved
loop-setting-preserved c = λ w old h laid. let so_far = c.loop-setting.invariant w old h laid in elim c.if-f-lt-FLUENTS.branch [
  | then-f-lt-FLUENTS b ↦
      let long : length c.loop-setting.new ≡ 32 = sym (length-set c.loop-setting.new _ _) ∙ (ap length (sym b.new-is) ∙ c.if-f-lt-FLUENTS.array_long) in
      let small : mag (get_or c.args.settings.now c.loop-setting.setting-index no_setting).level < 2147483648 = search rules in
      rw b.new-is (laid_more w c.loop-setting.setting-index c.loop-setting.new c.args.settings.now old so_far (omega arith) (back32 (get_or c.args.settings.now c.loop-setting.setting-index no_setting).level small))
  | else-f-lt-FLUENTS b ↦ rw b.new-is (laid_past w c.loop-setting.setting-index c.loop-setting.new c.args.settings.now old so_far (omega arith))
]

pub returns : goal.returns
returns c = let z : c.loop-setting.setting-index ≡ length c.args.settings.now = omega arith in λ w old h laid. subst (λ (n : ℕ). Laid w c.loop-setting.new (settings_of n c.args.settings.now) old) z (c.loop-setting.invariant w old h laid)

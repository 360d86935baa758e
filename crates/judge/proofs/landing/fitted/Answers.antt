use Prim.Native.Nat.{◌<◌}
use mathlib.Core.Path.{◌≡◌, ap, ◌∙◌}
use mathlib.Core.Bool.{true}
use lib.IntN.{ℤ}
use lib.Signed.{mag, le_z}
use mir.Syntax.{w16}
use mir.Val.{to_z, of_z}
use Rattle.std.specs.Prelude.{Some}
use Rattle.number.proofs.BackLaws.{back32, back16, widened16}
use Rattle.judge.proofs.LandingLaws.{between, fit_in, fit_above, fit_below}
use Rattle.judge.proofs.landing.fitted.Goals as goal
use Rattle.judge.proofs.landing.fitted.Goals.{else-from-v-via-then-from-v+else-v-from, else-from-v-via-else-from-v}

pub returns-then-v-from : goal.returns-then-v-from
returns-then-v-from c =
    let low : le_z c.args.lowest c.args.v ≡ true = simp (c.from.ensures, widened16 c.args.lowest c.ranges.lowest.sfits, back32 c.args.v c.ranges.v.sfits) at c.if-from-v.true in
    let high : le_z c.args.v c.args.highest ≡ true = simp (c.from-then-from-v.ensures, widened16 c.args.highest c.ranges.highest.sfits, back32 c.args.v c.ranges.v.sfits) at c.if-v-from.true in
    let small : mag c.args.v < 32768 = between c.args.lowest c.args.v c.args.highest c.ranges.lowest.sfits c.ranges.highest.sfits low high in
    ap Some (ap (λ (y : ℤ). to_z w16 (of_z w16 y)) (back32 c.args.v c.ranges.v.sfits) ∙ back16 c.args.v small) ∙ fit_in c.args.lowest c.args.v c.args.highest low high

pub returns : goal.returns
returns c = elim c.else-from-v.branch [
  | else-from-v-via-then-from-v+else-v-from w ↦ fit_above c.args.lowest c.args.v c.args.highest
      (simp (c.from.ensures, widened16 c.args.lowest c.ranges.lowest.sfits, back32 c.args.v c.ranges.v.sfits) at w.if-from-v.true)
      (simp (w.from-then-from-v.ensures, widened16 c.args.highest c.ranges.highest.sfits, back32 c.args.v c.ranges.v.sfits) at w.if-v-from.false)
  | else-from-v-via-else-from-v w ↦ fit_below c.args.lowest c.args.v c.args.highest (simp (c.from.ensures, widened16 c.args.lowest c.ranges.lowest.sfits, back32 c.args.v c.ranges.v.sfits) at w.if-from-v.false)
]

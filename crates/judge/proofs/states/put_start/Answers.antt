use Prim.Native.Nat.{ℕ}
use mathlib.Core.Path.{◌≡◌, refl, ◌∙◌, subst}
use Rattle.judge.specs.States.{starts_of}
use native.Mathlib.Omega.{arith}
use borrow.Author.Rules.{rules}
use lib.ListN.{length, length-set, get_or, take}
use lib.Seq.{drop-set-lt}
use Rattle.index.specs.Index.{no_fluent}
use Rattle.number.proofs.BackLaws.{back16}
use Rattle.judge.proofs.StateLaws.{starts_none, starts_more}
use Rattle.judge.proofs.states.put_start.Goals as goal

pub loop-f-init : goal.loop-f-init
loop-f-init c = (c.told-history, (starts_none c.args.fluents.now c.args.history.now, refl))

pub loop-f-preserved : goal.loop-f-preserved
loop-f-preserved c = (
  simp length-set c.loop-f.invariant.0,
  (
    starts_more c.args.fluents.now c.loop-f.f c.loop-f.history (omega (arith, c.loop-f.invariant.0)) c.loop-f.invariant.1.0 (back16 (get_or c.args.fluents.now c.loop-f.f no_fluent).start (search rules)),
    drop-set-lt (length c.args.fluents.now) c.loop-f.history c.loop-f.f _ c.loop-f-test.true ∙ c.loop-f.invariant.1.1,
  ),
)

pub returns : goal.returns
returns c = let z : c.loop-f.f ≡ length c.args.fluents.now = omega arith in record { state = subst (λ (f : ℕ). take f c.loop-f.history ≡ starts_of c.args.fluents.now f) z c.loop-f.invariant.1.0; rest = c.loop-f.invariant.1.1 }

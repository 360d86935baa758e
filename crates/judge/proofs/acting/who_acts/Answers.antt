use Prim.Native.Nat.{ℕ, ◌-◌}
use mathlib.Core.Path.{◌≡◌, ap, ◌∙◌}
use mathlib.Core.Bool.{Bool}
use native.Mathlib.Omega.{arith}
use lib.ListN.{length}
use Rattle.judge.specs.Masks.{joins_at, crew_at, mask_from}
use Rattle.judge.proofs.MaskLaws.{mask_none, mask_more, mask_whole, mask_small, union_none, union_more, union_whole}
use Rattle.judge.proofs.acting.who_acts.Goals as goal

pub loop-i-init : goal.loop-i-init
loop-i-init c = (mask_none _ _, union_none _ _ _)

pub pushed-occurring-requires : goal.pushed-occurring-requires
pushed-occurring-requires c = mask_small _ _ _ 63 (omega arith) c.loop-i.invariant.0

pub loop-i-preserved : goal.loop-i-preserved
loop-i-preserved c =
    let test : ℕ → Bool = joins_at c.args.names.now c.args.entries.now in
    let occurs : c.all_name-occurs.result ≡ joins_at c.args.names.now c.args.entries.now (c.loop-i.i - 1) = c.all_name-occurs.ensures c.args.names.now c.all_others-others.ensures in (
      c.pushed-occurring.ensures ∙ mask_more test (length c.args.entries.now) c.loop-i.i c.loop-i-test.true c.loop-i.auto.i c.loop-i.invariant.0 occurs,
      c.taken_in-agents.ensures ∙ union_more test (crew_at c.args.entries.now) (length c.args.entries.now) c.loop-i.i c.loop-i-test.true c.loop-i.auto.i c.loop-i.invariant.1 occurs,
    )

pub returns : goal.returns
returns c = ap (λ (e : ℕ). record { entries = e; agents = c.loop-i.agents }) (mask_whole _ (length c.args.entries.now) c.loop-i.i c.loop-i-test.false c.loop-i.invariant.0) ∙ ap (λ (a : ℕ). record { entries = mask_from (joins_at c.args.names.now c.args.entries.now) 0 (length c.args.entries.now); agents = a }) (union_whole _ _ (length c.args.entries.now) c.loop-i.i c.loop-i-test.false c.loop-i.invariant.1)

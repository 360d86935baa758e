use Prim.Native.Nat.{ℕ}
use mathlib.Core.Path.{◌≡◌, ap, ◌∙◌}
use Rattle.bmap.specs.Limits.{most_payload}
use mathlib.Core.List.{List}
use native.Mathlib.Omega.{arith}
use borrow.Author.Rules.{rules}
use lib.ListN.{get_or, take}
use Rattle.supplement.specs.Force.{payload_of}
use Rattle.judge.proofs.HeldLaws.{handed_out, cut_short, room_for_law, hold_more}
use Rattle.judge.proofs.held.hold_laws.Goals as goal

pub hold-requires : goal.hold-requires
hold-requires c =
    omega (arith, room_for_law _ _ _ _ c.loop-i.held c.loop-i.i c.loop-i.invariant.1 (omega arith) c.loop-i.invariant.0 ((let its_payload : (c.part.result.now ≡ take most_payload (payload_of c.args.store.now c.args.laws.now c.args.supplement.now c.args.over.now c.loop-i.i)) = cut_short _ c.payload_at-payload.result c.part.result (handed_out c.args.store c.args.laws.now c.args.supplement c.args.over.now c.loop-i.i c.payload_at-payload.result c.payload_at-payload.ensures) c.part.ensures in its_payload)))

pub loop-i-preserved : goal.loop-i-preserved
loop-i-preserved c = (
  search rules,
  hold_more _ _ _ _ c.loop-i.held c.loop-i.i c.loop-i.invariant.1 (omega arith) c.loop-i.invariant.0 ((let its_payload : (c.part.result.now ≡ take most_payload (payload_of c.args.store.now c.args.laws.now c.args.supplement.now c.args.over.now c.loop-i.i)) = cut_short _ c.payload_at-payload.result c.part.result (handed_out c.args.store c.args.laws.now c.args.supplement c.args.over.now c.loop-i.i c.payload_at-payload.result c.payload_at-payload.ensures) c.part.ensures in its_payload))
      (c.byte_at-kind.ensures ∙ ap (λ (f : List ℕ). get_or f 0 0) c.law_at.ensures.contents) c.hold.ensures,
)

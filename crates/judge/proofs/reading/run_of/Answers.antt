use Prim.Native.Nat.{ℕ, ◌*◌}
use mathlib.Core.Path.{◌≡◌, sym, ◌∙◌, subst}
use native.Mathlib.Omega.{arith}
use lib.ListN.{get_or}
use Rattle.bmap.specs.Limits.{frame_size}
use Rattle.judge.specs.Told.{Spans, frame_of}
use Rattle.judge.proofs.CheckLaws.{front}
use Rattle.judge.proofs.OwnLaws.{spans_with, spans_past}
use Rattle.judge.proofs.reading.run_of.Goals as goal
use Rattle.judge.proofs.reading.run_of.Goals.{then-held-l, else-held-l}

pub loop-l-preserved : goal.loop-l-preserved
loop-l-preserved c = elim c.if-held-l.branch [
  | then-held-l w ↦ rw (w.run-is, w.with-run.ensures) (spans_with _ _ _ _ c.loop-l.invariant)
  | else-held-l w ↦ rw w.run-is (spans_past _ _ _ _ c.loop-l.invariant (λ e. w.if-held-l.false (sym (front c.args.held.now (frame_size * c.loop-l.l)) ∙ e)))
]

pub returns : goal.returns
returns c = let z : c.loop-l.l ≡ c.args.n = omega arith in subst (λ (k : ℕ). Spans (λ i. get_or (frame_of c.args.held.now i) 0 0 ≡ c.args.kind) c.args.n k c.loop-l.run) z c.loop-l.invariant

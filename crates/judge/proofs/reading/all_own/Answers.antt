use Prim.Native.Nat.{ℕ}
use mathlib.Core.Path.{◌≡◌, refl, sym, ◌∙◌, subst}
use native.Mathlib.Omega.{arith}
use lib.ListN.{length, length-set}
use Rattle.std.specs.Prelude.{Option, Some, None}
use Rattle.judge.proofs.OwnLaws.{OwnsSoFar, owns_none, owns_with, owns_past}
use Rattle.judge.proofs.reading.all_own.Goals as goal
use Rattle.judge.proofs.reading.all_own.Goals.{in-Some+then-e-lt-ENTRIES, in-Some+else-e-lt-ENTRIES, in_default}

pub loop-l-init : goal.loop-l-init
loop-l-init c = (refl, owns_none c.args.owners.now (length c.args.owners.now) c.none-own.ensures)

pub loop-l-preserved : goal.loop-l-preserved
loop-l-preserved c =
    elim c.match-owners-l.branch [
      | in-Some+then-e-lt-ENTRIES w ↦ rw w.own-is (simp length-set c.loop-l.invariant.0, owns_with c.args.owners.now (length c.args.owners.now) c.loop-l.l c.loop-l.own c.loop-l.invariant.1 w.in-Some.owner w.in-Some.is c.loop-l.invariant.0 w.if-e-lt-ENTRIES.true w.with.ensures)
      | in-Some+else-e-lt-ENTRIES w ↦ rw w.own-is (c.loop-l.invariant.0, owns_past c.args.owners.now (length c.args.owners.now) c.loop-l.l c.loop-l.own c.loop-l.invariant.1 (λ i h e. let z : ◌≡◌ {A = Option ℕ} (Some w.in-Some.owner) (Some i) = sym w.in-Some.is ∙ e in let y : w.in-Some.owner ≡ i = cc in omega arith))
      | in_default w ↦ rw w.own-is (c.loop-l.invariant.0, owns_past c.args.owners.now (length c.args.owners.now) c.loop-l.l c.loop-l.own c.loop-l.invariant.1 (λ i h e. let z : ◌≡◌ {A = Option ℕ} None (Some i) = sym w.in_default.is ∙ e in cc))
    ]

pub returns : goal.returns
returns c = let z : c.loop-l.l ≡ length c.args.owners.now = omega arith in subst (λ (k : ℕ). OwnsSoFar c.args.owners.now (length c.args.owners.now) k c.loop-l.own) z c.loop-l.invariant.1

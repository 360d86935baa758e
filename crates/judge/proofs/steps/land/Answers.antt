use Prim.Native.Nat.{◌+◌}
use mathlib.Core.Path.{◌≡◌, refl, sym, ap, subst, ◌∙◌}
use mathlib.Core.List.{[]}
use native.Mathlib.Omega.{arith}
use Rattle.bmap.specs.Domain.{static}
use Rattle.bmap.specs.Judge.{history, settled}
use Rattle.judge.specs.States.{state_at, states_of, leaving}
use Rattle.judge.specs.Landing.{Lays, LaidOver}
use Rattle.std.specs.Prelude.{Ok, Err}
use borrow.Author.Rules.{rules}
use lib.ListN.{length}
use Rattle.judge.proofs.StateLaws.{states_at, states_more}
use Rattle.judge.proofs.LandingLaws.{range_count, ranged_first}
use Rattle.judge.proofs.StepLaws.{Check, seen_all, seen_states, landed_clash, landed_fault, landed_fine, laid_again}
use Rattle.judge.proofs.steps.land.Goals as goal

pub returns-in_err-lay_effects : goal.returns-in_err-lay_effects
returns-in_err-lay_effects c = record {
  kept = record { before = refl; after = refl };
  landed = λ d n sheet names p occurring acted laid.
      let laying : Lays c.lay_effects.result c.args.plan.now.counts.fluents c.lay_effects.new.new (settled d (history d sheet (states_of c.args.plan.now.counts.fluents (c.args.step.j + 1) c.args.history.now)) c.args.step.j names 0 [] d.laws) (state_at c.args.plan.now.counts.fluents c.args.history.now c.args.step.j) =
      c.lay_effects.ensures d (history d sheet (states_of c.args.plan.now.counts.fluents (c.args.step.j + 1) c.args.history.now)) n names c.args.plan.now.counts.fluents (state_at c.args.plan.now.counts.fluents c.args.history.now c.args.step.j) p.lawful p.ordered.effect occurring
      (seen_all d sheet c.args.plan.now.counts.fluents c.args.history.now c.args.step.j (omega (arith, c.requires.step)) (range_count d c.args.plan.now.fluents c.args.plan.now.counts.fluents p.ranged) acted) c.requires.limits.fluents laid in
      let e : c.from_residual.result ≡ Err c.in_err-lay_effects.field-0.0 = search rules in
      record {
        leaves = ap (λ (t : Check). leaving t (state_at c.args.plan.now.counts.fluents c.args.history.now (c.args.step.j + 1))) e ∙ landed_clash d sheet (states_of c.args.plan.now.counts.fluents (c.args.step.j + 1) c.args.history.now) c.args.step.j names (subst (λ (t : Check). Lays t c.args.plan.now.counts.fluents c.lay_effects.new.new (settled d (history d sheet (states_of c.args.plan.now.counts.fluents (c.args.step.j + 1) c.args.history.now)) c.args.step.j names 0 [] d.laws) (state_at c.args.plan.now.counts.fluents c.args.history.now c.args.step.j)) c.in_err-lay_effects.was laying);
        levels = λ q. absurd (let y : ◌≡◌ {A = Check} (Err c.in_err-lay_effects.field-0.0) (Ok tt) = sym e ∙ q in cc);
      };
}

pub returns-in_err-put_state : goal.returns-in_err-put_state
returns-in_err-put_state c = record {
  kept = c.put_state.ensures.kept;
  landed = λ d n sheet names p occurring acted laid.
      let laying : Lays c.lay_effects.result c.args.plan.now.counts.fluents c.lay_effects.new.new (settled d (history d sheet (states_of c.args.plan.now.counts.fluents (c.args.step.j + 1) c.args.history.now)) c.args.step.j names 0 [] d.laws) (state_at c.args.plan.now.counts.fluents c.args.history.now c.args.step.j) =
      c.lay_effects.ensures d (history d sheet (states_of c.args.plan.now.counts.fluents (c.args.step.j + 1) c.args.history.now)) n names c.args.plan.now.counts.fluents (state_at c.args.plan.now.counts.fluents c.args.history.now c.args.step.j) p.lawful p.ordered.effect occurring
      (seen_all d sheet c.args.plan.now.counts.fluents c.args.history.now c.args.step.j (omega (arith, c.requires.step)) (range_count d c.args.plan.now.fluents c.args.plan.now.counts.fluents p.ranged) acted) c.requires.limits.fluents laid in
      let l : LaidOver c.args.plan.now.counts.fluents c.lay_effects.new.new (settled d (history d sheet (states_of c.args.plan.now.counts.fluents (c.args.step.j + 1) c.args.history.now)) c.args.step.j names 0 [] d.laws) (state_at c.args.plan.now.counts.fluents c.args.history.now c.args.step.j) = subst (λ (t : Check). Lays t c.args.plan.now.counts.fluents c.lay_effects.new.new (settled d (history d sheet (states_of c.args.plan.now.counts.fluents (c.args.step.j + 1) c.args.history.now)) c.args.step.j names 0 [] d.laws) (state_at c.args.plan.now.counts.fluents c.args.history.now c.args.step.j)) c.in_ok-lay_effects.was laying in
      let e : c.from_residual-in_err-put_state.result ≡ Err c.in_err-put_state.field-0.0 = search rules in
      record {
        leaves = ap (λ (t : Check). leaving t (state_at c.args.plan.now.counts.fluents c.put_state.new.history (c.args.step.j + 1))) e ∙ landed_fault d sheet (states_of c.args.plan.now.counts.fluents (c.args.step.j + 1) c.args.history.now) c.args.step.j names l.settings (state_at c.args.plan.now.counts.fluents c.args.history.now c.args.step.j) l.are (states_at c.args.plan.now.counts.fluents (c.args.step.j + 1) c.args.step.j c.args.history.now (omega arith))
            c.put_state.result _ (ranged_first d l.settings c.args.plan.now.fluents c.args.plan.now.counts.fluents (let long : length c.args.plan.now.fluents ≡ 32 = search rules in omega (arith, c.requires.limits.fluents)) p.ranged c.lay_effects.new.new c.args.history.now c.put_state.new.history c.args.step.j c.put_state.result (c.put_state.ensures.ranged d l.settings) l.laid) c.in_err-put_state.was;
        levels = λ q. absurd (let y : ◌≡◌ {A = Check} (Err c.in_err-put_state.field-0.0) (Ok tt) = sym e ∙ q in cc);
      };
}

pub returns : goal.returns
returns c = record {
  kept = c.put_state.ensures.kept;
  landed = λ d n sheet names p occurring acted laid.
      let laying : Lays c.lay_effects.result c.args.plan.now.counts.fluents c.lay_effects.new.new (settled d (history d sheet (states_of c.args.plan.now.counts.fluents (c.args.step.j + 1) c.args.history.now)) c.args.step.j names 0 [] d.laws) (state_at c.args.plan.now.counts.fluents c.args.history.now c.args.step.j) =
      c.lay_effects.ensures d (history d sheet (states_of c.args.plan.now.counts.fluents (c.args.step.j + 1) c.args.history.now)) n names c.args.plan.now.counts.fluents (state_at c.args.plan.now.counts.fluents c.args.history.now c.args.step.j) p.lawful p.ordered.effect occurring
      (seen_all d sheet c.args.plan.now.counts.fluents c.args.history.now c.args.step.j (omega (arith, c.requires.step)) (range_count d c.args.plan.now.fluents c.args.plan.now.counts.fluents p.ranged) acted) c.requires.limits.fluents laid in
      let l : LaidOver c.args.plan.now.counts.fluents c.lay_effects.new.new (settled d (history d sheet (states_of c.args.plan.now.counts.fluents (c.args.step.j + 1) c.args.history.now)) c.args.step.j names 0 [] d.laws) (state_at c.args.plan.now.counts.fluents c.args.history.now c.args.step.j) = subst (λ (t : Check). Lays t c.args.plan.now.counts.fluents c.lay_effects.new.new (settled d (history d sheet (states_of c.args.plan.now.counts.fluents (c.args.step.j + 1) c.args.history.now)) c.args.step.j names 0 [] d.laws) (state_at c.args.plan.now.counts.fluents c.args.history.now c.args.step.j)) c.in_ok-lay_effects.was laying in
      let put = ranged_first d l.settings c.args.plan.now.fluents c.args.plan.now.counts.fluents (let long : length c.args.plan.now.fluents ≡ 32 = search rules in omega (arith, c.requires.limits.fluents)) p.ranged c.lay_effects.new.new c.args.history.now c.put_state.new.history c.args.step.j c.put_state.result (c.put_state.ensures.ranged d l.settings) l.laid in
      record {
        leaves = landed_fine d sheet (states_of c.args.plan.now.counts.fluents (c.args.step.j + 1) c.args.history.now) c.args.step.j names l.settings (state_at c.args.plan.now.counts.fluents c.args.history.now c.args.step.j) l.are (states_at c.args.plan.now.counts.fluents (c.args.step.j + 1) c.args.step.j c.args.history.now (omega arith))
            c.put_state.result c.check_in_step.result (state_at c.args.plan.now.counts.fluents c.put_state.new.history (c.args.step.j + 1)) (states_of c.args.plan.now.counts.fluents (c.args.step.j + 1 + 1) c.put_state.new.history) put c.in_ok-put_state.was
            (states_more c.args.plan.now.counts.fluents c.args.step.j c.args.history.now c.put_state.new.history c.put_state.ensures.kept.before c.requires.limits.fluents)
            (c.check_in_step.ensures d (history d sheet (states_of c.args.plan.now.counts.fluents (c.args.step.j + 1 + 1) c.put_state.new.history)) static n refl p.lawful p.ordered.fixed (seen_states d sheet c.args.plan.now.counts.fluents c.put_state.new.history (c.args.step.j + 1) (omega (arith, c.requires.step)) (range_count d c.args.plan.now.fluents c.args.plan.now.counts.fluents p.ranged)));
        levels = λ e. laid_again d l.settings (state_at c.args.plan.now.counts.fluents c.args.history.now c.args.step.j) c.args.plan.now.fluents c.args.plan.now.counts.fluents p.ranged c.put_state.result (state_at c.args.plan.now.counts.fluents c.put_state.new.history (c.args.step.j + 1)) c.lay_effects.new.new put c.in_ok-put_state.was l.laid;
      };
}

use Prim.Native.Nat.{ℕ, ◌^◌, ◌<◌}
use mathlib.Core.Path.{sym, ap, subst}
use native.Mathlib.Omega.{arith}
use lib.ListN.{length}
use Rattle.judge.specs.declared.acting.Occurs.{Occurs}
use Rattle.judge.proofs.RunLaws.{entries_count, occurring_is, belonging_is}
use Rattle.judge.proofs.MaskLaws.{mask_small}
use Rattle.judge.proofs.acting.acting_in.Goals as goal

pub returns : goal.returns
returns c = λ d entered long last. record {
  occurring = occurring_is d c.args.names.now c.args.entries.now (length c.args.entries.now) entered long (ap (λ (o : Occurs). o.entries) c.who_acts-occurs.ensures);
  few = subst (λ (k : ℕ). c.who_acts-occurs.result.entries < 2 ^ k) (sym (entries_count d c.args.names.now c.args.entries.now (length c.args.entries.now) entered long)) (mask_small _ 0 (length c.args.entries.now) (length c.args.entries.now) (omega arith) (ap (λ (o : Occurs). o.entries) c.who_acts-occurs.ensures));
  agents = c.check_agents.ensures d (belonging_is d c.args.names.now c.args.entries.now (length c.args.entries.now) entered long (ap (λ (o : Occurs). o.agents) c.who_acts-occurs.ensures));
}

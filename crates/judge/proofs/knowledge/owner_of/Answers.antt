use Prim.Native.Nat.{ℕ}
use mathlib.Core.Path.{sym, ap, ◌∙◌}
use mathlib.Core.Bool.{true, false}
use lib.ListN.{length, drop}
use Rattle.judge.specs.Masks.{mask_from}
use Rattle.judge.proofs.CheckLaws.{front}
use Rattle.judge.proofs.KnowledgeLaws.{shared, owner_other, owner_held}
use Rattle.judge.proofs.knowledge.owner_of.Goals as goal

pub returns-then-held-at : goal.returns-then-held-at
returns-then-held-at c = λ d l says knowing. owner_other d (drop c.args.at c.args.held.now) l says (λ e. c.if-held-at.true (sym (front c.args.held.now c.args.at) ∙ e))

pub returns-then-names_only : goal.returns-then-names_only
returns-then-names_only c = λ d l says knowing. owner_held d c.args.held.now c.args.at c.args.table.now c.args.entries.now c.args.agents l says c.if-held-at.false knowing
    (c.known_to.ensures ∙ ap (λ (m : ℕ). mask_from (shared m c.args.table.now) 0 (length c.args.table.now)) c.crew_of.ensures) c.part-frame.ensures.contents c.names_only.ensures true c.if-names_only.true

pub returns : goal.returns
returns c = λ d l says knowing. owner_held d c.args.held.now c.args.at c.args.table.now c.args.entries.now c.args.agents l says c.if-held-at.false knowing
    (c.known_to.ensures ∙ ap (λ (m : ℕ). mask_from (shared m c.args.table.now) 0 (length c.args.table.now)) c.crew_of.ensures) c.part-frame.ensures.contents c.names_only.ensures false c.if-names_only.false

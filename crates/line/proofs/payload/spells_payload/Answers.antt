use mathlib.Core.Path.{sym}
use lib.ListN.{length}
use native.Mathlib.Omega.{arith}
use borrow.Author.Tests.{eqb-true, eqb-false}
use Rattle.bmap.specs.Line.{hex}
use Rattle.line.proofs.PayloadLaws.{no_payload, no_head, a_head, payload_if}
use Rattle.line.proofs.payload.spells_payload.Goals as goal

pub returns-then-count-gt-PAYLOAD : goal.returns-then-count-gt-PAYLOAD
returns-then-count-gt-PAYLOAD c = no_payload _ _ _ (λ q. omega (arith, q.most))

pub returns-then-not-feed_at : goal.returns-then-not-feed_at
returns-then-not-feed_at c = no_payload _ _ _ (λ q. eqb-false _ _ (sym c.if-not-feed_at.ensures) q.feed)

pub returns-then-not-starts_with : goal.returns-then-not-starts_with
unfolding hex
returns-then-not-starts_with c = no_payload _ _ _ (no_head _ _ (omega arith) (omega arith) _ c.put_bytes.new.out c.put_bytes.ensures c.if-not-starts_with.ensures.value)

pub returns : goal.returns
unfolding hex
returns c =
    let head = a_head c.args.kind (length c.args.out.now) (omega arith) (omega arith) c.args.text.now c.put_bytes.new.out c.put_bytes.ensures c.if-not-starts_with.ensures.value in
    payload_if c.args.text.now c.spell_all.new.out c.args.kind (length c.args.out.now) c.spell_all.result (omega arith) c.spell_all.auto.out
    (λ w. record { most = omega arith; feed = eqb-true _ _ (sym c.if-not-feed_at.ensures); first = head.0; second = head.1; pairs = w })
    c.spell_all.ensures

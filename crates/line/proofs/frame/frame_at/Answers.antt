use native.Mathlib.Omega.{arith}
use Rattle.line.proofs.FrameLaws.{no_head, no_kind, long_count, no_payload, frame_stands}
use Rattle.line.proofs.frame.frame_at.Goals as goal

pub returns-then-at-store : goal.returns-then-at-store
returns-then-at-store c = no_head c.args.store.now c.args.at (omega arith)

pub returns-then-left-lt2 : goal.returns-then-left-lt2
returns-then-left-lt2 c = no_head c.args.store.now c.args.at (omega arith)

pub returns-then-store-at-eq0 : goal.returns-then-store-at-eq0
returns-then-store-at-eq0 c = no_kind c.args.store.now c.args.at c.if-store-at-eq0.true

pub returns-then-count-gt-PAYLOAD : goal.returns-then-count-gt-PAYLOAD
returns-then-count-gt-PAYLOAD c = long_count c.args.store.now c.args.at (omega arith)

pub returns-then-count-left : goal.returns-then-count-left
returns-then-count-left c = no_payload c.args.store.now c.args.at (omega arith)

pub returns : goal.returns
returns c =
    frame_stands c.args.store.now c.args.at c.if-store-at-eq0.false (omega arith) (omega arith)

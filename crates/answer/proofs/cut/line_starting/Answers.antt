use Rattle.std.proofs.Common.{◌≡◌, ◌-◌, length, take, drop, sym, arith, rules, tests}
use Rattle.std.specs.Prelude.{position}
use Rattle.std.proofs.lemmas.Iterator.{YieldsList-from_slice}
use Rattle.std.proofs.lemmas.Iterator.Search.{position_from_yields_List}
use Rattle.answer.proofs.CutLaws.{nothing_before, starts_at, is_feed, feed_found, feed_none, cut_here, open_end, next_line, cut_end}
use Rattle.answer.proofs.cut.line_starting.Goals as goal

pub loop-at-init : goal.loop-at-init
loop-at-init c = (omega arith, nothing_before _ _ c.requires)

pub returns-then-starts_with : goal.returns-then-starts_with
returns-then-starts_with c = cut_here c.loop-at.invariant.1 c.loop-at-test.true (starts_at c.args.input.now c.args.word.now c.loop-at.at c.starts_with.ensures.value c.if-starts_with.true)

pub returns-in_default : goal.returns-in_default
returns-in_default c =
    let found : position is_feed (take (length c.args.input.now - c.loop-at.at) (drop c.loop-at.at c.args.input.now)) ≡ c.position.result
    = sym (position_from_yields_List is_feed _ _ c.position.result c.position.ensures.ran (YieldsList-from_slice (take (length c.args.input.now - c.loop-at.at) (drop c.loop-at.at c.args.input.now)) c.iter.ensures.rest) (λ x b q k. search (rules, tests))) in
    open_end c.loop-at.invariant.1 c.loop-at-test.true (starts_at c.args.input.now c.args.word.now c.loop-at.at c.starts_with.ensures.value c.if-starts_with.false) (feed_none c.args.input.now c.loop-at.at found c.in_default.is (omega arith))

pub loop-at-preserved : goal.loop-at-preserved
loop-at-preserved c =
    let found : position is_feed (take (length c.args.input.now - c.loop-at.at) (drop c.loop-at.at c.args.input.now)) ≡ c.position.result
    = sym (position_from_yields_List is_feed _ _ c.position.result c.position.ensures.ran (YieldsList-from_slice (take (length c.args.input.now - c.loop-at.at) (drop c.loop-at.at c.args.input.now)) c.iter.ensures.rest) (λ x b q k. search (rules, tests))) in
    let feed = feed_found c.args.input.now c.loop-at.at found c.in-Some.is in
    (omega arith, rw (feed.0) (next_line c.loop-at.invariant.1 c.loop-at-test.true (starts_at c.args.input.now c.args.word.now c.loop-at.at c.starts_with.ensures.value c.if-starts_with.false) (omega (arith, feed))))

pub returns : goal.returns
returns c = cut_end c.loop-at.invariant.1 c.loop-at-test.false

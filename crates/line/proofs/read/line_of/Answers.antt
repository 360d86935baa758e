use Prim.Native.Nat.{ℕ, ◌-◌, ◌≤◌, ◌+◌, ◌*◌}
use mathlib.Core.Path.{◌≡◌, sym, ap, ◌∙◌}
use mathlib.Core.Option.{some}
use mathlib.Core.List.{List}
use lib.ListN.{length, take, drop, length-drop}
use native.Mathlib.Omega.{arith}
use borrow.Author.Tests.{eqb-true, eqb-false}
use Rattle.bmap.specs.Limits.{frame_size}
use Rattle.line.specs.Read.{spelt}
use Rattle.line.specs.Write.{answer_of}
use Rattle.line.proofs.Lists.{part_to_end}
use Rattle.line.proofs.Digits.{spelt_most, spelt_half}
use Rattle.line.proofs.FirstLaws.{line_ends, line_stops, line_too_long, line_stops_late}
use Rattle.line.proofs.read.line_of.Goals as goal

-- the pairs counted lie within the text
half : (s : List ℕ) (n k : ℕ) → n ≡ length (spelt frame_size s) → k ≡ length (spelt (length (take (length s - 2 * n) (drop (2 * n) s))) (take (length s - 2 * n) (drop (2 * n) s)))
    → (2 * n ≤ length s) × (2 * n + 2 * k ≤ length s) × (k ≡ length (spelt (length (drop (2 * n) s)) (drop (2 * n) s)))
half s n k p q =
    let t = drop (2 * n) s in
    let w : 2 * n ≤ length s = omega (arith, spelt_half frame_size s) in
    let e : k ≡ length (spelt (length t) t) = rw (part_to_end s (2 * n)) at q in
    (w, omega (arith, spelt_half (length t) t, length-drop (2 * n) s), e)

pub overflow_mul-end : goal.overflow_mul-end
overflow_mul-end c = omega (arith, c.requires.pairs, spelt_half frame_size c.args.text.now)

pub frame_of-requires : goal.frame_of-requires
frame_of-requires c = omega (arith, c.requires.pairs, spelt_most frame_size c.args.text.now)

pub returns-then-feed_at : goal.returns-then-feed_at
returns-then-feed_at c =
    ap (λ y. some (answer_of y)) c.frame_of.ensures ∙ line_ends c.args.text.now c.args.n c.args.count c.requires (eqb-true _ _ (sym c.if-feed_at.ensures))

pub returns-then-n-lt-FRAME : goal.returns-then-n-lt-FRAME
returns-then-n-lt-FRAME c =
    line_stops c.args.text.now c.args.n c.args.count c.requires (eqb-false _ _ (sym c.if-feed_at.ensures)) c.if-n-lt-FRAME.true

pub slice_bounds-pairs-count : goal.slice_bounds-pairs-count
slice_bounds-pairs-count c = omega (arith, c.requires.pairs, spelt_half frame_size c.args.text.now)

pub slice_bounds-pairs-start : goal.slice_bounds-pairs-start
slice_bounds-pairs-start c = omega (arith, c.requires.pairs, spelt_half frame_size c.args.text.now)

pub overflow_mul-more : goal.overflow_mul-more
overflow_mul-more c = omega (arith, (half c.args.text.now c.args.n c.pairs-more.result c.requires.pairs c.pairs-more.ensures).1)

pub overflow_add-end : goal.overflow_add-end
overflow_add-end c = omega (arith, (half c.args.text.now c.args.n c.pairs-more.result c.requires.pairs c.pairs-more.ensures).0, (half c.args.text.now c.args.n c.pairs-more.result c.requires.pairs c.pairs-more.ensures).1)

pub returns-then-feed_at-2 : goal.returns-then-feed_at-2
returns-then-feed_at-2 c =
    line_too_long c.args.text.now c.args.n c.args.count c.pairs-more.result c.requires (omega arith)
    (eqb-false _ _ (sym c.if-feed_at.ensures)) (half c.args.text.now c.args.n c.pairs-more.result c.requires.pairs c.pairs-more.ensures).2
    (eqb-true _ _ (sym c.if-feed_at-2.ensures))

pub returns : goal.returns
returns c =
    line_stops_late c.args.text.now c.args.n c.args.count c.pairs-more.result c.requires (omega arith)
    (eqb-false _ _ (sym c.if-feed_at.ensures)) (half c.args.text.now c.args.n c.pairs-more.result c.requires.pairs c.pairs-more.ensures).2
    (eqb-false _ _ (sym c.if-feed_at-2.ensures))

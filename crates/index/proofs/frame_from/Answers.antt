use Rattle.std.proofs.Common.{◌≡◌, ◌+◌, ◌∙◌, ap, get_or, take, drop, min, arith}
use Rattle.index.proofs.PartLaws.{with_bytes, frame_counted}
use Rattle.index.proofs.frame_from.Goals as goal

pub returns : goal.returns
returns c =
    let s = c.args.store.now in
    let count : c.byte_at-count.result ≡ get_or s (min (c.args.at + 1) 18446744073709551615) 0 = c.byte_at-count.ensures ∙ ap (λ n. get_or s n 0) c.saturating_add.ensures in
    with_bytes (ap (λ n. take (n + 2) (drop c.args.at s)) count ∙ frame_counted s c.args.at _ (omega (arith, c.well_formed))) c.part.ensures

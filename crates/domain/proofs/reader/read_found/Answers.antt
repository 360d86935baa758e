use Rattle.std.proofs.Common.{◌≡◌, length, take, ap, rules, ◌∙◌}
use Rattle.bmap.specs.Buffer.{padded}
use Rattle.bmap.specs.Store.{read_domain}
use Rattle.domain.specs.Read.{kept_of, found_after}
use Rattle.domain.proofs.ReaderLaws.{read_short, read_ends}
use Rattle.domain.proofs.RoundTrip.{found_after_lem}
use Rattle.domain.proofs.reader.read_found.Goals as goal

pub returns-then-store-lt-STORE : goal.returns-then-store-lt-STORE
returns-then-store-lt-STORE c =
    let short = read_short c.args.text.now c.args.store.now c.if-store-lt-STORE.true in
    record { answer = short.0; buffer = short.1; found = ap (λ r. found_after r (read_domain c.args.text.now c.args.store.now).buffer) short.0 }

pub returns : goal.returns
returns c =
    let r = c.read_lines-reading in
    let kept : c.map_or.result ≡ kept_of r.result = search rules in
    let ends = read_ends c.args.text.now c.args.store.now c.if-store-lt-STORE.false r.new.store r.auto.store r.result r.ensures c.zero_from.new.buffer (c.zero_from.ensures ∙ ap (λ n. padded (length r.new.store) (take n r.new.store)) kept) in
    record { answer = ends.0; buffer = ends.1; found = r.ensures.found ∙ found_after_lem c.args.text.now c.args.store.now c.if-store-lt-STORE.false }

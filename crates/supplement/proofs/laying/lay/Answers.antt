use mathlib.Core.Path.{sym, ap, ◌∙◌}
use Rattle.supplement.specs.declared.under.Under.{Under}
use Rattle.supplement.proofs.Accepted.{under_is}
use Rattle.supplement.proofs.LayLaws.{layers, layers_room, lay_10, lay_15_below, lay_15_above, lay_done}
use Rattle.supplement.proofs.laying.lay.Goals as goal

pub returns-then-res-lt-SUPPLEMENT : goal.returns-then-res-lt-SUPPLEMENT
returns-then-res-lt-SUPPLEMENT c =
    let t = lay_10 c.args.store.now c.args.lower.now c.args.upper.now c.args.res.now c.if-res-lt-SUPPLEMENT.true in record { answer = t.0; buffer = t.1 }

pub returns-then-not-below : goal.returns-then-not-below
returns-then-not-below c =
    let t = lay_15_below c.args.store.now c.args.lower.now c.args.upper.now c.args.res.now c.if-res-lt-SUPPLEMENT.false (sym (ap (λ (x : Under). x.ok) c.index_of-below.ensures) ∙ c.if-not-below.true) in
    record { answer = t.0; buffer = t.1 }

pub places_of-above-requires : goal.places_of-above-requires
places_of-above-requires c = (under_is _ _ _ c.index_of-below.ensures c.if-not-below.false).sound

pub returns-then-not-above : goal.returns-then-not-above
returns-then-not-above c =
    let t = lay_15_above c.args.store.now c.args.lower.now c.args.upper.now c.args.res.now c.if-res-lt-SUPPLEMENT.false _ _ (under_is _ _ _ c.index_of-below.ensures c.if-not-below.false) c.places_of-above.ensures c.if-not-above.true in
    record { answer = t.0; buffer = t.1 }

pub put_frames-used-requires : goal.put_frames-used-requires
put_frames-used-requires c =
    layers_room (layers _ _ _ _ _ (under_is _ _ _ c.index_of-below.ensures c.if-not-below.false) c.places_of-above.ensures c.if-not-above.false) c.args.res.now c.if-res-lt-SUPPLEMENT.false

pub returns : goal.returns
returns c =
    let t = lay_done c.args.store.now c.args.lower.now c.args.upper.now c.args.res.now c.if-res-lt-SUPPLEMENT.false
    (layers _ _ _ _ _ (under_is _ _ _ c.index_of-below.ensures c.if-not-below.false) c.places_of-above.ensures c.if-not-above.false)
    c.put_frames-used.result c.put_frames-used.new.res c.zero_from.new.buffer c.put_frames-used.ensures c.zero_from.ensures c.put_frames-used.auto.res in
    record { answer = t.0; buffer = t.1 }

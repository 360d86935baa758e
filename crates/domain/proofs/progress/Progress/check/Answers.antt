use Rattle.std.proofs.Common.{◌≡◌, sym, ◌∙◌, true, false}
use Rattle.bmap.specs.Plain.{any}
use Rattle.bmap.specs.Line.{Frame}
use Rattle.bmap.specs.Accept.{alike}
use Rattle.bmap.specs.Payload.{entry_in}
use Rattle.index.specs.Index.{entry_said}
use Rattle.domain.specs.Progress.{entries_in}
use Rattle.domain.proofs.CheckLaws.{only_fresh, fresh_other, fresh_entry, any_mapped, same_entry}
use Rattle.domain.proofs.progress.Progress.check.Goals.{else-kind-eq-ENTRY-via-then-kind-eq-ENTRY+else-contains, else-kind-eq-ENTRY-via-else-kind-eq-ENTRY}
use Rattle.domain.proofs.progress.Progress.check.Goals as goal

pub returns-then-contains : goal.returns-then-contains
returns-then-contains c =
    let x = c.args.self.now in
    let f : Frame = record { kind = c.args.kind; payload = c.args.p.now } in
    let e : true ≡ any (alike (entry_in f.payload)) (entries_in x.index)
    = sym c.if-contains.true ∙ c.contains.ensures.value ∙ any_mapped _ entry_said (alike (entry_in f.payload)) (same_entry f.payload _ c.entry_in.ensures) _ in
    only_fresh x.latest x.index.counts (entries_in x.index) f c.if-not-in_order.ensures c.if-not-room_for.ensures c.if-not-payload_fits.ensures false (fresh_entry _ f true c.if-kind-eq-ENTRY.true e)

pub returns : goal.returns
returns c =
    let x = c.args.self.now in
    let f : Frame = record { kind = c.args.kind; payload = c.args.p.now } in
    only_fresh x.latest x.index.counts (entries_in x.index) f c.if-not-in_order.ensures c.if-not-room_for.ensures c.if-not-payload_fits.ensures true
    (elim c.else-kind-eq-ENTRY.branch [
      | else-kind-eq-ENTRY-via-then-kind-eq-ENTRY+else-contains w ↦
          fresh_entry _ f false w.if-kind-eq-ENTRY.true
          (sym w.if-contains.false ∙ w.contains.ensures.value ∙ any_mapped _ entry_said (alike (entry_in f.payload)) (same_entry f.payload _ w.entry_in.ensures) _)
      | else-kind-eq-ENTRY-via-else-kind-eq-ENTRY w ↦ fresh_other _ f w.if-kind-eq-ENTRY.false
    ])

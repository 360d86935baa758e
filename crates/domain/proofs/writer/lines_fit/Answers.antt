use Rattle.std.proofs.Common.{suc, ◌-◌, length, refl, sym, ◌∙◌}
use Rattle.domain.specs.Write.{lines_in}
use Rattle.domain.proofs.WriterLaws.{enough_more, fits_start, fits_end, fits_not, fits_more}
use Rattle.domain.proofs.Held.{framed, no_frame}
use Rattle.domain.proofs.writer.lines_fit.Goals as goal

pub loop-size-init : goal.loop-size-init
unfolding lines_in
loop-size-init c = (suc (length c.args.store.now), (fits_start c.args.store.now, refl))

pub returns-then-left-line : goal.returns-then-left-line
returns-then-left-line c =
    let s = c.args.store.now in
    let h = c.loop-size.invariant in
    fits_not s c.loop-size.at h.0 c.loop-size.left h.1.0 _ (framed s c.loop-size.at c.in-Some.size c.in-Some.ensures) c.if-left-line.true ∙ sym h.1.1

pub loop-size-preserved : goal.loop-size-preserved
loop-size-preserved c =
    let s = c.args.store.now in
    let at = c.loop-size.at in
    let h = c.loop-size.invariant in
    let g = framed s at c.in-Some.size c.in-Some.ensures in
    (h.0 - 1, (enough_more s at h.0 h.1.0 c.in-Some.size g, h.1.1 ∙ fits_more s at h.0 c.loop-size.left h.1.0 c.in-Some.size g c.if-left-line.false))

pub returns : goal.returns
returns c =
    let s = c.args.store.now in
    let h = c.loop-size.invariant in
    fits_end s c.loop-size.at h.0 c.loop-size.left h.1.0 (no_frame s c.loop-size.at c.in_default.ensures) ∙ sym h.1.1

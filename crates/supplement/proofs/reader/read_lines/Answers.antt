use Prim.Native.Nat.{ℕ, ◌-◌, ◌≤◌, ◌<◌}
use lib.ListN.{length, take, drop, length-drop}
use mathlib.Core.List.{List}
use mathlib.Core.Path.{◌≡◌, refl, ap, ◌∙◌}
use native.Mathlib.Omega.{arith}
use Rattle.bmap.specs.Supplement.{replacement_in}
use Rattle.line.proofs.Lists.{length_back, part_to_end}
use Rattle.index.specs.Index.{domain_of}
use Rattle.index.specs.declared.Index.{Index}
use Rattle.index.proofs.DomainLaws.{law_count}
use Rattle.domain.proofs.IntoStore.{renewed, first_is, first_none}
use Rattle.supplement.specs.Check.{frame_there}
use Rattle.supplement.proofs.ReaderLaws.{reads_first, reads_used, reads_done, reads_bad, reads_sizes, reads_not, reads_taken, refusing}
use Rattle.supplement.proofs.reader.read_lines.Goals as goal

-- the rest is shorter
less : (rest : List ℕ) (k : ℕ) → k ≤ length rest → 1 ≤ k → length (take (length rest - k) (drop k rest)) < length rest
less rest k h g = rw (part_to_end rest k) (omega (arith, length-drop k rest))

pub loop-first-init : goal.loop-first-init
loop-first-init c = record { ok = c.requires.ok; index = refl; size = refl; reads = rw c.requires.first (reads_first _ c.args.text.now c.args.buffer.now c.requires.room) }

pub returns-in-Ok-None : goal.returns-in-Ok-None
returns-in-Ok-None c =
    let so = c.loop-first.invariant in reads_done so.reads (first_none c.in-Ok-None.is c.in-Ok-None.field-0-is c.read_line.ensures.answer) c.read_line.new.out _ _ so.ok so.index refl

pub returns-in-Err : goal.returns-in-Err
returns-in-Err c =
    let so = c.loop-first.invariant in refusing _ _ _ _ _ _ _ so.index (reads_bad so.reads _ c.in-Err.ensures.answer)

pub take-requires : goal.take-requires
take-requires c =
    let so = c.loop-first.invariant in
    let z = reads_sizes so.reads c.in-Ok-Some.first.bytes c.in-Ok-Some.first.characters c.read_line.new.out (first_is c.in-Ok-Some.is c.in-Ok-Some.field-0-is c.read_line.ensures.answer) c.read_line.ensures.buffer in
    let again : length (renewed c.loop-first.buffer c.loop-first.used c.read_line.new.out) ≡ length c.loop-first.buffer = length_back c.loop-first.buffer c.read_line.new.out c.loop-first.used (omega (arith, reads_used so.reads, so.reads.enough)) c.read_line.auto.out in
    record { sound = rw so.index c.requires.sound; whole = z.two; within = omega (arith, z.most, again, reads_used so.reads, so.reads.enough); low = omega (arith, reads_used so.reads) }

pub returns-in-Err-take : goal.returns-in-Err-take
returns-in-Err-take c =
    let so = c.loop-first.invariant in
    refusing _ _ _ _ _ _ _ (c.take.ensures.index ∙ so.index)
    (reads_not so.reads _ _ c.read_line.new.out (first_is c.in-Ok-Some.is c.in-Ok-Some.field-0-is c.read_line.ensures.answer) c.read_line.ensures.buffer _
    (ap (λ (x : Index). replacement_in (domain_of c.args.store.now x) so.reads.so_far (frame_there (renewed c.loop-first.buffer c.loop-first.used c.read_line.new.out) c.loop-first.used c.in-Ok-Some.first.bytes)) so.index)
    _ (c.in-Err-take.ensures.over so.reads.so_far so.reads.stand.places))

pub overflow_add-used : goal.overflow_add-used
overflow_add-used c =
    let so = c.loop-first.invariant in
    let z = reads_sizes so.reads c.in-Ok-Some.first.bytes c.in-Ok-Some.first.characters c.read_line.new.out (first_is c.in-Ok-Some.is c.in-Ok-Some.field-0-is c.read_line.ensures.answer) c.read_line.ensures.buffer in
    omega (arith, z.most, reads_used so.reads)

pub slice_bounds-rest-count : goal.slice_bounds-rest-count
slice_bounds-rest-count c = (reads_sizes c.loop-first.invariant.reads c.in-Ok-Some.first.bytes c.in-Ok-Some.first.characters c.read_line.new.out (first_is c.in-Ok-Some.is c.in-Ok-Some.field-0-is c.read_line.ensures.answer) c.read_line.ensures.buffer).characters

pub slice_bounds-rest-start : goal.slice_bounds-rest-start
slice_bounds-rest-start c = (reads_sizes c.loop-first.invariant.reads c.in-Ok-Some.first.bytes c.in-Ok-Some.first.characters c.read_line.new.out (first_is c.in-Ok-Some.is c.in-Ok-Some.field-0-is c.read_line.ensures.answer) c.read_line.ensures.buffer).characters

pub loop-first-smaller : goal.loop-first-smaller
loop-first-smaller c =
    let z = reads_sizes c.loop-first.invariant.reads c.in-Ok-Some.first.bytes c.in-Ok-Some.first.characters c.read_line.new.out (first_is c.in-Ok-Some.is c.in-Ok-Some.field-0-is c.read_line.ensures.answer) c.read_line.ensures.buffer in
    less c.loop-first.rest.now c.in-Ok-Some.first.characters z.characters z.some_characters

pub loop-first-preserved : goal.loop-first-preserved
loop-first-preserved c =
    let so = c.loop-first.invariant in
    let again : length (renewed c.loop-first.buffer c.loop-first.used c.read_line.new.out) ≡ length c.loop-first.buffer = length_back c.loop-first.buffer c.read_line.new.out c.loop-first.used (omega (arith, reads_used so.reads, so.reads.enough)) c.read_line.auto.out in
    record {
      ok = c.take.ensures.ok ∙ so.ok;
      index = c.take.ensures.index ∙ so.index;
      size = again ∙ so.size;
      reads =
          reads_taken so.reads _ _ c.read_line.new.out (first_is c.in-Ok-Some.is c.in-Ok-Some.field-0-is c.read_line.ensures.answer) c.read_line.ensures.buffer _
          (ap (λ (x : Index). replacement_in (domain_of c.args.store.now x) so.reads.so_far (frame_there (renewed c.loop-first.buffer c.loop-first.used c.read_line.new.out) c.loop-first.used c.in-Ok-Some.first.bytes)) so.index)
          (omega (arith, law_count c.args.store.now c.args.under.now.index, c.requires.sound.laws)) again _ (c.in_default.ensures.over so.reads.so_far so.reads.stand.places);
    }

use Rattle.std.proofs.Common.{◌≤◌, ◌<◌, ◌-◌, ℕ, List, length, take, drop, refl, sym, ap, ◌∙◌, arith, rules, length-drop}
use Rattle.line.specs.Read.{said}
use Rattle.line.proofs.Lists.{length_back, part_to_end}
use Rattle.domain.specs.Check.{refusal_of}
use Rattle.domain.proofs.IntoStore.{first_is, first_none}
use Rattle.domain.proofs.ReaderLaws.{line_ok, line_refused, took, reads_first, reads_few, reads_used, reads_done, reads_missing, reads_bad, reads_sizes, reads_within, reads_refused, reads_next, refusing}
use Rattle.domain.proofs.reader.read_lines.Goals as goal

-- the rest is shorter
less : (rest : List ℕ) (k : ℕ) → k ≤ length rest → 1 ≤ k → length (take (length rest - k) (drop k rest)) < length rest
less rest k h g = rw (part_to_end rest k) (omega (arith, length-drop k rest))

pub loop-first-init : goal.loop-first-init
loop-first-init c = (refl, reads_first c.args.text.now c.args.store.now _ c.new-progress.ensures c.requires)

pub returns-in_err-first : goal.returns-in_err-first
returns-in_err-first c =
    line_refused c.read_line.result _ c.on_line.ensures c.in_err-first.was (search rules) (λ why e. reads_bad c.loop-first.invariant.1 _ (sym (ap said e) ∙ c.read_line.ensures.answer))

pub overflow_add-next : goal.overflow_add-next
overflow_add-next c =
    let e = first_is (line_ok c.read_line.result _ c.on_line.ensures c.in_ok-first.was) c.in-Some.is c.read_line.ensures.answer in
    let z = reads_sizes c.loop-first.invariant.1 c.in-Some.first.bytes c.in-Some.first.characters c.read_line.new.out e c.read_line.ensures.buffer in
    omega (arith, z.most, reads_used c.loop-first.invariant.1)

pub slice_bounds-take-count : goal.slice_bounds-take-count
slice_bounds-take-count c =
    let e = first_is (line_ok c.read_line.result _ c.on_line.ensures c.in_ok-first.was) c.in-Some.is c.read_line.ensures.answer in
    let z = reads_sizes c.loop-first.invariant.1 c.in-Some.first.bytes c.in-Some.first.characters c.read_line.new.out e c.read_line.ensures.buffer in
    omega (arith, z.two)

pub slice_bounds-take-start : goal.slice_bounds-take-start
slice_bounds-take-start c =
    let e = first_is (line_ok c.read_line.result _ c.on_line.ensures c.in_ok-first.was) c.in-Some.is c.read_line.ensures.answer in
    let z = reads_sizes c.loop-first.invariant.1 c.in-Some.first.bytes c.in-Some.first.characters c.read_line.new.out e c.read_line.ensures.buffer in
    omega (arith, z.two)

pub slice_bounds-take-end : goal.slice_bounds-take-end
slice_bounds-take-end c =
    let e = first_is (line_ok c.read_line.result _ c.on_line.ensures c.in_ok-first.was) c.in-Some.is c.read_line.ensures.answer in
    reads_within c.loop-first.invariant.1 c.in-Some.first.bytes c.in-Some.first.characters c.read_line.new.out e c.read_line.ensures.buffer c.read_line.auto.out

pub take-requires-clause-few : goal.take-requires-clause-few
take-requires-clause-few c = reads_few c.loop-first.invariant.1

pub returns-in_err-on_line : goal.returns-in_err-on_line
returns-in_err-on_line c =
    let e = first_is (line_ok c.read_line.result _ c.on_line.ensures c.in_ok-first.was) c.in-Some.is c.read_line.ensures.answer in
    line_refused c.take.result _ c.on_line-in-Some.ensures c.in_err-on_line.was (search rules)
    (λ why r. reads_refused c.loop-first.invariant.1 c.in-Some.first.bytes c.in-Some.first.characters c.read_line.new.out e c.read_line.ensures.buffer _ (sym (ap refusal_of r) ∙ c.take.ensures.answer))

pub slice_bounds-rest-count : goal.slice_bounds-rest-count
slice_bounds-rest-count c =
    let e = first_is (line_ok c.read_line.result _ c.on_line.ensures c.in_ok-first.was) c.in-Some.is c.read_line.ensures.answer in
    let z = reads_sizes c.loop-first.invariant.1 c.in-Some.first.bytes c.in-Some.first.characters c.read_line.new.out e c.read_line.ensures.buffer in
    omega (arith, z.characters)

pub slice_bounds-rest-start : goal.slice_bounds-rest-start
slice_bounds-rest-start c =
    let e = first_is (line_ok c.read_line.result _ c.on_line.ensures c.in_ok-first.was) c.in-Some.is c.read_line.ensures.answer in
    let z = reads_sizes c.loop-first.invariant.1 c.in-Some.first.bytes c.in-Some.first.characters c.read_line.new.out e c.read_line.ensures.buffer in
    omega (arith, z.characters)

pub loop-first-smaller : goal.loop-first-smaller
loop-first-smaller c =
    let e = first_is (line_ok c.read_line.result _ c.on_line.ensures c.in_ok-first.was) c.in-Some.is c.read_line.ensures.answer in
    let z = reads_sizes c.loop-first.invariant.1 c.in-Some.first.bytes c.in-Some.first.characters c.read_line.new.out e c.read_line.ensures.buffer in
    less c.loop-first.rest.now c.in-Some.first.characters z.characters z.some_characters

pub loop-first-preserved : goal.loop-first-preserved
loop-first-preserved c =
    let h = c.loop-first.invariant.1 in
    let e = first_is (line_ok c.read_line.result _ c.on_line.ensures c.in_ok-first.was) c.in-Some.is c.read_line.ensures.answer in
    let r = line_ok c.take.result _ c.on_line-in-Some.ensures c.in_ok-on_line.was in
    let again = length_back c.loop-first.store c.read_line.new.out c.loop-first.used (omega (arith, reads_used h, h.enough)) c.read_line.auto.out in (
      again ∙ c.loop-first.invariant.0,
      reads_next h c.in-Some.first.bytes c.in-Some.first.characters c.read_line.new.out e c.read_line.ensures.buffer (sym (ap refusal_of r) ∙ c.take.ensures.answer) c.take.new.self
          (took c.take.result r c.take.ensures.taken) again,
    )

pub is_complete-requires : goal.is_complete-requires
is_complete-requires c = reads_few c.loop-first.invariant.1

pub returns-then-not-is_complete : goal.returns-then-not-is_complete
returns-then-not-is_complete c =
    refusing _ _ _ (reads_missing c.loop-first.invariant.1 (first_none (line_ok c.read_line.result _ c.on_line.ensures c.in_ok-first.was) c.in_default.is c.read_line.ensures.answer) c.if-not-is_complete.ensures)

pub returns : goal.returns
returns c =
    reads_done c.loop-first.invariant.1 (first_none (line_ok c.read_line.result _ c.on_line.ensures c.in_ok-first.was) c.in_default.is c.read_line.ensures.answer) c.read_line.new.out c.if-not-is_complete.ensures

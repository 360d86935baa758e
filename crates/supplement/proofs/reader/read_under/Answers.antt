use Prim.Native.Nat.{ℕ, ◌≤◌}
use lib.ListN.{length}
use mathlib.Core.Path.{◌≡◌, refl, sym, ap, ◌∙◌}
use mathlib.Core.Bool.{true}
use mathlib.Core.List.{List, []}
use Rattle.std.specs.Prelude.{Some}
use Rattle.bmap.specs.Store.{frames_of}
use Rattle.bmap.specs.Supplement.{supplement_from, read_supplement}
use Rattle.bmap.specs.Refusal.{refused, number_of, Reading, refused_at}
use Rattle.bmap.specs.declared.refusal.Refusal.{Refusal}
use Rattle.index.specs.Index.{domain_of}
use Rattle.index.specs.declared.Index.{Index}
use Rattle.domain.specs.Found.{found_in}
use Rattle.domain.specs.Read.{reading_of}
use Rattle.domain.proofs.Accepted.{FoundHere, found_ok, found_none}
use Rattle.supplement.specs.Under.{index_found, under_of}
use Rattle.supplement.specs.Read.{under_after, under_reading, UnderRead, RefusedAt}
use Rattle.supplement.specs.declared.reader.ReadUnder.{ReadUnder}
use Rattle.supplement.specs.declared.under.Under.{Under}
use Rattle.supplement.proofs.UnderLaws.{alone_in, alone_index, alone_some, alone_none, alone_over}
use Rattle.supplement.proofs.ReaderLaws.{read_short, read_15, read_ends, read_stops}
use Rattle.supplement.proofs.RoundTrip.{under_after_lem}
use Rattle.supplement.proofs.reader.read_under.Goals as goal

-- a refusal of the domain or the buffer, or of a line
none_read : (store text buffer after : List ℕ) (u : Under) → u.index ≡ index_found (found_in store) → {x : Index} {why : Refusal} {line : ℕ} (r : ReadUnder) → RefusedAt x why line r → x ≡ u.index
    → (refused_at (number_of why) line ≡ (read_supplement store text buffer).answer) × (after ≡ (read_supplement store text buffer).buffer) → UnderRead store text buffer r after
none_read store text buffer after u index {x} {why} r is e told = record {
  answer = ap reading_of is.answer ∙ told.0;
  buffer = told.1;
  under =
      is.under (number_of why) ∙ ap (λ (y : Index). under_of y (refused (number_of why))) (e ∙ index)
      ∙ ap (λ (a : Reading ℕ). under_after a store (read_supplement store text buffer).buffer) told.0;
}

module _ (store : List ℕ) (u : Under) (is : u ≡ alone_in (found_in store)) where
  its_index : u.index ≡ index_found (found_in store)
  its_index = ap (λ (y : Under). y.index) is ∙ alone_index (found_in store)

  module _ (ok : u.ok ≡ true) where
    here : FoundHere store u.index
    here = found_ok store u.index (alone_some (found_in store) (sym (ap (λ (y : Under). y.ok) is) ∙ ok) ∙ ap (λ (y : Under). Some y.index) (sym is))

    -- the lines were read
    found_under : (text buffer : List ℕ) → 16_000 ≤ length buffer → (v : Under) → v ≡ under_reading u.index (supplement_from (domain_of store u.index) [] (frames_of text))
        → v ≡ under_after (read_supplement store text buffer).answer store (read_supplement store text buffer).buffer
    found_under text buffer room v e =
        e ∙ ap (λ (x : Index). under_reading x (supplement_from (domain_of store u.index) [] (frames_of text))) its_index
        ∙ under_after_lem store text buffer (domain_of store u.index) here.domain room

pub returns-then-buffer-lt-SUPPLEMENT : goal.returns-then-buffer-lt-SUPPLEMENT
returns-then-buffer-lt-SUPPLEMENT c =
    none_read c.args.store.now c.args.text.now c.args.buffer.now _ c.found_alone-under.result (its_index c.args.store.now _ (c.found_alone-under.ensures ∙ ap alone_in c.index_of.ensures)) _ c.refused_at.ensures refl
    (read_short c.args.store.now c.args.text.now c.args.buffer.now c.if-buffer-lt-SUPPLEMENT.true)

pub returns-then-not-under : goal.returns-then-not-under
returns-then-not-under c =
    let known = c.found_alone-under.ensures ∙ ap alone_in c.index_of.ensures in
    none_read c.args.store.now c.args.text.now c.args.buffer.now _ c.found_alone-under.result (its_index c.args.store.now _ known) _ c.refused_at-then-not-under.ensures refl
    (read_15 c.args.store.now c.args.text.now c.args.buffer.now c.if-buffer-lt-SUPPLEMENT.false
    (found_none c.args.store.now (alone_none _ (sym (ap (λ (u : Under). u.ok) known) ∙ c.if-not-under.true))) c.zero_from.new.buffer c.zero_from.ensures)

pub read_lines-requires : goal.read_lines-requires
read_lines-requires c =
    let known = c.found_alone-under.ensures ∙ ap alone_in c.index_of.ensures in
    record { sound = (here c.args.store.now _ known c.if-not-under.false).sound; ok = c.if-not-under.false; first = ap (λ (u : Under). u.over) known ∙ alone_over (found_in c.args.store.now); room = c.if-buffer-lt-SUPPLEMENT.false }

pub returns-in-Ok : goal.returns-in-Ok
returns-in-Ok c =
    let known = c.found_alone-under.ensures ∙ ap alone_in c.index_of.ensures in
    let k = c.read_lines.ensures in
    let ends = read_ends c.args.store.now c.args.text.now c.args.buffer.now c.if-buffer-lt-SUPPLEMENT.false _ (here c.args.store.now _ known c.if-not-under.false).domain c.read_lines.new.buffer c.read_lines.auto.buffer c.read_lines.result (k.used, k.front)
    c.zero_from-in-Ok.new.buffer c.in-Ok.used c.in-Ok.is c.zero_from-in-Ok.ensures in
    record { answer = ends.0; buffer = ends.1; under = found_under c.args.store.now _ known c.if-not-under.false c.args.text.now c.args.buffer.now c.if-buffer-lt-SUPPLEMENT.false _ (k.under _ c.in-Ok.is) }

pub returns-in-Err : goal.returns-in-Err
returns-in-Err c =
    let known = c.found_alone-under.ensures ∙ ap alone_in c.index_of.ensures in
    let k = c.read_lines.ensures in
    let stops = read_stops c.args.store.now c.args.text.now c.args.buffer.now c.if-buffer-lt-SUPPLEMENT.false _ (here c.args.store.now _ known c.if-not-under.false).domain c.read_lines.new.buffer c.read_lines.auto.buffer c.read_lines.result (k.used, k.front)
    c.zero_from-in-Err.new.buffer c.in-Err.why c.in-Err.is c.zero_from-in-Err.ensures in
    none_read c.args.store.now c.args.text.now c.args.buffer.now _ c.found_alone-under.result (its_index c.args.store.now _ known) _ c.refused_at-in-Err.ensures k.index (sym (ap reading_of c.in-Err.is) ∙ stops.0, stops.1)

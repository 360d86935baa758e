-- What the code holds after some frames, and after one more. Assumes nothing.
use Rattle.std.proofs.Common.{ℕ, zero, suc, ◌+◌, ◌≤◌, ◌<◌, ◌≡◌, refl, sym, ap, ◌∙◌, add-one, Bool, true, false, List, [], ◌∷◌, ◌++◌, map, length, set, take, eqb, ltb, arith}
use Rattle.std.proofs.lemmas.List.{length-map}
use Rattle.std.proofs.Math.Seq.{take-append_seam}
use borrow.Author.Tests.{eq-eqb, ne_eqb, le-leb, lt-leb}
use Rattle.bmap.specs.Plain.{both, either, if_else, any, all, numbers}
use Rattle.bmap.specs.Line.{Frame}
use Rattle.bmap.specs.Domain.{Domain, Entry, Law}
use Rattle.bmap.specs.Payload.{Item, byte, fluent_in, knowledge_in, entry_in}
use Rattle.bmap.specs.Accept.{Partial, counts_of, room, add, executes, complete, checked}
use Rattle.bmap.proofs.PlainLaws.{either_end}
use Rattle.bmap.specs.declared.limits.Counts.{Counts}
use Rattle.index.specs.Index.{no_fluent, no_knowledge, no_entry, entry_said}
use Rattle.domain.specs.Found.{row, fluent_row, knowledge_row, entry_row, index_with}
use Rattle.domain.specs.Progress.{progress_of, entries_in, checked_in, counted, noted, complete_in}
use Rattle.domain.proofs.Rows.{length_snoc, any_snoc, push_by, row_push}
use Rattle.domain.proofs.CheckLaws.{room_fluents, room_knowledge, room_entries, room_laws}
use Rattle.domain.proofs.Passed.{Case, is_agents, is_fluent, is_knowledge, is_entry, is_law_lem, Passed, Executes, this, other, law_executes}
use Rattle.domain.proofs.Stands.{with, places_with}

-- ---- the check, and the end

entries_back : (es : List Entry) → map entry_said (map entry_row es) ≡ es
entries_back [] = refl
entries_back (e ∷ es) = ap (λ l. e ∷ l) (entries_back es)

marked : (g : ℕ → Bool) (j n m : ℕ) → n ≤ m → all (λ b. b) (take n (map g (numbers j m))) ≡ all g (numbers j n)
unfolding all numbers
marked g j zero m h = refl
marked g j (suc n) zero h = absurd (omega arith)
marked g j (suc n) (suc m) h = ap (both (g j)) (marked g (suc j) n m (omega arith))

module _ (p : Partial) (places : List ℕ) where
  -- the entries are read back
  entries_are : entries_in (index_with p.domain places) ≡ p.domain.entries
  unfolding index_with
  entries_are =
      let es = p.domain.entries in
      ap (λ n. map entry_said (take n (row 64 no_entry (map entry_row es)))) (sym (length-map es entry_row))
      ∙ ap (map entry_said) (take-append_seam (map entry_row es) _) ∙ entries_back es

  -- the check of a frame asks the frames so far
  pub check_same : (f : Frame) → checked_in (progress_of p places) f ≡ checked p.latest (counts_of p.domain) p.domain.entries f
  unfolding progress_of index_with
  check_same f = ap (λ es. checked p.latest (counts_of p.domain) es f) entries_are

  pub complete_same : length p.domain.entries ≤ 64 → complete_in (progress_of p places) ≡ complete p.domain
  unfolding progress_of complete_in complete index_with
  complete_same few =
      ap (λ b. both (ltb 0 p.domain.agents) (both (ltb 0 (length p.domain.fluents)) (both (ltb 0 (length p.domain.entries)) b)))
      (marked (λ i. any (executes i) p.domain.laws) 0 (length p.domain.entries) 64 few)

-- ---- one frame more

marks_same : (g h : ℕ → Bool) (j m : ℕ) → ((i : ℕ) → j ≤ i → g i ≡ h i) → map g (numbers j m) ≡ map h (numbers j m)
unfolding numbers
marks_same g h j zero e = refl
marks_same g h j (suc m) e = ap (λ b. b ∷ map g (numbers (suc j) m)) (e j (omega arith)) ∙ ap (λ r. h j ∷ r) (marks_same g h (suc j) m (λ i k. e i (omega arith)))

-- a mark is set
marks_set : (g h : ℕ → Bool) (j m k : ℕ) → k < m → h (j + k) ≡ true → ((i : ℕ) → (i ≡ j + k → ⊥) → g i ≡ h i) → set (map g (numbers j m)) k true ≡ map h (numbers j m)
unfolding numbers
marks_set g h j zero k l t o = absurd (omega arith)
marks_set g h j (suc m) zero l t o =
    let z : j + 0 ≡ j = omega arith in
    ap (λ b. b ∷ map g (numbers (suc j) m)) (sym t ∙ ap h z) ∙ ap (λ r. h j ∷ r) (marks_same g h (suc j) m (λ i k. o i (λ e. omega arith)))
marks_set g h j (suc m) (suc k) l t o =
    let z : j + suc k ≡ suc j + k = omega arith in
    ap (λ b. b ∷ set (map g (numbers (suc j) m)) k true) (o j (λ e. omega arith))
    ∙ ap (λ r. h j ∷ r) (marks_set g h (suc j) m k (omega arith) (ap h (sym z) ∙ t) (λ i e. o i (λ q. e (q ∙ z))))

-- the marks, after a law
module _ (n : Counts) (k : ℕ) (p : List ℕ) (l : Law) (laws : List Law) (few : n.entries ≤ 64) where
  abbrev before : ℕ → Bool
  before i = any (executes i) laws

  abbrev after : ℕ → Bool
  after i = any (executes i) (laws ++ (l ∷ []))

  marks_law : Executes n k p l → if_else (eqb k 0xA5) (set (map before (numbers 0 64)) (byte p 0) true) (map before (numbers 0 64)) ≡ map after (numbers 0 64)
  marks_law (other q x) = rw q (marks_same before after 0 64 (λ i z. sym (any_snoc (executes i) laws l ∙ ap (either (before i)) (x i) ∙ either_end (before i))))
  marks_law (this q e x) =
      let z : 0 + byte p 0 ≡ byte p 0 = omega arith in
      rw (eq-eqb k 0xA5 q)
      (marks_set before after 0 64 (byte p 0) (omega arith)
      (ap after z ∙ any_snoc (executes (byte p 0)) laws l ∙ ap (either (before (byte p 0))) (x (byte p 0) ∙ eq-eqb (byte p 0) (byte p 0) refl) ∙ either_true (before (byte p 0)))
      (λ i t. sym (any_snoc (executes i) laws l ∙ ap (either (before i)) (x i ∙ ne_eqb (byte p 0) i (λ y. t (sym y ∙ sym z))) ∙ either_end (before i))))
    where
      either_true : (a : Bool) → either a true ≡ true
      either_true true = refl
      either_true false = refl

module _ (d : Domain) (latest k : ℕ) (p : List ℕ) (places : List ℕ) (at : ℕ) (few : length d.entries ≤ 64) (pl : length places ≡ length d.laws) (fits : room (counts_of d) k ≡ true) where
  -- a frame that passed its check, by its kind
  noted_as : (i : Item) → Case (counts_of d) k p i
      → noted (progress_of (record { latest = latest; domain = d }) places) at (record { kind = k; payload = p })
      ≡ progress_of (record { latest = k; domain = add i d }) (places_with places at (record { kind = k; payload = p }))
  unfolding noted counted progress_of index_with
  noted_as i (is_agents q lo hi e) = rw (e, q)
  noted_as i (is_fluent q e) = rw (e, q, push_by fluent_row 32 no_fluent d.fluents (fluent_in p) (length d.fluents) refl (room_fluents (counts_of d) k fits q), length_snoc d.fluents (fluent_in p), add-one (length d.fluents))
  noted_as i (is_knowledge q e) = rw (e, q, push_by knowledge_row 64 no_knowledge d.knowledge (knowledge_in p) (length d.knowledge) refl (room_knowledge (counts_of d) k fits q), length_snoc d.knowledge (knowledge_in p), add-one (length d.knowledge))
  noted_as i (is_entry q e) = rw (e, q, push_by entry_row 64 no_entry d.entries (entry_in p) (length d.entries) refl (room_entries (counts_of d) k fits q), length_snoc d.entries (entry_in p), add-one (length d.entries))
  noted_as i (is_law_lem h l q e) =
      let law : set (row 128 0 places) (length d.laws) at ≡ row 128 0 (places ++ (at ∷ [])) = ap (λ n. set (row 128 0 places) n at) (sym pl) ∙ row_push 128 0 places at (omega (arith, pl, room_laws (counts_of d) k fits h)) in
      rw (
        e,
        marks_law (counts_of d) k p l d.laws few (law_executes (counts_of d) k p l q),
        ne_eqb k 0xA1 (λ z. omega arith),
        ne_eqb k 0xA2 (λ z. omega arith),
        ne_eqb k 0xA3 (λ z. omega arith),
        ne_eqb k 0xA4 (λ z. omega arith),
        le-leb 0xA5 k h,
        law,
        length_snoc d.laws l,
        add-one (length d.laws),
      )

pub noted_same : (p : Partial) (places : List ℕ) (f : Frame) (v : Passed p.latest (counts_of p.domain) p.domain.entries f) (at : ℕ) → length p.domain.entries ≤ 64 → length places ≡ length p.domain.laws
    → noted (progress_of p places) at f ≡ progress_of (with p f v.item) (places_with places at f)
noted_same p places f v at few pl = noted_as p.domain p.latest f.kind f.payload places at few pl v.fits v.item v.case

-- each law has its place
pub laws_counted : (p : Partial) (f : Frame) (v : Passed p.latest (counts_of p.domain) p.domain.entries f) (places : List ℕ) (at : ℕ) → length places ≡ length p.domain.laws
    → length (places_with places at f) ≡ length (add v.item p.domain).laws
laws_counted p f v places at e = go v.case
  where
    same : f.kind < 0xA5 → length (places_with places at f) ≡ length p.domain.laws
    same h = rw (lt-leb 0xA5 f.kind h) e

    go : Case (counts_of p.domain) f.kind f.payload v.item → length (places_with places at f) ≡ length (add v.item p.domain).laws
    go (is_agents q lo hi z) = rw z (same (omega arith))
    go (is_fluent q z) = rw z (same (omega arith))
    go (is_knowledge q z) = rw z (same (omega arith))
    go (is_entry q z) = rw z (same (omega arith))
    go (is_law_lem h l q z) = rw (z, le-leb 0xA5 f.kind h, length_snoc places at, length_snoc p.domain.laws l) (ap suc e)

-- What `low_water` prints: for a supplement's text, and for an input. Assumes nothing.
use Prim.Native.Nat.{ℕ, suc, ◌+◌, ◌-◌, ◌≤◌, ◌<◌}
use mathlib.Core.Path.{◌≡◌, refl, sym, ap, ◌∙◌, subst}
use mathlib.Core.List.{List, [], ◌∷◌, ◌++◌, map}
use native.Mathlib.Omega.{arith}
use lib.ListN.{length, take, drop, length-append, length-map, length-take, length-drop}
use Rattle.std.specs.Prelude.{Result, Ok, Err}
use lib.Seq.{take-take, take_all}
use borrow.Author.Tests.{le-leb, lt-leb}
use Rattle.bmap.specs.Plain.{flat}
use Rattle.bmap.specs.Limits.{most_input, store_size, supplement_size}
use Rattle.bmap.specs.Refusal.{Answer, got, refused, then, number_of, Reading, read, refused_at, at_line, afterwards}
use Rattle.bmap.specs.declared.refusal.ReadError.{ReadError}
use Rattle.bmap.specs.Line.{Line, Frame, lines_of, decode}
use Rattle.bmap.specs.Domain.{Domain}
use Rattle.bmap.specs.Accept.{taken}
use Rattle.bmap.specs.Buffer.{Filling, filled}
use Rattle.bmap.specs.Store.{domain_in, frames_of, stored_of, reading, read_domain}
use Rattle.bmap.specs.Sheet.{steps_from}
use Rattle.bmap.specs.Supplement.{Replacement, replaced, replacement_in, supplement_from, read_supplement, supplement_in}
use Rattle.bmap.specs.Program.{refused_text, Parts, split, sheet_mark, supplement_mark, supplemented, judged_by, sheet_under, answered_under, low_water}
use Rattle.domain.specs.Read as domains
use Rattle.supplement.specs.Read as supplements
use Rattle.supplement.specs.Under.{under_in}
use Rattle.supplement.specs.declared.reader.ReadUnder.{ReadUnder}
use Rattle.supplement.proofs.Theorems.{supplement_stands}
use Rattle.judge.proofs.StateLaws.{part_take}
use Rattle.answer.specs.declared.cut.Cut.{Cut}
use Rattle.answer.specs.declared.print.Text.{Text}
use Rattle.answer.specs.Put.{PutOr}
use Rattle.answer.specs.Cut.{CutTwice}
use Rattle.answer.specs.Speaks.{Speaks}
use Rattle.answer.proofs.ProgramLaws.{lines_most, lines_small, refused_reading, domain_refused, domain_kept, rest_lines}

-- ---- the supplement's text

-- a refusal at a line is at one of them
refused_line : (d : Domain) (earlier : List Replacement) (frames : List (Answer Frame)) (n line : ℕ) → supplement_from d earlier frames ≡ refused_at n line → line ≤ length earlier + length frames
unfolding supplement_from
refused_line d earlier [] n line e = let z : ◌≡◌ {A = ℕ} 0 1 = cc in absurd (omega arith)
refused_line d earlier (f ∷ frames) n line e = go (then f (replacement_in d earlier)) e (λ r. refused_line d (earlier ++ (r ∷ [])) frames n line)
  where
    go : (a : Answer Replacement) → at_line (suc (length earlier)) a (λ r. supplement_from d (earlier ++ (r ∷ [])) frames) ≡ refused_at n line
        → ((r : Replacement) → supplement_from d (earlier ++ (r ∷ [])) frames ≡ refused_at n line → line ≤ length (earlier ++ (r ∷ [])) + length frames)
        → line ≤ length earlier + length (f ∷ frames)
    go (got r) q later = omega (arith, later r q, length-append earlier (r ∷ []))
    go (refused m) q later = let same : suc (length earlier) ≡ line = cc in omega arith

-- the replacements that a text is, and that its store holds
pub record ReadAs (d : Domain) (text after : List ℕ) : Type 0 where
  pub replacements : List Replacement
  pub goes : supplement_from d [] (frames_of text) ≡ read replacements
  pub accepted : supplement_in d after ≡ got replacements

module _ (store text buffer : List ℕ) {after : List ℕ} (r : ReadUnder) (told : supplements.UnderRead store text buffer r after) (size : length buffer ≡ supplement_size) where
  abbrev filling : Filling
  filling = record { count = length (flat (map stored_of (frames_of text))); bytes = flat (map stored_of (frames_of text)) }

  -- what the reader answers, by what the store is
  abbrev Told : Answer Domain → Reading ℕ
  Told a = (filled supplement_size buffer (at_line 0 a (λ d. afterwards (supplement_from d [] (frames_of text)) (λ s. read filling)))).answer

  answers : {a : Answer Domain} → domain_in store ≡ a → domains.reading_of r.answer ≡ Told a
  unfolding read_supplement
  answers e = told.answer ∙ ap Told e

  module _ (d : Domain) (domain : domain_in store ≡ got d) where
    pub supplement_refused : (e : ReadError) → r.answer ≡ Err e → supplement_from d [] (frames_of text) ≡ refused_at (number_of e.refusal) e.line
    supplement_refused e is = refused_reading supplement_size buffer (omega (arith, size)) filling (supplement_from d [] (frames_of text)) (sym (answers domain) ∙ ap domains.reading_of is)

    pub supplement_read : (n : ℕ) → r.answer ≡ Ok n → ReadAs d text after
    supplement_read n e = go (supplement_from d [] (frames_of text)) refl
      where
        go : (a : Reading (List Replacement)) → supplement_from d [] (frames_of text) ≡ a → ReadAs d text after
        go (read s) q = record { replacements = s; goes = q; accepted = ap (supplement_in d) told.buffer ∙ supplement_stands store text buffer d s domain q (omega (arith, size)) }
        go (refused_at m line) q =
            let x : read n ≡ refused_at m line = sym (ap domains.reading_of e) ∙ answers domain ∙ ap (λ (a : Reading (List Replacement)). (filled supplement_size buffer (afterwards a (λ s. read filling))).answer) q ∙ simp (le-leb supplement_size (length buffer) (omega (arith, size))) in
            absurd (let z : ◌≡◌ {A = ℕ} 0 1 = cc in omega arith)

  pub supplement_line : (e : ReadError) → r.answer ≡ Err e → e.line ≤ length text
  supplement_line e is = go (domain_in store) refl
    where
      go : (a : Answer Domain) → domain_in store ≡ a → e.line ≤ length text
      go (got d) q = omega (arith, refused_line d [] (frames_of text) (number_of e.refusal) e.line (supplement_refused d q e is), length-map (lines_of text) decode, lines_most text)
      go (refused m) q =
          let at_0 : refused_at m 0 ≡ refused_at (number_of e.refusal) e.line = refused_reading {A = List Replacement} supplement_size buffer (omega (arith, size)) filling (refused_at m 0) (sym (answers q) ∙ ap domains.reading_of is) in
          let same : 0 ≡ e.line = cc in
          omega arith

-- what a reading has found is what is found in the two stores
pub found_under : {store text buffer after : List ℕ} (r : ReadUnder) → supplements.UnderRead store text buffer r after → {n : ℕ} → r.answer ≡ Ok n → r.under ≡ under_in store after
found_under {store} {text} {buffer} r told e =
    told.under ∙ ap (λ (a : Reading ℕ). supplements.under_after a store (read_supplement store text buffer).buffer) (sym told.answer ∙ ap domains.reading_of e) ∙ ap (under_in store) (sym told.buffer)

-- ---- an input cut twice

module _ {input : List ℕ} {supplement sheet : Cut} (cut : CutTwice input supplement sheet) where
  abbrev parts : Parts
  parts = split sheet_mark (lines_of input)

  -- the supplement's, as it is lent
  abbrev text : List ℕ
  text = take (sheet.at - supplement.at) (drop supplement.at input)

  pub in_order : supplement.at ≤ sheet.at
  in_order = omega (arith, cut.inner.within, length-take sheet.at input)

  domain_lines : lines_of (take supplement.at input) ≡ (supplemented parts).before
  domain_lines = ap lines_of (sym (take-take supplement.at sheet.at input in_order)) ∙ cut.inner.before ∙ ap (λ (ls : List Line). (split supplement_mark ls).before) cut.outer.before

  supplement_lines : lines_of text ≡ (supplemented parts).from
  supplement_lines =
      ap lines_of
      (sym (part_take supplement.at (sheet.at - supplement.at) sheet.at input (omega (arith, in_order)))
      ∙ take_all (sheet.at - supplement.at) (drop supplement.at (take sheet.at input)) (omega (arith, length-drop supplement.at (take sheet.at input), length-take sheet.at input)))
      ∙ cut.inner.from ∙ ap (λ (ls : List Line). (split supplement_mark ls).from) cut.outer.before

  pub supplement_small : length text ≤ most_input
  supplement_small = simp length-take (omega (arith, cut.short))

  before_supplement : supplement.lines ≡ length (supplemented parts).before
  before_supplement = cut.inner.count ∙ ap (λ (ls : List Line). length (split supplement_mark ls).before) cut.outer.before

  -- neither part begins after more lines than the input may have characters
  pub lines_few : (supplement.lines ≤ most_input) × (sheet.lines ≤ most_input)
  lines_few = (omega (arith, lines_small cut.inner, length-take sheet.at input, cut.short), omega (arith, lines_small cut.outer, cut.short))

  module _ (store buffer : List ℕ) {after : List ℕ} (r : ReadUnder) (told : supplements.UnderRead store text buffer r after) (size : length buffer ≡ supplement_size) (d : Domain) (domain : domain_in store ≡ got d) where
    -- what is printed, by what the text is
    prints : {a : Reading (List Replacement)} → supplement_from d [] (frames_of text) ≡ a → answered_under parts (read d) ≡ sheet_under parts d a
    prints e = ap (λ (ls : List Line). sheet_under parts d (supplement_from d [] (map decode ls))) (sym supplement_lines) ∙ ap (sheet_under parts d) e

    pub under_refused : (e : ReadError) → r.answer ≡ Err e → answered_under parts (read d) ≡ refused_text (number_of e.refusal) (supplement.lines + e.line)
    under_refused e is = prints (supplement_refused store text buffer r told size d domain e is) ∙ ap (λ (n : ℕ). refused_text (number_of e.refusal) (n + e.line)) (sym before_supplement)

    pub under_read : (put : Result (Unit {0}) ReadError) (one two : Text) (n : ℕ) → r.under ≡ under_in store after → r.answer ≡ Ok n
        → ((d : Domain) (s : List Replacement) → Speaks store after r.under d s
        → PutOr one (judged_by (replaced s d) sheet.lines (steps_from d.agents [] (map decode (lines_of (take (length input - sheet.at) (drop sheet.at input)))))) put two)
        → PutOr one (answered_under parts (read d)) put two
    under_read put one two n found e judges =
        let k = supplement_read store text buffer r told size d domain n e in
        subst (λ (t : List ℕ). PutOr one t put two)
        (ap (λ (ls : List Line). judged_by (replaced k.replacements d) sheet.lines (steps_from d.agents [] (map decode ls))) (rest_lines cut.outer)
        ∙ ap (λ (m : ℕ). judged_by (replaced k.replacements d) m (steps_from d.agents [] (map decode parts.from))) cut.outer.count ∙ sym (prints k.goes))
        (judges d k.replacements (record { domain = domain; accepted = k.accepted; found = found }))

  -- ---- the whole input

  low_water_is : low_water input ≡ answered_under parts (reading (take supplement.at input))
  unfolding low_water
  low_water_is = simp (le-leb (length input) most_input cut.short) (ap (λ (ls : List Line). answered_under parts (taken (map decode ls))) (sym domain_lines))

  module _ (store : List ℕ) {after : List ℕ} (r : Result ℕ ReadError)
      (answer : domains.reading_of r ≡ (read_domain (take supplement.at input) store).answer) (left : after ≡ (read_domain (take supplement.at input) store).buffer) where
    pub low_water_refused : length store ≡ store_size → (e : ReadError) → r ≡ Err e → low_water input ≡ refused_text (number_of e.refusal) e.line
    low_water_refused size e is = low_water_is ∙ ap (answered_under parts) (domain_refused (take supplement.at input) store r answer size e is)

    pub low_water_read : (put : Result (Unit {0}) ReadError) (one two : Text) (n : ℕ) → r ≡ Ok n
        → ((d : Domain) → domain_in after ≡ got d → PutOr one (answered_under parts (read d)) put two) → PutOr one (low_water input) put two
    low_water_read put one two n e prints =
        let k = domain_kept (take supplement.at input) store r answer n e in
        subst (λ (t : List ℕ). PutOr one t put two) (sym (low_water_is ∙ ap (answered_under parts) k.reads)) (prints k.domain (ap domain_in left ∙ k.holds))

pub long_low_water : (input : List ℕ) → most_input < length input → low_water input ≡ refused_text 18 0
unfolding low_water
long_low_water input h = simp (lt-leb (length input) most_input h)

-- What the program prints for a verdict, for a judgement, for a sheet and for an input. Assumes nothing.
use Prim.Native.Nat.{ℕ, ◌+◌, ◌-◌, ◌*◌, ◌≤◌, ◌<◌}
use mathlib.Core.Path.{◌≡◌, refl, sym, ap, ◌∙◌, subst}
use mathlib.Core.Bool.{Bool, true, false}
use mathlib.Core.List.{List, [], ◌∷◌, map}
use native.Mathlib.Nat.{mul_comm, mul-le-mul_right}
use native.Mathlib.Omega.{arith}
use lib.Dec.{eqb}
use lib.IntN.{ℤ}
use lib.ListN.{length, take, drop, length-take, length-drop}
use Rattle.std.specs.Prelude.{Option as Maybe, None, Some, Result, Ok, Err}
use lib.Seq.{take_all}
use borrow.Author.Tests.{le-leb, lt-leb}
use Rattle.bmap.specs.Plain.{if_else, flat}
use Rattle.bmap.specs.Limits.{most_agents, levels_size, store_size, sheet_size, most_input}
use Rattle.bmap.specs.Refusal.{got, number_of, Reading, read, refused_at, afterwards}
use Rattle.bmap.specs.declared.refusal.Refusal.{Refusal}
use Rattle.bmap.specs.declared.refusal.ReadError.{ReadError}
use Rattle.index.specs.declared.Index.{Index}
use Rattle.bmap.specs.declared.limits.Counts.{Counts}
use Rattle.bmap.specs.Line.{Line, lines_of, decode, line_feed, before}
use Rattle.bmap.specs.Domain.{Domain, Names, State}
use Rattle.bmap.specs.Accept.{counts_of, taken}
use Rattle.bmap.specs.Buffer.{over, Filling, filled}
use Rattle.bmap.specs.Store.{domain_in, reading, read_domain}
use Rattle.bmap.specs.Sheet.{rows, sheet_of, steps_from, read_sheet}
use Rattle.bmap.specs.Judge.{judge}
use Rattle.bmap.specs.Judge as paper
use Rattle.bmap.specs.Supplement.{Replacement, replaced, supplement_in, judge_under}
use Rattle.bmap.specs.Verdict as call
use Rattle.bmap.specs.Program.{state_lines, last_line, judged_text, refused_text, Parts, split, sheet_mark, judged_by, answered_by, output}
use Rattle.domain.specs.Read as domains
use Rattle.domain.specs.Found.{index_with, found_in}
use Rattle.domain.specs.declared.reader.ReadFound.{ReadFound}
use Rattle.domain.proofs.Accepted.{found_got, found_ok}
use Rattle.domain.proofs.RoundTrip as stores
use Rattle.sheet.specs.Answer as sheets
use Rattle.sheet.specs.Step.{agents_allowed, outcome}
use Rattle.sheet.proofs.RoundTrip.{rows_front, Kept, kept, Turned, turned}
use Rattle.judge.specs.Answer.{verdict_of, counted_of, states_counted, states_written_under}
use Rattle.judge.specs.declared.verdict.Judged.{Judged}
use Rattle.supplement.specs.Under.{index_found, under_in, under_alone}
use Rattle.supplement.specs.declared.under.Under.{Under}
use Rattle.supplement.proofs.UnderLaws.{under_counts, alone_in, alone_is}
use Rattle.supplement.proofs.Theorems.{empty_changes_nothing}
use Rattle.answer.specs.declared.print.Text.{Text}
use Rattle.answer.specs.Put.{Put, PutOr}
use Rattle.answer.specs.Cut.{CutIn}
use Rattle.answer.specs.Room.{Few}
use Rattle.answer.specs.Speaks.{Speaks}
use Rattle.answer.proofs.PutLaws.{put_then}
use Rattle.answer.proofs.StatesLaws.{judge_whole}

-- ---- a judgement

-- so many rows of a width lie within so many numbers
pub product_most : (n w : ℕ) {most width size : ℕ} → n ≤ most → w ≤ width → most * width ≡ size → n * w ≤ size
product_most n w {most} {width} h g e = omega (arith, mul-le-mul_right w h, mul-le-mul_right most g, mul_comm most w, mul_comm most width)

module _ (store supplement sheet : List ℕ) (levels : List ℤ) {after : List ℤ} (r : Result Judged Refusal)
    (told : ◌≡◌ {A = call.Judgement} (record { answer = counted_of r; levels = after }) (judge_under store supplement sheet levels)) (room : levels_size ≤ length levels)
    (d : Domain) (s : List Replacement) (steps : List Names) (domain : domain_in store ≡ got d) (accepted : supplement_in d supplement ≡ got s) (whole : sheet_of d.agents sheet ≡ got steps) where
  abbrev expected : paper.Judged
  expected = judge (replaced s d) steps

  pub judged : ◌≡◌ {A = call.Judgement} (record { answer = counted_of r; levels = after }) (record { answer = got expected.verdict; levels = over (flat expected.states) levels })
  unfolding judge_under
  judged = told ∙ simp (le-leb levels_size (length levels) room, domain, accepted, whole)

  pub refused_not : (why : Refusal) → r ≡ Err why → ⊥
  refused_not why e = let q : counted_of r ≡ got expected.verdict = ap (λ (x : call.Judgement). x.answer) judged in let z : ◌≡◌ {A = ℕ} 0 1 = cc in omega arith

  module _ (j : Judged) (e : r ≡ Ok j) (count : states_counted r ≡ states_written_under store supplement sheet levels) where
    pub verdict_is : verdict_of j.verdict ≡ expected.verdict
    verdict_is = let q : counted_of r ≡ got expected.verdict = ap (λ (x : call.Judgement). x.answer) judged in cc

    pub counted : j.states ≡ length expected.states
    unfolding states_written_under
    counted = sym (ap states_counted e) ∙ count ∙ simp (le-leb levels_size (length levels) room, domain, accepted, whole)

    -- the states written are those of the judgement
    written : {fluents : ℕ} → fluents ≡ length d.fluents → rows fluents j.states after ≡ expected.states
    unfolding replaced
    written {fluents} f =
        ap (λ (w : ℕ). rows w j.states after) f ∙ ap (λ (n : ℕ). rows (length d.fluents) n after) counted
        ∙ ap (λ (x : call.Judgement). rows (length d.fluents) (length expected.states) x.levels) judged
        ∙ rows_front (length d.fluents) (drop (length (flat expected.states)) levels) (judge_whole (replaced s d) steps)

    pub put_judgement : {one two three : Text} {fluents : ℕ} → fluents ≡ length d.fluents → Put one (state_lines 0 (rows fluents j.states after)) two → Put two (last_line (verdict_of j.verdict)) three
        → Put one (judged_text expected) three
    put_judgement {one} {two} {three} f x y =
        put_then (subst (λ (l : List State). Put one (state_lines 0 l) two) (written f) x) (subst (λ (w : paper.Verdict). Put two (last_line w) three) verdict_is y)

-- ---- a sheet's text

-- each line has a character, or its LF
pub lines_most : (s : List ℕ) → length (lines_of s) ≤ length s
unfolding lines_of
lines_most [] = omega arith
lines_most (c ∷ s) = go (eqb c line_feed) (lines_of s) (lines_most s)
  where
    more : (ls : List Line) → length ls ≤ length s → length (before c ls) ≤ length (c ∷ s)
    more [] h = omega arith
    more (l ∷ ls) h = omega arith

    go : (b : Bool) (ls : List Line) → length ls ≤ length s → length (if_else b (record { digits = []; ended = true } ∷ ls) (before c ls)) ≤ length (c ∷ s)
    go true ls h = omega arith
    go false ls h = more ls h

-- the counts of what was found keep their limits
found_few : (store : List ℕ) (x : Index) → found_in store ≡ Some x → (1 ≤ x.counts.agents) × Few x.counts
found_few store x e = let k = (found_ok store x e).sound in (k.some_agent, record { agents = k.agents; fluents = k.fluents })

pub few_found : (store supplement : List ℕ) {u : Under} → u ≡ under_in store supplement → Few u.index.counts
few_found store supplement e = subst Few (sym (ap (λ (u : Under). u.index.counts) e ∙ under_counts store supplement)) (go (found_in store) refl)
  where
    go : (o : Maybe Index) → found_in store ≡ o → Few (index_found o).counts
    go (Some x) e = (found_few store x e).1
    go None e = record { agents = omega arith; fluents = omega arith }

-- and are the domain's
pub counts_speak : {store supplement : List ℕ} {u : Under} {d : Domain} {s : List Replacement} → Speaks store supplement u d s → u.index.counts ≡ counts_of d
unfolding index_with
counts_speak {store} {d = d} k =
    ap (λ (u : Under). u.index.counts) k.found ∙ under_counts store _ ∙ ap (λ (o : Maybe Index). (index_found o).counts) (found_got store d k.domain)

few_counts : (store : List ℕ) (d : Domain) → domain_in store ≡ got d → {counts : Counts} → counts ≡ counts_of d → 1 ≤ counts.agents
unfolding index_with
few_counts store d domain e = subst (λ (n : Counts). 1 ≤ n.agents) (sym e) (found_few store _ (found_got store d domain)).0

-- the steps of a text, and that some names are theirs
pub record StepsRead (agents : ℕ) (s names_left : List ℕ) : Type 0 where
  pub steps : List Names
  pub reads : outcome agents s ≡ read steps
  pub names : sheet_of agents names_left ≡ got steps

module _ (store : List ℕ) (counts : Counts) (few : Few counts) where
  module _ (d : Domain) (domain : domain_in store ≡ got d) (are : counts ≡ counts_of d) where
    agents_are : counts.agents ≡ d.agents
    agents_are = ap (λ (n : Counts). n.agents) are

    agents_fit_lem : agents_allowed counts.agents ≡ true
    agents_fit_lem = simp (le-leb 1 counts.agents (few_counts store d domain are), le-leb counts.agents most_agents few.agents)

  module _ (s names : List ℕ) {after : List ℕ} (r : Result ℕ ReadError)
      (answer : sheets.reading_of r ≡ (read_sheet counts.agents s names).answer) (left : after ≡ (read_sheet counts.agents s names).buffer) (room : length names ≡ sheet_size) where
    turned_at : (e : ReadError) → r ≡ Err e → Turned counts.agents s (number_of e.refusal) e.line
    turned_at e is = turned counts.agents s names (number_of e.refusal) e.line (omega (arith, room)) (sym answer ∙ ap sheets.reading_of is)

    kept_at : (n : ℕ) → r ≡ Ok n → Kept counts.agents s names n
    kept_at n is = kept counts.agents s names n (omega (arith, room)) (sym answer ∙ ap sheets.reading_of is)

    pub line_small : (e : ReadError) → r ≡ Err e → e.line ≤ length s
    line_small e is = omega (arith, (turned_at e is).within, lines_most s)

    pub used_most : (n : ℕ) → r ≡ Ok n → n * counts.agents ≤ sheet_size
    used_most n is = product_most n counts.agents (kept_at n is).few few.agents refl

    module _ (d : Domain) (domain : domain_in store ≡ got d) (are : counts ≡ counts_of d) where
      -- the text is refused as the reader says
      pub text_refused : (e : ReadError) → r ≡ Err e → outcome d.agents s ≡ refused_at (number_of e.refusal) e.line
      text_refused e is = subst (λ (a : ℕ). outcome a s ≡ refused_at (number_of e.refusal) e.line) (agents_are d domain are) ((turned_at e is).goes (agents_fit_lem d domain are))

      -- or its steps are those whose names the reader left
      pub text_read : (n : ℕ) → r ≡ Ok n → StepsRead d.agents s (take (n * counts.agents) after)
      text_read n is =
          let k = kept_at n is in
          record {
            steps = k.steps;
            reads = subst (λ (a : ℕ). outcome a s ≡ read k.steps) (agents_are d domain are) k.goes;
            names = ap (λ (x : List ℕ). sheet_of d.agents (take (n * counts.agents) x)) left ∙ subst (λ (a : ℕ). sheet_of a (take (n * counts.agents) (read_sheet counts.agents s names).buffer) ≡ got k.steps) (agents_are d domain are) k.sheet;
          }

      module _ (lines : ℕ) (l : List Replacement) where
        pub sheet_refused : (e : ReadError) → r ≡ Err e → judged_by (replaced l d) lines (outcome d.agents s) ≡ refused_text (number_of e.refusal) (lines + e.line)
        sheet_refused e is = ap (judged_by (replaced l d) lines) (text_refused e is)

        pub sheet_judged : {one two : Text} (n : ℕ) → r ≡ Ok n
            → ((steps : List Names) → sheet_of d.agents (take (n * counts.agents) after) ≡ got steps → Put one (judged_text (judge (replaced l d) steps)) two)
            → Put one (judged_by (replaced l d) lines (outcome d.agents s)) two
        sheet_judged {one} {two} n is judges =
            let k = text_read n is in
            subst (λ (o : Reading (List Names)). Put one (judged_by (replaced l d) lines o) two) (sym k.reads) (judges k.steps k.names)

-- ---- a part of an input

-- the lines before a cut are no more than its characters
pub lines_small : {word input : List ℕ} {at lines : ℕ} → CutIn word input at lines → lines ≤ length input
lines_small {input = input} {at = at} cut = omega (arith, cut.count, ap length cut.before, lines_most (take at input), length-take at input, cut.within)

pub rest_small : (input : List ℕ) (at : ℕ) {most : ℕ} → length input ≤ most → length (take (length input - at) (drop at input)) ≤ most
rest_small input at h = simp length-take (omega arith)

-- what is after a cut, as it is lent
pub rest_lines : {word input : List ℕ} {at lines : ℕ} → CutIn word input at lines → lines_of (take (length input - at) (drop at input)) ≡ (split word (lines_of input)).from
rest_lines {input = input} {at = at} cut = ap lines_of (take_all (length input - at) (drop at input) (omega (arith, length-drop at input))) ∙ cut.from

-- ---- what a reader read

module _ {A : Type 0} (least : ℕ) (buffer : List ℕ) (room : least ≤ length buffer) (f : Filling) where
  -- its refusal is the reading's
  pub refused_reading : (a : Reading A) {n line : ℕ} → (filled least buffer (afterwards a (λ x. read f))).answer ≡ refused_at n line → a ≡ refused_at n line
  refused_reading (read x) e = absurd (let q = simp (le-leb least (length buffer) room) at e in let z : ◌≡◌ {A = ℕ} 0 1 = cc in omega arith)
  refused_reading (refused_at m l) {n} {line} e = let q : ◌≡◌ {A = Reading ℕ} (refused_at m l) (refused_at n line) = simp (le-leb least (length buffer) room) at e in cc

module _ (s store : List ℕ) (r : Result ℕ ReadError) (told : domains.reading_of r ≡ (read_domain s store).answer) where
  pub domain_refused : length store ≡ store_size → (e : ReadError) → r ≡ Err e → reading s ≡ refused_at (number_of e.refusal) e.line
  unfolding read_domain
  domain_refused size e is = refused_reading store_size store (omega (arith, size)) _ (reading s) (sym told ∙ ap domains.reading_of is)

  pub domain_kept : (n : ℕ) → r ≡ Ok n → stores.Kept s store
  domain_kept n is = stores.kept s store n (sym told ∙ ap domains.reading_of is)

-- what a reading has found is what is found in the store that it leaves, with nothing over it
pub found_alone : {s store after : List ℕ} (r : Result ReadFound ReadError) → domains.FoundRead s store r after → (f : ReadFound) → r ≡ Ok f → under_alone (Ok f.index) ≡ under_in after []
found_alone {s} {store} {after} r told f e =
    ap alone_in
    (sym (ap domains.index_in e) ∙ told.found ∙ ap (λ a. domains.found_after a (read_domain s store).buffer) (sym told.answer ∙ ap (λ q. domains.reading_of (domains.used_of q)) e) ∙ ap found_in (sym told.buffer))
    ∙ alone_is after

-- ---- an input

pub long_output : (input : List ℕ) → most_input < length input → output input ≡ refused_text 18 0
unfolding output
long_output input h = simp (lt-leb (length input) most_input h)

module _ (input : List ℕ) {at lines : ℕ} (short : length input ≤ most_input) (cut : CutIn sheet_mark input at lines) where
  abbrev parts : Parts
  parts = split sheet_mark (lines_of input)

  output_is : output input ≡ answered_by parts (reading (take at input))
  unfolding output
  output_is = simp (le-leb (length input) most_input short) (ap (λ (ls : List Line). answered_by parts (taken (map decode ls))) (sym cut.before))

  module _ (store : List ℕ) {after : List ℕ} (r : Result ReadFound ReadError) (told : domains.FoundRead (take at input) store r after) where
    pub output_refused : length store ≡ store_size → (e : ReadError) → r ≡ Err e → output input ≡ refused_text (number_of e.refusal) e.line
    output_refused size e is = output_is ∙ ap (answered_by parts) (domain_refused (take at input) store (domains.used_of r) told.answer size e (ap domains.used_of is))

    pub output_read : (put : Result (Unit {0}) ReadError) (one two : Text) {u : Under} (f : ReadFound) → u ≡ under_in after [] → r ≡ Ok f
        → ((d : Domain) (s : List Replacement) → Speaks after (take 0 input) u d s
        → PutOr one (judged_by (replaced s d) lines (steps_from d.agents [] (map decode (lines_of (take (length input - at) (drop at input)))))) put two)
        → PutOr one (output input) put two
    output_read put one two f found e judges =
        let k = domain_kept (take at input) store (domains.used_of r) told.answer f.used (ap domains.used_of e) in
        let d = k.domain in
        let is : output input ≡ judged_by (replaced [] d) lines (steps_from d.agents [] (map decode (lines_of (take (length input - at) (drop at input))))) =
        output_is ∙ ap (answered_by parts) k.reads
        ∙ ap (λ (m : ℕ). judged_by d m (steps_from d.agents [] (map decode parts.from))) (sym cut.count)
        ∙ ap (λ (ls : List Line). judged_by d lines (steps_from d.agents [] (map decode ls))) (sym (rest_lines cut))
        ∙ ap (λ (x : Domain). judged_by x lines (steps_from d.agents [] (map decode (lines_of (take (length input - at) (drop at input)))))) (sym (empty_changes_nothing.laws d)) in
        subst (λ (t : List ℕ). PutOr one t put two) (sym is)
        (judges d [] (record { domain = ap domain_in told.buffer ∙ k.holds; accepted = empty_changes_nothing.accepted d 0; found = found }))

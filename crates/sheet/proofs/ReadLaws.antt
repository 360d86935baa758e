-- The lines of a sheet, one by one, to the names in the buffer.
use Prim.Native.Nat.{ℕ, suc, ◌+◌, ◌-◌, ◌*◌, ◌≤◌, ◌<◌}
use native.Mathlib.Nat.{mul-le-mul}
use native.Mathlib.Numerals.{add-one}
use native.Mathlib.Omega.{arith}
use mathlib.Core.Path.{◌≡◌, refl, sym, ap, ◌∙◌}
use mathlib.Core.Bool.{true, false}
use mathlib.Core.Option.{none, some}
use mathlib.Core.List.{List, [], ◌∷◌, ◌++◌, map, append_assoc}
use lib.ListN.{length, get_or, take, drop, replicate, length-append, take-append-drop}
use lib.Seq.{length-take-le, take_at}
use borrow.Author.Tests.{lt-ltb, le-ltb, le-leb, lt-leb, eq-eqb, ne_eqb}
use Rattle.bmap.specs.Plain.{flat}
use Rattle.bmap.proofs.PlainLaws.{flat_one}
use Rattle.bmap.specs.Limits.{most_agents, most_steps, sheet_size, frame_size}
use Rattle.bmap.specs.Refusal.{got, refused, Reading, read, refused_at, afterwards}
use Rattle.bmap.specs.Line.{lines_of, decode}
use Rattle.bmap.specs.Domain.{Names}
use Rattle.bmap.specs.Buffer.{padded, fill}
use Rattle.bmap.specs.Sheet.{step_of, steps_from, steps_in, read_sheet}
use Rattle.line.specs.Read.{line_read, such_payload, first_payload}
use Rattle.line.proofs.Lists.{part_to_end}
use Rattle.line.proofs.LineLaws.{Takes, line_nothing, line_refused}
use Rattle.line.proofs.PayloadLaws.{takes_payload, payload_line}
use Rattle.sheet.specs.Step.{agents_allowed, outcome, counted, names_in, LineRefused, LineStep}

-- ---- a line

pub next_end : (rest frame : List ℕ) → none ≡ line_read rest frame → lines_of rest ≡ []
unfolding lines_of
next_end rest frame e = ap lines_of (line_nothing rest frame e)

pub next_refused : (agents steps : ℕ) (rest frame : List ℕ) (n : ℕ) → frame_size ≤ length frame → some (refused n) ≡ line_read rest frame → LineRefused agents steps rest n
next_refused agents steps rest frame n h e =
    let r = line_refused rest frame n h e in
    record { line = r.line; others = r.rest; lines = r.lines; is = rw r.decodes refl }

module _ (agents steps : ℕ) (rest frame exit : List ℕ) (n characters : ℕ) (t : Takes rest frame exit n characters) where
  -- the frame's kind, where the bytes were left
  kind_is : get_or exit 0 0 ≡ t.frame.kind
  kind_is = ap (λ (x : List ℕ). get_or x 0 0) t.left

  line_is : (number : ℕ) → step_of agents steps t.frame ≡ refused number → LineRefused agents steps rest number
  line_is number e = record { line = t.line; others = lines_of (drop characters rest); lines = t.lines; is = rw t.decodes e }

  pub bad_kind : (get_or exit 0 0 ≡ 0xB1 → ⊥) → LineRefused agents steps rest 3
  unfolding step_of
  bad_kind h = line_is 3 (simp (ne_eqb t.frame.kind 0xB1 (λ e. h (kind_is ∙ e))))

  pub too_long : get_or exit 0 0 ≡ 0xB1 → most_steps ≤ steps → LineRefused agents steps rest 9
  unfolding step_of
  too_long e h = line_is 9 (simp (eq-eqb t.frame.kind 0xB1 (sym kind_is ∙ e), le-ltb steps most_steps h))

  pub not_whole : get_or exit 0 0 ≡ 0xB1 → steps < most_steps → first_payload 0xB1 agents rest ≡ none → LineRefused agents steps rest 8
  unfolding step_of
  not_whole e h bars =
      let k = eq-eqb t.frame.kind 0xB1 (sym kind_is ∙ e) in
      let none_of : such_payload 0xB1 agents (got t.frame) ≡ none = sym (takes_payload rest frame exit n characters 0xB1 agents t) ∙ bars in
      let other : length t.frame.payload ≡ agents → ⊥ = λ z. absurd (let q = rw (k, eq-eqb (length t.frame.payload) agents z) at none_of in let o : ◌≡◌ {A = ℕ} 0 1 = cc in omega arith) in
      line_is 8 (simp (k, lt-ltb steps most_steps h, ne_eqb (length t.frame.payload) agents other))

pub a_step : (agents steps : ℕ) (rest names after : List ℕ) → steps < most_steps → first_payload 0xB1 agents rest ≡ some names
    → LineStep agents steps rest (names ++ after) (2 * agents + 5)
unfolding step_of
a_step agents steps rest names after h e =
    let f = payload_line rest names 0xB1 agents e in
    let t = f.takes in
    record {
      line = t.line;
      names = names;
      lines = t.lines;
      is = rw (t.decodes, f.frame) (simp (lt-ltb steps most_steps h, eq-eqb (length names) agents f.count));
      stand = sym (take_at names after agents f.count);
      count = f.count;
      before = h;
      some = omega arith;
      within = t.within;
    }

-- ---- the lines in turn

-- there is room for the names of all steps that a sheet may have
pub names_fit : (agents steps : ℕ) → agents ≤ most_agents → steps ≤ most_steps → steps * agents ≤ sheet_size
names_fit agents steps h k = mul-le-mul k h

-- the steps so far: as many as were counted, their names at the front of the buffer, and what is left of the text goes on from them
pub record Done (agents : ℕ) (text rest buffer : List ℕ) (steps : ℕ) : Type 0 where
  pub done : List Names
  pub count : length done ≡ steps
  pub names : flat done ≡ take (steps * agents) buffer
  pub goes : outcome agents text ≡ steps_from agents done (map decode (lines_of rest))

module _ (agents : ℕ) (text : List ℕ) where
  pub done_start : (buffer : List ℕ) → Done agents text text buffer 0
  unfolding flat
  done_start buffer = record { done = []; count = refl; names = let z : 0 * agents ≡ 0 = omega arith in rw z refl; goes = refl }

  module _ (rest buffer : List ℕ) (steps : ℕ) (d : Done agents text rest buffer steps) where
    pub done_end : (after : List ℕ) → steps * agents ≤ length buffer → lines_of rest ≡ []
        → (read steps ≡ counted (outcome agents text)) × (take (steps * agents) (take (steps * agents) buffer ++ after) ≡ names_in (outcome agents text))
    unfolding steps_from
    done_end after h e =
        let o : outcome agents text ≡ read d.done = d.goes ∙ rw e refl in
        let used = steps * agents in
        rw (o, d.count) (refl, take_at (take used buffer) after used (length-take-le used buffer h) ∙ sym d.names)

    pub done_refused : (n : ℕ) → LineRefused agents steps rest n → refused_at n (steps + 1) ≡ counted (outcome agents text)
    unfolding steps_from
    done_refused n r =
        let o : outcome agents text ≡ refused_at n (suc (length d.done)) = d.goes ∙ rw (r.lines, d.count, r.is) refl in
        rw (o, d.count, add-one steps) refl

    pub done_more : (p : List ℕ) (k : ℕ) → LineStep agents steps rest p k → steps * agents ≤ length buffer
        → Done agents text (take (length rest - k) (drop k rest)) (take (steps * agents) buffer ++ (p ++ drop (length buffer - steps * agents) (drop (steps * agents) buffer))) (steps + 1)
    unfolding steps_from
    done_more p k s h =
        let used = steps * agents in
        let x = s.names in
        let a = take used buffer in
        let q = drop agents p in
        let z = drop (length buffer - used) (drop used buffer) in
        let la : length a ≡ used = length-take-le used buffer h in
        let ep : p ≡ x ++ q = sym (take-append-drop agents p) ∙ ap (λ (y : List ℕ). y ++ q) (sym s.stand) in
        let cut : take (used + agents) (a ++ (p ++ z)) ≡ a ++ x
        = ap (λ (y : List ℕ). take (used + agents) (a ++ (y ++ z))) ep
        ∙ rw (append_assoc x q z, ← append_assoc a x (q ++ z)) (take_at (a ++ x) (q ++ z) (used + agents) (length-append a x ∙ omega (arith, s.count))) in
        record {
          done = d.done ++ (x ∷ []);
          count = length-append d.done (x ∷ []) ∙ omega (arith, d.count);
          names = let e : used + agents ≡ (steps + 1) * agents = omega arith in flat_one d.done x ∙ ap (λ (y : List ℕ). y ++ x) d.names ∙ sym cut ∙ ap (λ (n : ℕ). take n (a ++ (p ++ z))) e;
          goes = d.goes ∙ rw (s.lines, d.count, s.is, part_to_end rest k) refl;
        }

-- ---- the whole

fill_is : (o : Reading (List Names)) (answer : Reading ℕ) (z : List ℕ) (size : ℕ) → answer ≡ counted o → z ≡ padded size (names_in o)
    → (answer ≡ (fill size (afterwards o (λ steps. read (record { count = length steps; bytes = flat steps })))).answer)
    × (z ≡ (fill size (afterwards o (λ steps. read (record { count = length steps; bytes = flat steps })))).buffer)
fill_is (read steps) answer z size p q = (p, q)
fill_is (refused_at n line) answer z size p q = (p, q)

no_names : (o : Reading (List Names)) (n line : ℕ) → refused_at n line ≡ counted o → names_in o ≡ []
no_names (read steps) n line e = absurd (let z : ◌≡◌ {A = ℕ} 0 1 = cc in omega arith)
no_names (refused_at m l) n line e = refl

module _ (agents : ℕ) (text buffer : List ℕ) where
  pub read_short : length buffer < sheet_size → (refused_at 10 0 ≡ (read_sheet agents text buffer).answer) × (buffer ≡ (read_sheet agents text buffer).buffer)
  unfolding read_sheet
  read_short h = simp (lt-leb sheet_size (length buffer) h) (refl, refl)

  module _ (z : List ℕ) (room : sheet_size ≤ length buffer) where
    pub read_agents : agents_allowed agents ≡ false → z ≡ replicate (length buffer) 0
        → (refused_at 4 0 ≡ (read_sheet agents text buffer).answer) × (z ≡ (read_sheet agents text buffer).buffer)
    unfolding read_sheet steps_in
    read_agents e ez = let n : length buffer - 0 ≡ length buffer = omega arith in simp (le-leb sheet_size (length buffer) room, e) (refl, rw n ez)

    pub read_lines : (answer : Reading ℕ) → agents_allowed agents ≡ true → answer ≡ counted (outcome agents text) → z ≡ padded (length buffer) (names_in (outcome agents text))
        → (answer ≡ (read_sheet agents text buffer).answer) × (z ≡ (read_sheet agents text buffer).buffer)
    unfolding read_sheet steps_in
    read_lines answer e ea ez = simp (le-leb sheet_size (length buffer) room, e) (fill_is (outcome agents text) answer z (length buffer) ea ez)

    pub read_refused : (n line : ℕ) → agents_allowed agents ≡ true → refused_at n line ≡ counted (outcome agents text) → z ≡ replicate (length buffer) 0
        → (refused_at n line ≡ (read_sheet agents text buffer).answer) × (z ≡ (read_sheet agents text buffer).buffer)
    read_refused n line e ea ez =
        let k : length buffer - 0 ≡ length buffer = omega arith in
        read_lines (refused_at n line) e ea (rw (no_names (outcome agents text) n line ea, k) ez)

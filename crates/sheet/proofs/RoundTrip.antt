-- There and back: what is written of the names that were read is the text that was read, and what is read of the lines that
-- were written is the sheet that was written.
use Prim.Native.Nat.{ℕ, zero, suc, ◌+◌, ◌-◌, ◌*◌, ◌/◌, ◌%◌, ◌≤◌, ◌<◌}
use native.Mathlib.Nat.{zero-add, suc-add, zero-mul, mul-mod_left, mul-div_cancel}
use native.Mathlib.Omega.{arith}
use mathlib.Core.Path.{◌≡◌, refl, sym, ap, ◌∙◌}
use mathlib.Core.Bool.{Bool, true, false}
use mathlib.Core.List.{List, [], ◌∷◌, ◌++◌, map, append-nil, append_assoc}
use lib.Dec.{eqb, leb, ltb}
use lib.ListN.{length, take, drop, replicate, length-append, length-map, length-drop, take-append-drop}
use lib.Seq.{take_at, drop_at, length-take-le, take-append-le, drop-append-le}
use borrow.Author.Tests.{ltb-true, leb-true, leb-false, eqb-true, eqb-false, lt-ltb, le-leb, eq-eqb}
use Rattle.bmap.specs.Plain.{flat}
use Rattle.bmap.specs.Limits.{most_agents, most_steps, sheet_size}
use Rattle.bmap.specs.Refusal.{Answer, got, refused, need, then, Reading, read, refused_at, at_line}
use Rattle.bmap.specs.Line.{Line, Frame, lines_of, decode, line_for}
use Rattle.bmap.specs.Domain.{Names}
use Rattle.bmap.specs.Buffer.{Filled, Written, over, padded, written}
use Rattle.bmap.specs.Sheet.{step_of, steps_from, steps_in, read_sheet, rows, sheet_of, step_line, write_sheet}
use Rattle.bmap.specs.Theorems.{SheetLinesReturn, SheetReturns}
use Rattle.line.proofs.Lists.{Bytes, bytes_are, bytes_take, bytes_drop}
use Rattle.line.proofs.Answers.{need_got, then_got_inv, at_line_read}
use Rattle.line.proofs.Lines.{no_lines}
use Rattle.line.proofs.HexLaws.{decode_line, lines_line, text_line}
use Rattle.sheet.specs.Step.{agents_allowed, outcome, lines_in}
use Rattle.sheet.proofs.Agents.{known_agents}
use Rattle.sheet.proofs.WriteLaws.{product_suc, whole_steps, written_is, write_agents, write_not_whole, write_too_long}

-- ---- rows

module _ {A : Type 0} where
  -- lists of one length: the steps of a sheet, each with a name for each agent; the states of a run
  pub data Rows (width : ℕ) : List (List A) → Type 0 where
    none : Rows width []
    more : {l : List A} {ls : List (List A)} → length l ≡ width → Rows width ls → Rows width (l ∷ ls)

  pub length_flat : (width : ℕ) {ls : List (List A)} → Rows width ls → length (flat ls) ≡ length ls * width
  unfolding flat
  length_flat width none = sym (zero-mul width)
  length_flat width (more {l} {ls} e r) = length-append l (flat ls) ∙ rw (e, length_flat width r) (sym (product_suc (length ls) width))

  -- whatever stands after them
  pub rows_front : (width : ℕ) {ls : List (List A)} (rest : List A) → Rows width ls → rows width (length ls) (flat ls ++ rest) ≡ ls
  unfolding flat rows
  rows_front width rest none = refl
  rows_front width rest (more {l} {ls} e r) =
      rw (append_assoc l (flat ls) rest, take_at l (flat ls ++ rest) width e, drop_at l (flat ls ++ rest) width e, rows_front width rest r)

  pub rows_flat : (width : ℕ) {ls : List (List A)} → Rows width ls → rows width (length ls) (flat ls) ≡ ls
  rows_flat width {ls} r = ap (rows width (length ls)) (sym (append-nil (flat ls))) ∙ rows_front width [] r

  -- and of a list as it stands
  pub flat_rows : (width n : ℕ) (s : List A) → length s ≡ n * width → flat (rows width n s) ≡ s
  unfolding flat rows
  flat_rows width zero [] e = refl
  flat_rows width zero (x ∷ s) e = absurd (omega (arith, zero-mul width))
  flat_rows width (suc n) s e =
      let m : suc n * width ≡ width + n * width = product_suc n width in
      rw (flat_rows width n (drop width s) (length-drop width s ∙ omega arith)) (take-append-drop width s)

  pub length_rows : (width n : ℕ) (s : List A) → length (rows width n s) ≡ n
  unfolding rows
  length_rows width zero s = refl
  length_rows width (suc n) s = ap suc (length_rows width n (drop width s))

module _ {A : Type 0} (w : ℕ) where
  -- rows are those of the numbers that they take, whatever stands after them
  pub rows_alike : (n : ℕ) (front x y : List A) → length front ≡ n * w → rows w n (front ++ x) ≡ rows w n (front ++ y)
  unfolding rows
  rows_alike zero front x y e = refl
  rows_alike (suc n) front x y e =
      let m : suc n * w ≡ w + n * w = product_suc n w in
      let g : w ≤ length front = omega arith in
      rw (take-append-le w front x g, take-append-le w front y g, drop-append-le w front x g, drop-append-le w front y g)
      (ap (λ (r : List (List A)). take w front ∷ r) (rows_alike n (drop w front) x y (length-drop w front ∙ omega arith)))

  -- and those after them
  pub rows_after : (n k : ℕ) (front x : List A) → length front ≡ n * w → rows w (n + k) (front ++ x) ≡ rows w n (front ++ x) ++ rows w k x
  unfolding rows
  rows_after zero k [] x e = ap (λ (i : ℕ). rows w i x) (zero-add k)
  rows_after zero k (a ∷ front) x e = absurd (omega (arith, zero-mul w))
  rows_after (suc n) k front x e =
      let m : suc n * w ≡ w + n * w = product_suc n w in
      let g : w ≤ length front = omega arith in
      ap (λ (i : ℕ). rows w i (front ++ x)) (suc-add n k)
      ∙ rw (drop-append-le w front x g) (ap (λ (r : List (List A)). take w (front ++ x) ∷ r) (rows_after n k (drop w front) x (length-drop w front ∙ omega arith)))

-- ---- the text that was read

-- what lines that are all accepted say: later steps, each a row, and the text is their lines
pub record There (agents : ℕ) (text : List ℕ) (done steps : List Names) : Type 0 where
  pub later : List Names
  pub all : steps ≡ done ++ later
  pub rows : Rows agents later
  pub text_is : text ≡ flat (map step_line later)
  pub few : length done ≤ most_steps → length steps ≤ most_steps

-- what a step says of its frame
step_is : (agents steps : ℕ) (f : Frame) (names : Names) → step_of agents steps f ≡ got names
    → (f ≡ record { kind = 0xB1; payload = names }) × (length names ≡ agents) × (steps < most_steps)
unfolding step_of
step_is agents steps f names e =
    let a = need_got (eqb f.kind 0xB1) 3 (need (ltb steps most_steps) 9 (need (eqb (length f.payload) agents) 8 (got f.payload))) names e in
    let b = need_got (ltb steps most_steps) 9 (need (eqb (length f.payload) agents) 8 (got f.payload)) names a.1 in
    let c = need_got (eqb (length f.payload) agents) 8 (got f.payload) names b.1 in
    let k : f.kind ≡ 0xB1 = eqb-true f.kind 0xB1 a.0 in
    let p : f.payload ≡ names = cc c.1 in
    (rw (← k, ← p) refl, rw (← p) (eqb-true (length f.payload) agents c.0), ltb-true steps most_steps b.0)

there : (agents : ℕ) (ls : List Line) (text : List ℕ) (done steps : List Names) → lines_of text ≡ ls → steps_from agents done (map decode ls) ≡ read steps → There agents text done steps
unfolding steps_from flat
there agents [] text done steps el e =
    let s : done ≡ steps = cc in
    record { later = []; all = sym s ∙ sym (append-nil done); rows = none; text_is = no_lines text el; few = λ h. rw (← s) h }
there agents (l ∷ ls) text done steps el e =
    let (names, en, ek) = at_line_read (suc (length done)) (then (decode l) (step_of agents (length done))) (λ names. steps_from agents (done ++ (names ∷ [])) (map decode ls)) steps e in
    let (f, ef, es) = then_got_inv (decode l) (step_of agents (length done)) names en in
    let (fr, size, room) = step_is agents (length done) f names es in
    let (r, et, er) = text_line text l ls f el ef in
    let t = there agents ls r (done ++ (names ∷ [])) steps (sym er) ek in
    record {
      later = names ∷ t.later;
      all = t.all ∙ append_assoc done (names ∷ []) t.later;
      rows = more size t.rows;
      text_is = et ∙ ap (λ (x : Frame). line_for x ++ r) fr ∙ ap (λ (x : List ℕ). step_line names ++ x) t.text_is;
      few = λ h. t.few (rw (length-append done (names ∷ [])) (omega arith));
    }

-- what a text whose steps are read says
stepped : (agents : ℕ) (text : List ℕ) (steps : List Names) → steps_in agents text ≡ read steps → (agents_allowed agents ≡ true) × (outcome agents text ≡ read steps)
unfolding steps_in
stepped agents text steps e = go (agents_allowed agents) refl
  where
    go : (b : Bool) → agents_allowed agents ≡ b → (agents_allowed agents ≡ true) × (outcome agents text ≡ read steps)
    go true q = (q, simp q at e)
    go false q = absurd (let h : refused_at 4 0 ≡ read steps = simp q at e in let z : ◌≡◌ {A = ℕ} 0 1 = cc in omega arith)

-- what is left of them
names_left : (agents : ℕ) (text buffer : List ℕ) (steps : List Names) → steps_in agents text ≡ read steps → sheet_size ≤ length buffer
    → read_sheet agents text buffer ≡ record { answer = read (length steps); buffer = padded (length buffer) (flat steps) }
unfolding read_sheet
names_left agents text buffer steps e h = simp (le-leb sheet_size (length buffer) h, e)

-- the lines of rows
written_rows : (agents : ℕ) (steps : List Names) (out : List ℕ) → agents_allowed agents ≡ true → Rows agents steps → length steps ≤ most_steps
    → write_sheet (flat steps) agents out ≡ written out (got (flat (map step_line steps)))
unfolding lines_in
written_rows agents steps out a r h =
    let l : length (flat steps) ≡ length steps * agents = length_flat agents r in
    let n : length (flat steps) / agents ≡ length steps = ap (λ (x : ℕ). x / agents) l ∙ mul-div_cancel (length steps) (known_agents agents a).0 in
    let m : length (flat steps) % agents ≡ 0 = ap (λ (x : ℕ). x % agents) l ∙ mul-mod_left (length steps) agents in
    written_is (flat steps) out agents a m (rw n h)
    ∙ rw (n, rows_flat agents r) refl

-- THEOREM. Where the reader accepts a text, the writer gives that text for the names that were left, into any text that has room,
-- and nothing after it is touched.
pub sheet_lines_return : SheetLinesReturn
sheet_lines_return agents lines buffer text steps e size room =
    let x = stepped agents lines steps e in
    let t = there agents (lines_of lines) lines [] steps refl x.1 in
    let r : Rows agents steps = rw t.all t.rows in
    let names : take (length steps * agents) (read_sheet agents lines buffer).buffer ≡ flat steps
    = ap (λ (f : Filled). take (length steps * agents) f.buffer) (names_left agents lines buffer steps e size)
    ∙ take_at (flat steps) (replicate (length buffer - length (flat steps)) 0) (length steps * agents) (length_flat agents r) in
    let same : flat (map step_line steps) ≡ lines = ap (λ (s : List Names). flat (map step_line s)) t.all ∙ sym t.text_is in
    rw names (written_rows agents steps text x.0 r (t.few (omega arith)) ∙ rw same (simp (le-leb (length lines) (length text) room)))

-- ---- the sheet that was written

-- the lines of a sheet's steps are read as those steps
back : (agents n : ℕ) (s : List ℕ) (done : List Names) → agents ≤ most_agents → length s ≡ n * agents → Bytes s → length done + n ≤ most_steps
    → steps_from agents done (map decode (lines_of (lines_in agents n s))) ≡ read (done ++ rows agents n s)
unfolding lines_in rows flat steps_from step_of
back agents zero s done k e h m = unfold lines_of in ap read (sym (append-nil done))
back agents (suc n) s done k e h m =
    let names = take agents s in
    let rest = drop agents s in
    let w : suc n * agents ≡ agents + n * agents = product_suc n agents in
    let l : length names ≡ agents = length-take-le agents s (omega arith) in
    let lr : length rest ≡ n * agents = length-drop agents s ∙ omega arith in
    let d = decode_line (record { kind = 0xB1; payload = names }) (omega arith) (bytes_take agents s h) (omega arith) in
    rw (lines_line (record { kind = 0xB1; payload = names }) (lines_in agents n rest), d)
    (simp (lt-ltb (length done) most_steps (omega arith), eq-eqb (length names) agents l)
    (back agents n rest (done ++ (names ∷ [])) k lr (bytes_drop agents s h) (rw (length-append done (names ∷ [])) (omega arith))
    ∙ ap read (append_assoc done (names ∷ []) (rows agents n rest))))

-- what a writer that wrote says
pub record Wrote (agents : ℕ) (sheet text : List ℕ) (n : ℕ) : Type 0 where
  pub allowed : agents_allowed agents ≡ true
  pub whole : length sheet % agents ≡ 0
  pub few : length sheet / agents ≤ most_steps
  pub size : n ≡ length (lines_in agents (length sheet / agents) sheet)
  pub left : (write_sheet sheet agents text).buffer ≡ over (lines_in agents (length sheet / agents) sheet) text

written_got : (text lines : List ℕ) (n : ℕ) → (written text (got lines)).answer ≡ got n → (n ≡ length lines) × ((written text (got lines)).buffer ≡ over lines text)
written_got text lines n e = go (leb (length lines) (length text)) refl
  where
    go : (b : Bool) → leb (length lines) (length text) ≡ b → (n ≡ length lines) × ((written text (got lines)).buffer ≡ over lines text)
    go true q = let h : got (length lines) ≡ got n = simp q at e in let k : n ≡ length lines = cc in (k, simp q)
    go false q = absurd (let h : refused 10 ≡ got n = simp q at e in let z : ◌≡◌ {A = ℕ} 0 1 = cc in omega arith)

wrote : (agents : ℕ) (sheet text : List ℕ) (n : ℕ) → (write_sheet sheet agents text).answer ≡ got n → Wrote agents sheet text n
wrote agents sheet text n e = go (agents_allowed agents) refl (eqb (length sheet % agents) 0) refl (leb (length sheet / agents) most_steps) refl
  where
    refuses : (m : ℕ) → (write_sheet sheet agents text).answer ≡ refused m → ⊥
    refuses m h = let k : got n ≡ refused m = sym e ∙ h in let z : ◌≡◌ {A = ℕ} 0 1 = cc in omega arith

    go : (p : Bool) → agents_allowed agents ≡ p → (q : Bool) → eqb (length sheet % agents) 0 ≡ q → (r : Bool) → leb (length sheet / agents) most_steps ≡ r → Wrote agents sheet text n
    go true p true q true r =
        let m = eqb-true (length sheet % agents) 0 q in
        let k = leb-true (length sheet / agents) most_steps r in
        let w = written_is sheet text agents p m k in
        let g = written_got text (lines_in agents (length sheet / agents) sheet) n (sym (ap (λ (x : Written). x.answer) w) ∙ e) in
        record { allowed = p; whole = m; few = k; size = g.0; left = ap (λ (x : Written). x.buffer) w ∙ g.1 }
    go true p true q false r = absurd (refuses 9 (sym (write_too_long sheet text agents p (eqb-true (length sheet % agents) 0 q) (leb-false (length sheet / agents) most_steps r)).0))
    go true p false q t r = absurd (refuses 8 (sym (write_not_whole sheet text agents p (eqb-false (length sheet % agents) 0 q)).0))
    go false p s q t r = absurd (refuses 4 (sym (write_agents sheet text agents p).0))

-- THEOREM. Where the writer writes a sheet of bytes, the reader takes what was written, into any buffer that is long enough, as that
-- many steps and the same bytes, zeros after.
pub sheet_returns : SheetReturns
unfolding steps_in
sheet_returns agents sheet text buffer n bytes e size =
    let w = wrote agents sheet text n e in
    let steps = length sheet / agents in
    let lines = lines_in agents steps sheet in
    let l : length sheet ≡ steps * agents = whole_steps sheet text agents w.whole in
    let t : take n (write_sheet sheet agents text).buffer ≡ lines = ap (take n) w.left ∙ take_at lines (drop (length lines) text) n (sym w.size) in
    let o : outcome agents lines ≡ read (rows agents steps sheet)
    = back agents steps sheet [] (known_agents agents w.allowed).1 l (bytes_are sheet bytes) (omega (arith, w.few)) in
    let s : steps_in agents lines ≡ read (rows agents steps sheet) = simp w.allowed o in
    rw t (names_left agents lines buffer (rows agents steps sheet) s size ∙ rw (length_rows agents steps sheet, flat_rows agents steps sheet l) refl)

-- ---- THE NAMES THAT THE READER LEAVES ARE THE SHEET THAT IT READ

pub record Kept (agents : ℕ) (text buffer : List ℕ) (n : ℕ) : Type 0 where
  pub steps : List Names
  pub goes : outcome agents text ≡ read steps
  pub sheet : sheet_of agents (take (n * agents) (read_sheet agents text buffer).buffer) ≡ got steps
  pub few : n ≤ most_steps

refused_left : (agents : ℕ) (text buffer : List ℕ) (m l : ℕ) → steps_in agents text ≡ refused_at m l → sheet_size ≤ length buffer
    → read_sheet agents text buffer ≡ record { answer = refused_at m l; buffer = padded (length buffer) [] }
unfolding read_sheet
refused_left agents text buffer m l e h = simp (le-leb sheet_size (length buffer) h, e)

-- rows, one after the other, are their steps
rows_sheet : (agents : ℕ) (steps : List Names) → agents_allowed agents ≡ true → Rows agents steps → length steps ≤ most_steps → sheet_of agents (flat steps) ≡ got steps
unfolding sheet_of
rows_sheet agents steps a r h =
    let l : length (flat steps) ≡ length steps * agents = length_flat agents r in
    let n : length (flat steps) / agents ≡ length steps = ap (λ (x : ℕ). x / agents) l ∙ mul-div_cancel (length steps) (known_agents agents a).0 in
    let m : length (flat steps) % agents ≡ 0 = ap (λ (x : ℕ). x % agents) l ∙ mul-mod_left (length steps) agents in
    simp (m, n, le-leb (length steps) most_steps h, rows_flat agents r)

pub kept : (agents : ℕ) (text buffer : List ℕ) (n : ℕ) → sheet_size ≤ length buffer → (read_sheet agents text buffer).answer ≡ read n → Kept agents text buffer n
kept agents text buffer n h e = by (steps_in agents text) refl
  where
    by : (r : Reading (List Names)) → steps_in agents text ≡ r → Kept agents text buffer n
    by (refused_at m l) r = absurd (let z : ◌≡◌ {A = ℕ} 0 1 = cc (ap (λ (f : Filled). f.answer) (refused_left agents text buffer m l r h)) in omega arith)
    by (read steps) r =
        let x = stepped agents text steps r in
        let t = there agents (lines_of text) text [] steps refl x.1 in
        let all : Rows agents steps = rw t.all t.rows in
        let left = names_left agents text buffer steps r h in
        let count : length steps ≡ n = cc (ap (λ (f : Filled). f.answer) left) in
        let names : take (n * agents) (read_sheet agents text buffer).buffer ≡ flat steps
        = ap (λ (f : Filled). take (n * agents) f.buffer) left
        ∙ take_at (flat steps) (replicate (length buffer - length (flat steps)) 0) (n * agents) (length_flat agents all ∙ ap (λ (k : ℕ). k * agents) count) in
        record {
          steps = steps;
          goes = x.1;
          sheet = ap (sheet_of agents) names ∙ rows_sheet agents steps x.0 all (t.few (omega arith));
          few = omega (arith, count, t.few (omega arith));
        }

-- ---- THE LINE OF A REFUSAL IS ONE OF THE TEXT'S

line_within : (agents : ℕ) (done : List Names) (frames : List (Answer Frame)) (n line : ℕ) → steps_from agents done frames ≡ refused_at n line → line ≤ length done + length frames
unfolding steps_from
line_within agents done [] n line e = absurd (let z : ◌≡◌ {A = ℕ} 0 1 = cc in omega arith)
line_within agents done (f ∷ frames) n line e = go (then f (step_of agents (length done))) e (λ names. line_within agents (done ++ (names ∷ [])) frames n line)
  where
    go : (y : Answer Names) → at_line (suc (length done)) y (λ names. steps_from agents (done ++ (names ∷ [])) frames) ≡ refused_at n line
        → ((names : Names) → steps_from agents (done ++ (names ∷ [])) frames ≡ refused_at n line → line ≤ length (done ++ (names ∷ [])) + length frames) → line ≤ length done + length (f ∷ frames)
    go (got names) q later = omega (arith, later names q, length-append done (names ∷ []))
    go (refused m) q later = let z : suc (length done) ≡ line = cc in omega arith

pub record Turned (agents : ℕ) (text : List ℕ) (n line : ℕ) : Type 0 where
  pub goes : agents_allowed agents ≡ true → outcome agents text ≡ refused_at n line
  pub within : line ≤ length (lines_of text)

pub turned : (agents : ℕ) (text buffer : List ℕ) (n line : ℕ) → sheet_size ≤ length buffer → (read_sheet agents text buffer).answer ≡ refused_at n line → Turned agents text n line
unfolding steps_in
turned agents text buffer n line h e = by (steps_in agents text) refl
  where
    allowed : (b : Bool) → agents_allowed agents ≡ b → steps_in agents text ≡ refused_at n line → Turned agents text n line
    allowed true q r =
        let o : outcome agents text ≡ refused_at n line = simp q at r in
        record { goes = λ _. o; within = omega (arith, line_within agents [] (map decode (lines_of text)) n line o, length-map (lines_of text) decode) }
    allowed false q r =
        let o : refused_at 4 0 ≡ refused_at n line = simp q at r in
        let z : 0 ≡ line = cc in
        record { goes = λ t. absurd (let f : false ≡ true = sym q ∙ t in let z : ◌≡◌ {A = ℕ} 0 1 = cc in omega arith); within = omega arith }

    by : (r : Reading (List Names)) → steps_in agents text ≡ r → Turned agents text n line
    by (refused_at m l) r =
        let same : ◌≡◌ {A = Reading ℕ} (refused_at m l) (refused_at n line) = sym (ap (λ (f : Filled). f.answer) (refused_left agents text buffer m l r h)) ∙ e in
        let k : m ≡ n = cc in
        let at : l ≡ line = cc in
        allowed (agents_allowed agents) refl (rw (← k, ← at) r)
    by (read steps) r = absurd (let z : ◌≡◌ {A = ℕ} 0 1 = cc (ap (λ (f : Filled). f.answer) (names_left agents text buffer steps r h)) in omega arith)

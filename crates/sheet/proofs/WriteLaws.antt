-- The steps of a sheet, one by one, to its lines.
use Prim.Native.Nat.{ℕ, zero, suc, ◌+◌, ◌-◌, ◌*◌, ◌/◌, ◌%◌, ◌≤◌, ◌<◌}
use native.Mathlib.Nat.{div-add-mod', not-suc-le-zero, zero-mul, suc-mul, add_comm, mul-le-mul}
use native.Mathlib.Omega.{arith}
use mathlib.Core.Path.{◌≡◌, refl, sym, ap, ◌∙◌}
use mathlib.Core.Bool.{true, false}
use mathlib.Core.List.{List, [], ◌++◌, append-nil, append_assoc}
use lib.ListN.{length, take, drop, length-drop, length-append, drop_of_length-le, take-append-drop}
use lib.Seq.{length-take-le, take_at, drop_at, drop-drop}
use borrow.Author.Tests.{le-leb, lt-leb, eq-eqb, ne_eqb}
use Rattle.bmap.specs.Plain.{flat}
use Rattle.bmap.specs.Limits.{most_agents, most_steps}
use Rattle.bmap.specs.Refusal.{got, refused}
use Rattle.bmap.specs.Line.{line_size}
use Rattle.bmap.specs.Buffer.{over, written}
use Rattle.bmap.specs.Sheet.{rows, sheet_of, step_line, write_sheet}
use Rattle.line.specs.Write.{line_written}
use Rattle.line.proofs.Lists.{part_to_end}
use Rattle.line.proofs.WriteLaws.{length_line, put_all}
use Rattle.sheet.specs.Step.{agents_allowed, lines_in}

-- ---- the lines

pub product_suc : (n w : ℕ) → suc n * w ≡ w + n * w
product_suc n w = suc-mul n w ∙ add_comm (n * w) w

pub product_less : (n w : ℕ) → 0 < n → n * w ≡ w + (n - 1) * w
product_less zero w h = absurd (not-suc-le-zero h)
product_less (suc n) w h = let e : suc n - 1 ≡ n = omega arith in rw e (product_suc n w)

pub lines_more : (agents n : ℕ) (s : List ℕ) → 0 < n → lines_in agents n s ≡ step_line (take agents s) ++ lines_in agents (n - 1) (drop agents s)
unfolding lines_in rows flat
lines_more agents zero s h = absurd (not-suc-le-zero h)
lines_more agents (suc n) s h = let e : suc n - 1 ≡ n = omega arith in rw e refl

pub length_lines : (agents n : ℕ) (s : List ℕ) → length s ≡ n * agents → length (lines_in agents n s) ≡ n * line_size agents
unfolding lines_in rows flat
length_lines agents zero s e = sym (zero-mul (line_size agents))
length_lines agents (suc n) s e =
    let m : suc n * agents ≡ agents + n * agents = product_suc n agents in
    let l : length (take agents s) ≡ agents = length-take-le agents s (omega arith) in
    let r : length (drop agents s) ≡ n * agents = length-drop agents s ∙ omega arith in
    length-append (step_line (take agents s)) (lines_in agents n (drop agents s))
    ∙ rw (length_line 0xB1 (take agents s), l, length_lines agents n (drop agents s) r) (sym (product_suc n (line_size agents)))

-- ---- the loop

-- the lines so far stand at the front of the text, and those of the steps left go on from them; nothing after is touched
pub record Put (agents steps : ℕ) (sheet text₀ text rest : List ℕ) (used : ℕ) : Type 0 where
  pub left : ℕ
  pub laid : lines_in agents steps sheet ≡ take used text ++ lines_in agents left rest
  pub kept : drop used text ≡ drop used text₀
  pub whole : length rest ≡ left * agents
  pub room : used + left * line_size agents ≤ length text

module _ (agents steps : ℕ) (sheet text₀ : List ℕ) where
  pub put_start : (rest : List ℕ) → rest ≡ sheet → length sheet ≡ steps * agents → steps * line_size agents ≤ length text₀ → Put agents steps sheet text₀ text₀ rest 0
  put_start rest s e h = record { left = steps; laid = rw s refl; kept = refl; whole = ap length s ∙ e; room = omega arith }

  module _ (text rest : List ℕ) (used : ℕ) (p : Put agents steps sheet text₀ text rest used) where
    pub put_end : length rest < agents → text ≡ over (lines_in agents steps sheet) text₀
    unfolding lines_in rows flat
    put_end h = go p.left p.laid p.whole p.room
      where
        go : (left : ℕ) → lines_in agents steps sheet ≡ take used text ++ lines_in agents left rest → length rest ≡ left * agents → used + left * line_size agents ≤ length text
            → text ≡ over (lines_in agents steps sheet) text₀
        go zero laid whole room =
            let l : lines_in agents steps sheet ≡ take used text = laid ∙ append-nil (take used text) in
            let u : length (take used text) ≡ used = length-take-le used text (omega arith) in
            rw (l, u, ← p.kept) (sym (take-append-drop used text))
        go (suc n) laid whole room = absurd (omega (arith, product_suc n agents))

    module _ (names next : List ℕ) (cut : rest ≡ names ++ next) (count : length names ≡ agents) (few : agents ≤ most_agents) (some : 0 < agents) where
      -- a step is left
      one : 0 < p.left
      one = go p.left p.whole
        where
          go : (left : ℕ) → length rest ≡ left * agents → 0 < left
          go zero w = absurd (omega (arith, ap length cut, length-append names next))
          go (suc n) w = omega arith

      -- and room for its line
      pub line_room : used + line_size agents ≤ length text
      line_room = omega (arith, p.room, product_less p.left (line_size agents) one)

      abbrev pub lent : List ℕ
      lent = take (length text - used) (drop used text)

      wrote : (got (2 * length names + 5) ≡ (line_written 0xB1 names lent).answer) × (over (step_line names) lent ≡ (line_written 0xB1 names lent).buffer)
      wrote = put_all 0xB1 names lent (omega arith) (rw (part_to_end text used, length-drop used text) (omega (arith, line_room)))

      pub line_put : (size : ℕ) → got size ≡ (line_written 0xB1 names lent).answer → size ≡ line_size agents
      line_put size e = let z : got size ≡ got (2 * length names + 5) = e ∙ sym wrote.0 in let y : size ≡ 2 * length names + 5 = cc in omega arith

      pub line_fits : (n : ℕ) → refused n ≡ (line_written 0xB1 names lent).answer → ⊥
      line_fits n e = let z : refused n ≡ got (2 * length names + 5) = e ∙ sym wrote.0 in let y : ◌≡◌ {A = ℕ} 0 1 = cc in omega arith

      pub put_more : (q : List ℕ) (size : ℕ) → size ≡ line_size agents → q ≡ (line_written 0xB1 names lent).buffer
          → Put agents steps sheet text₀ (take used text ++ (q ++ drop (length text - used) (drop used text))) next (used + size)
      put_more q size es eq =
          let line = step_line names in
          let a = take used text in
          let la : length a ≡ used = length-take-le used text (omega (arith, line_room)) in
          let ll : length line ≡ line_size agents = length_line 0xB1 names ∙ rw count refl in
          let front : take agents rest ≡ names = ap (take agents) cut ∙ take_at names next agents count in
          let after : drop agents rest ≡ next = ap (drop agents) cut ∙ drop_at names next agents count in
          let more : lines_in agents p.left rest ≡ line ++ lines_in agents (p.left - 1) next = rw (lines_more agents p.left rest one, front, after) refl in
          let none : drop (length text - used) (drop used text) ≡ [] = drop_of_length-le (drop used text) {i = length text - used} (simp length-drop (omega arith)) in
          let q_is : q ≡ line ++ drop (line_size agents) (drop used text) = eq ∙ sym wrote.1 ∙ rw (part_to_end text used, ll) refl in
          let split : a ++ (q ++ drop (length text - used) (drop used text)) ≡ (a ++ line) ++ drop (line_size agents) (drop used text)
          = rw (none, append-nil, q_is) (sym (append_assoc a line (drop (line_size agents) (drop used text)))) in
          let lal : length (a ++ line) ≡ used + size = length-append a line ∙ omega arith in
          let n : used + line_size agents ≡ used + size = omega arith in
          let tail = drop (line_size agents) (drop used text) in
          let lt : length tail ≡ length text - used - line_size agents = length-drop (line_size agents) (drop used text) ∙ ap (λ (x : ℕ). x - line_size agents) (length-drop used text) in
          record {
            left = p.left - 1;
            laid =
                p.laid
                ∙ ap (λ (x : List ℕ). a ++ x) more
                ∙ sym (append_assoc a line (lines_in agents (p.left - 1) next))
                ∙ rw (split, take_at (a ++ line) tail (used + size) lal) refl;
            kept =
                rw split
                (drop_at (a ++ line) tail (used + size) lal
                ∙ ap (drop (line_size agents)) p.kept
                ∙ drop-drop (line_size agents) used text₀
                ∙ ap (λ (x : ℕ). drop x text₀) n);
            whole = sym (ap length after) ∙ length-drop agents rest ∙ omega (arith, p.whole, product_less p.left agents one);
            room = rw (split, length-append (a ++ line) tail) (omega (arith, p.room, product_less p.left (line_size agents) one));
          }

-- ---- the whole

pub total_most : (steps agents size : ℕ) → size ≡ line_size agents → steps ≤ most_steps → agents ≤ most_agents → steps * size ≤ most_steps * line_size most_agents
total_most steps agents size e h k = let l : size ≤ line_size most_agents = omega arith in mul-le-mul h l

module _ (sheet text : List ℕ) (agents : ℕ) where
  pub write_agents : agents_allowed agents ≡ false → (refused 4 ≡ (write_sheet sheet agents text).answer) × (text ≡ (write_sheet sheet agents text).buffer)
  unfolding write_sheet
  write_agents e = simp e (refl, refl)

  pub write_not_whole : agents_allowed agents ≡ true → (length sheet % agents ≡ 0 → ⊥) → (refused 8 ≡ (write_sheet sheet agents text).answer) × (text ≡ (write_sheet sheet agents text).buffer)
  unfolding write_sheet sheet_of
  write_not_whole e h = simp (e, ne_eqb (length sheet % agents) 0 h) (refl, refl)

  pub write_too_long : agents_allowed agents ≡ true → length sheet % agents ≡ 0 → most_steps < length sheet / agents
      → (refused 9 ≡ (write_sheet sheet agents text).answer) × (text ≡ (write_sheet sheet agents text).buffer)
  unfolding write_sheet sheet_of
  write_too_long e h k = simp (e, eq-eqb (length sheet % agents) 0 h, lt-leb (length sheet / agents) most_steps k) (refl, refl)

  -- whole steps
  pub whole_steps : length sheet % agents ≡ 0 → length sheet ≡ length sheet / agents * agents
  whole_steps h = omega (arith, div-add-mod' (length sheet) agents)

  pub written_is : agents_allowed agents ≡ true → length sheet % agents ≡ 0 → length sheet / agents ≤ most_steps
      → write_sheet sheet agents text ≡ written text (got (lines_in agents (length sheet / agents) sheet))
  unfolding write_sheet sheet_of lines_in
  written_is e h k = simp (e, eq-eqb (length sheet % agents) 0 h, le-leb (length sheet / agents) most_steps k)

  module _ (size : ℕ) (es : size ≡ line_size agents) (e : agents_allowed agents ≡ true) (h : length sheet % agents ≡ 0) (k : length sheet / agents ≤ most_steps) where
    all_lines : length (lines_in agents (length sheet / agents) sheet) ≡ length sheet / agents * size
    all_lines = length_lines agents (length sheet / agents) sheet (whole_steps h) ∙ ap (λ (x : ℕ). length sheet / agents * x) (sym es)

    pub write_no_room : length text < length sheet / agents * size → (refused 10 ≡ (write_sheet sheet agents text).answer) × (text ≡ (write_sheet sheet agents text).buffer)
    write_no_room r = rw (written_is e h k) (simp (all_lines, lt-leb (length sheet / agents * size) (length text) r) (refl, refl))

    pub write_done : (exit : List ℕ) → length sheet / agents * size ≤ length text → exit ≡ over (lines_in agents (length sheet / agents) sheet) text
        → (got (length sheet / agents * size) ≡ (write_sheet sheet agents text).answer) × (exit ≡ (write_sheet sheet agents text).buffer)
    write_done exit r ex = rw (written_is e h k) (simp (all_lines, le-leb (length sheet / agents * size) (length text) r) (refl, ex ∙ rw all_lines refl))

-- The text of a sheet is no longer than the limits allow.
use Prim.Native.Nat.{ℕ, ◌/◌, ◌%◌, ◌≤◌}
use native.Mathlib.Omega.{arith}
use mathlib.Core.Path.{◌≡◌, refl, sym, ap, ◌∙◌}
use mathlib.Core.Bool.{Bool, true, false}
use mathlib.Core.List.{List, [], map}
use mathlib.Core.Logic.{◌⊎◌, inl, inr}
use lib.Dec.{eqb, leb}
use lib.ListN.{length}
use borrow.Author.Tests.{eqb-true, eqb-false, leb-true, leb-false, le-leb}
use Rattle.bmap.specs.Plain.{flat}
use Rattle.bmap.specs.Limits.{most_steps}
use Rattle.bmap.specs.Refusal.{Answer, got, refused, need}
use Rattle.bmap.specs.Line.{line_size}
use Rattle.bmap.specs.Domain.{Names}
use Rattle.bmap.specs.Buffer.{Written}
use Rattle.bmap.specs.Sheet.{agents_known, rows, sheet_of, step_line, write_sheet}
use Rattle.bmap.specs.Theorems.{longest_sheet, SheetTextFits}
use Rattle.line.proofs.Answers.{need_got}
use Rattle.sheet.specs.Step.{agents_allowed, lines_in}
use Rattle.sheet.proofs.Agents.{known_agents}
use Rattle.sheet.proofs.WriteLaws.{length_lines, total_most, whole_steps, written_is, write_agents, write_not_whole, write_too_long}

module _ (agents : ℕ) (sheet : List ℕ) where
  -- whole steps, no more than a sheet may have
  lines_most : agents_allowed agents ≡ true → length sheet % agents ≡ 0 → length sheet / agents ≤ most_steps
      → length (lines_in agents (length sheet / agents) sheet) ≤ longest_sheet
  lines_most a w h =
      rw (length_lines agents (length sheet / agents) sheet (whole_steps sheet [] agents w))
      (total_most (length sheet / agents) agents (line_size agents) refl h (known_agents agents a).1)

  text_most : (steps : List Names) → agents_known agents (sheet_of agents sheet) ≡ got steps → length (flat (map step_line steps)) ≤ longest_sheet
  unfolding sheet_of lines_in
  text_most steps e =
      let n = length sheet / agents in
      let all : Answer (List Names) = got (rows agents n sheet) in
      let a = need_got (agents_allowed agents) 4 (sheet_of agents sheet) steps e in
      let w = need_got (eqb (length sheet % agents) 0) 8 (need (leb n most_steps) 9 all) steps a.1 in
      let h = need_got (leb n most_steps) 9 all steps w.1 in
      let same : rows agents n sheet ≡ steps = cc h.1 in
      rw (← same) (lines_most a.0 (eqb-true (length sheet % agents) 0 w.0) (leb-true n most_steps h.0))

  text_fits : (text : List ℕ) (n : ℕ) → longest_sheet ≤ length text → (write_sheet sheet agents text).answer ≡ refused n → (n ≡ 4) ⊎ (n ≡ 8) ⊎ (n ≡ 9)
  text_fits text n room e = go (agents_allowed agents) refl (eqb (length sheet % agents) 0) refl (leb (length sheet / agents) most_steps) refl
    where
      number : (m : ℕ) → refused m ≡ (write_sheet sheet agents text).answer → n ≡ m
      number m h = let k : refused n ≡ refused m = sym (h ∙ e) in cc

      go : (p : Bool) → agents_allowed agents ≡ p → (q : Bool) → eqb (length sheet % agents) 0 ≡ q → (r : Bool) → leb (length sheet / agents) most_steps ≡ r
          → (n ≡ 4) ⊎ (n ≡ 8) ⊎ (n ≡ 9)
      go true p true q true r =
          let m = eqb-true (length sheet % agents) 0 q in
          let k = leb-true (length sheet / agents) most_steps r in
          let l = length (lines_in agents (length sheet / agents) sheet) in
          let w : (write_sheet sheet agents text).answer ≡ got l
          = ap (λ (x : Written). x.answer) (written_is sheet text agents p m k) ∙ simp (le-leb l (length text) (omega (arith, lines_most p m k))) in
          let d : got l ≡ refused n = sym w ∙ e in
          absurd (let z : ◌≡◌ {A = ℕ} 0 1 = cc in omega arith)
      go true p true q false r =
          inr (inr (number 9 (write_too_long sheet text agents p (eqb-true (length sheet % agents) 0 q) (leb-false (length sheet / agents) most_steps r)).0))
      go true p false q t r = inr (inl (number 8 (write_not_whole sheet text agents p (eqb-false (length sheet % agents) 0 q)).0))
      go false p s q t r = inl (number 4 (write_agents sheet text agents p).0)

-- THEOREM. No text of a sheet is longer than `longest_sheet`, and a buffer of that length is never refused by 10.
pub sheet_text_fits : SheetTextFits
sheet_text_fits = record { most = text_most; room = text_fits }

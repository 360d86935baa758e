-- What the verdict of a session returns is what its promise says: the judge's, of the bytes of its sheet.
-- Assumes nothing.
use mathlib.Core.Path.{◌≡◌, refl, sym, ap, ◌∙◌}
use mathlib.Core.Bool.{true, false}
use mathlib.Core.List.{List, [], append-nil}
use Prim.Native.Nat.{ℕ, ◌*◌, ◌/◌, ◌%◌, ◌≤◌}
use native.Mathlib.Nat.{mul-div_cancel, mod-eq-sub-div-mul}
use native.Mathlib.Omega.{arith}
use lib.IntN.{ℤ}
use lib.ListN.{length, take}
use lib.Seq.{take_at}
use borrow.Author.Tests.{eq-eqb, ne_eqb, le-leb}
use Rattle.bmap.specs.Plain.{flat}
use lib.Dec.{eqb, leb}
use native.Mathlib.Decide.{ℕ_discrete}
use Rattle.bmap.specs.Refusal.{Answer, got, refused, need, then}
use Rattle.bmap.specs.Domain.{Domain, Names}
use Rattle.bmap.specs.Store.{domain_in}
use Rattle.bmap.specs.Sheet.{rows, sheet_of as steps_of}
use Rattle.bmap.specs.Judge.{judge}
use Rattle.bmap.specs.Verdict.{judgement}
use Rattle.bmap.specs.Session.{standing_sheet, standing_judged, verdict, model_of, is_open, verdict_of}
use Rattle.bmap.specs.declared.session.Session.{Session}
use Rattle.judge.specs.Answer.{states_in, sheet_judged_for, judge_for, states_written_for}
use Rattle.session.specs.Verdict.{states_written}
use Rattle.session.proofs.SheetLaws.{Fits, length_flat, page_room, rows_of}
use Rattle.session.proofs.ReplayLaws.{reached_length}
use Rattle.session.proofs.OpenLaws.{agents_kept}
use Rattle.session.proofs.CallLaws.{open_is, reached, standing_sheet_lem, steps_are, names_are, sheet_fits, sheet_is}

-- whole steps, end to end, are those steps
pub steps_back : (n : ℕ) (ss : List Names) → 1 ≤ n → Fits n ss → steps_of n (flat ss) ≡ got ss
unfolding steps_of
steps_back n ss h f =
    let l : length (flat ss) ≡ length ss * n = length_flat n ss f.0 in
    let d : length (flat ss) / n ≡ length ss = ap (λ (i : ℕ). i / n) l ∙ mul-div_cancel (length ss) h in
    let r : length (flat ss) % n ≡ 0 = mod-eq-sub-div-mul (length (flat ss)) n ∙ omega (arith, ap (λ (i : ℕ). i * n) d) in
    let b : rows n (length ss) (flat ss) ≡ ss = ap (rows n (length ss)) (sym (append-nil (flat ss))) ∙ rows_of n ss [] f.0 in
    rw (eq-eqb (length (flat ss) % n) 0 r, d, le-leb (length ss) 64 f.1) (ap got b)

-- ---- the bytes of an open session's steps
module _ (s : Session) (h : is_open s ≡ true) where
  steps_length : length (flat (standing_sheet_lem s h)) ≡ s.sheet.steps * s.agents
  steps_length = length_flat s.agents (standing_sheet_lem s h) (sheet_fits s h).0 ∙ ap (λ (i : ℕ). i * s.agents) (sym (steps_are s h))

  sheet_bytes : take (s.sheet.steps * s.agents) s.sheet.names ≡ flat (standing_sheet_lem s h)
  sheet_bytes = ap (take (s.sheet.steps * s.agents)) (names_are s h) ∙ take_at (flat (standing_sheet_lem s h)) _ (s.sheet.steps * s.agents) steps_length

  pub bytes_room : s.sheet.steps * s.agents ≤ 1024
  bytes_room = page_room s.sheet.steps s.agents (omega (arith, steps_are s h, (sheet_fits s h).1)) (open_is s h).few

  pub bytes_within : s.sheet.steps * s.agents ≤ length s.sheet.names
  bytes_within = omega (arith, bytes_room, reached_length s.agents s.standing s.log s.sheet (open_is s h).few (reached s h))

module _ (s : Session) (store : List ℕ) (levels : List ℤ) (h : is_open s ≡ false) where
  pub verdict_17 : record { answer = refused 17; levels = levels } ≡ verdict_of s store levels
  unfolding verdict_of
  verdict_17 = sym (rw h)

  pub none_written : 0 ≡ states_written s store levels
  unfolding states_written
  none_written = sym (rw h)

-- "10, 15, 16", then the bytes of its steps, judged
module _ (s : Session) (store : List ℕ) (levels : List ℤ) (h : is_open s ≡ true) where
  abbrev bytes : List ℕ
  bytes = take (s.sheet.steps * s.agents) s.sheet.names

  steps_read : (d : Domain) → d.agents ≡ s.agents → steps_of d.agents bytes ≡ got (standing_sheet_lem s h)
  steps_read d f =
      ap (λ (n : ℕ). steps_of n bytes) f
      ∙ ap (steps_of s.agents) (sheet_bytes s h)
      ∙ steps_back s.agents (standing_sheet_lem s h) (open_is s h).some (sheet_fits s h)

  judged_by_lem : (a : Answer Domain) → then a (λ d. need (eqb d.agents s.agents) 16 (then (steps_of d.agents bytes) (λ steps. got (judge d steps)))) ≡ then a (λ d. need (eqb d.agents (model_of s).agents) 16 (got (judge d (standing_sheet (model_of s)))))
  judged_by_lem (refused n) = refl
  judged_by_lem (got d) = elim (ℕ_discrete d.agents s.agents) [
    | yes f ↦ rw (eq-eqb d.agents (model_of s).agents (f ∙ sym (agents_kept s)), eq-eqb d.agents s.agents f, steps_read d f) (ap (λ (x : List Names). got (judge d x)) (sym (sheet_is s h)))
    | no n ↦ rw (ne_eqb d.agents (model_of s).agents (λ e. n (e ∙ agents_kept s)), ne_eqb d.agents s.agents n)
  ]

  same_judged : sheet_judged_for s.agents store bytes levels ≡ standing_judged (model_of s) store levels
  same_judged = ap (need (leb 2080 (length levels)) 10) (judged_by_lem (domain_in store))

  pub verdict_judged : judge_for s.agents store bytes levels ≡ verdict_of s store levels
  unfolding verdict_of verdict judge_for
  verdict_judged = ap (judgement levels) same_judged ∙ sym (rw h)

  pub states_judged : states_written_for s.agents store bytes levels ≡ states_written s store levels
  unfolding states_written states_written_for
  states_judged = ap states_in same_judged ∙ sym (rw h)

pub ruleset verdict_as = (bytes_room, bytes_within, verdict_17, none_written, verdict_judged, states_judged)

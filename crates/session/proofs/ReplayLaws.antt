-- The replay's loop: what is reached at one entry is reached at the next, or no further.
-- Assumes nothing.
use mathlib.Core.Path.{◌≡◌, refl, sym, ap, ◌∙◌}
use mathlib.Core.List.{List}
use Prim.Native.Nat.{ℕ, ◌+◌, ◌-◌, ◌*◌, ◌<◌, ◌≤◌}
use native.Mathlib.Omega.{arith}
use lib.ListN.{length, take, drop, length-drop, replicate}
use lib.Seq.{length-take-le}
use Rattle.bmap.specs.Plain.{flat}
use Rattle.bmap.specs.Domain.{Names}
use Rattle.bmap.specs.Session.{Edit, edited, logged}
use Rattle.std.specs.Prelude.{Option, None, Some}
use Rattle.bmap.specs.declared.limits.Sheet.{Sheet}
use Rattle.session.specs.declared.log.Place.{Place}
use Rattle.session.specs.Log.{laid, target_of, Sound, Reached}
use Rattle.session.proofs.SheetLaws.{Fits, room, page_room, length_flat}
use Rattle.session.proofs.ListLaws.{length_padded}
use Rattle.session.proofs.LogLaws.{take_short, edit_at, entry_edit, sound_none, sound_fits, sound_more, sound_prefix, sound_entry, sound_does}
use Rattle.session.proofs.TurnLaws.{Turned, turned, stuck}

-- nothing is done, and the sheet is empty
pub reached_none : (n : ℕ) (log : List ℕ) → Reached n 0 log (record { steps = 0; names = replicate 1024 0 })
unfolding flat
reached_none n log = record { sound = sound_none n log; holds = record { count = refl; bytes = refl } }

-- a sheet's bytes are as many as its buffer's
pub reached_length : (n k : ℕ) (log : List ℕ) (sheet : Sheet) → n ≤ 16 → Reached n k log sheet → length sheet.names ≡ 1024
reached_length n k log sheet few a =
    let f = sound_fits n log k a.sound in
    let s : List Names = a.sound.sheet in
    let m : length s * n ≤ 1024 = page_room (length s) n f.1 few in
    ap length a.holds.bytes ∙ length_padded 1024 (flat s) (omega (arith, length_flat n s f.0))

module _ (n k : ℕ) (log : List ℕ) (sheet : Sheet) (a : Reached n k log sheet) (few : n ≤ 16) (h : k * 18 + 18 ≤ length log) where
  -- the entry as the code lends it
  abbrev entry : List ℕ
  entry = take (k * 18 + 18 - k * 18) (drop (k * 18) log)

  entry_is : entry ≡ take 18 (drop (k * 18) log)
  entry_is = let e : k * 18 + 18 - k * 18 ≡ 18 = omega arith in rw e

  pub entry_length : length entry ≡ 18
  entry_length = ap length entry_is ∙ length-take-le 18 (drop (k * 18) log) (omega (arith, length-drop (k * 18) log))

  edit_is : edit_at n entry ≡ edit_at n (drop (k * 18) log)
  edit_is = ap (edit_at n) entry_is ∙ entry_edit n (drop (k * 18) log) few

  abbrev s : List Names
  s = a.sound.sheet

  fits : Fits n s
  fits = sound_fits n log k a.sound

  module _ (place : Option Place) (e : place ≡ target_of n entry sheet.steps) where
    goes : place ≡ target_of n entry (length s)
    goes = e ∙ ap (target_of n entry) a.holds.count

    pub stays : place ≡ None → (to : ℕ) → k < to → Sound n to log → ⊥
    stays z to l b =
        let c : Sound n (k + 1) log = sound_prefix n log few (k + 1) to (omega arith) b in
        stuck n entry s c.sheet few entry_length fits (sym goes ∙ z)
        (entry_is ∙ sound_entry n log few k c ∙ ap logged (sym edit_is))
        (ap (λ (x : Edit). edited n x s) edit_is ∙ sound_does n log few k a.sound c)

    module _ (spot : Place) (z : place ≡ Some spot) where
      turn : Turned n entry s spot
      turn = turned n entry s spot few entry_length fits (sym goes ∙ z)

      pub has_room : spot.step * n + length (take (2 + n - 2) (drop 2 entry)) ≤ length sheet.names
      has_room = omega (arith, room spot.step n turn.low few, reached_length n k log sheet few a, take_short (2 + n - 2) (drop 2 entry))

      pub moves : (out : List ℕ) → out ≡ laid sheet.names (spot.step * n) (take (2 + n - 2) (drop 2 entry)) → Reached n (k + 1) log (record { steps = spot.steps; names = out })
      moves out o =
          let w : 2 + n - 2 ≡ n = omega arith in
          let t = turn in
          record {
            sound = sound_more n log k a.sound t.sheet (sym entry_is ∙ t.written ∙ ap logged edit_is) (ap (λ (x : Edit). edited n x s) (sym edit_is) ∙ t.does);
            holds = record { count = t.count; bytes = o ∙ ap (λ (i : ℕ). laid sheet.names (spot.step * n) (take i (drop 2 entry))) w ∙ ap (λ (x : List ℕ). laid x (spot.step * n) (take n (drop 2 entry))) a.holds.bytes ∙ t.bytes };
          }

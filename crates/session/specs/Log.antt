-- What the functions over the log's bytes say of them.
use Rattle.std.specs.Prelude.{ℕ, ◌+◌, ◌-◌, ◌*◌, ◌≡◌, List, [], eqb, leb, ltb, length, get_or, take, drop, Bool, Option, None, Some}
use Rattle.std.proofs.Math.Seq.{paste}
use Rattle.bmap.specs.Plain.{both, if_else, flat}
use Rattle.bmap.specs.Limits.{most_steps, sheet_size}
use Rattle.bmap.specs.Refusal.{got}
use Rattle.bmap.specs.Domain.{Names}
use Rattle.bmap.specs.Buffer.{padded}
use Rattle.bmap.specs.Store.{zeros}
use Rattle.bmap.specs.Session.{edit_size, edits_from, logged_all, replayed}
use Rattle.bmap.specs.declared.limits.Sheet.{Sheet}
use Rattle.session.specs.declared.log.Place.{Place}

-- ys laid over xs from a place on
abbrev pub laid : List ℕ → ℕ → List ℕ → List ℕ
laid xs at ys = paste xs at ys (length ys)

-- a place, where an edit can be done
abbrev pub place_if : Bool → ℕ → ℕ → Option Place
place_if test step steps = if_else test (Some (record { step = step; steps = steps })) None

-- an edit lays its names at one step: enter after the last, strike at the last (zeros), amend at its own
unfoldable pub place_of : ℕ → ℕ → ℕ → Option Place
place_of kind number steps =
    if_else (eqb kind 1) (place_if (both (eqb number 0) (ltb steps most_steps)) steps (steps + 1))
    (if_else (eqb kind 2) (place_if (both (eqb number 0) (ltb 0 steps)) (steps - 1) (steps - 1))
    (if_else (eqb kind 3) (place_if (both (ltb 0 number) (leb number steps)) (number - 1) steps) None))

-- where an entry's names end: a strike has none
abbrev pub names_end : ℕ → ℕ → ℕ
names_end agents kind = if_else (eqb kind 2) 2 (2 + agents)

-- an entry's place, where zeros follow its names
unfoldable pub target_of : ℕ → List ℕ → ℕ → Option Place
target_of agents entry steps =
    if_else (zeros (drop (names_end agents (get_or entry 0 0)) entry)) (place_of (get_or entry 0 0) (get_or entry 1 0) steps) None

-- the first k entries of a log are written as edits are, and done in turn they leave a sheet
pub record Sound (agents k : ℕ) (log : List ℕ) : Type 0 where
  pub sheet : List Names
  pub written : take (k * edit_size) log ≡ logged_all (edits_from agents k log)
  pub leaves : replayed agents (edits_from agents k log) [] ≡ got sheet

-- the bytes of a sheet
pub record Holds (steps : List Names) (sheet : Sheet) : Type 0 where
  pub count : sheet.steps ≡ length steps
  pub bytes : sheet.names ≡ padded sheet_size (flat steps)

pub record Reached (agents k : ℕ) (log : List ℕ) (sheet : Sheet) : Type 0 where
  pub sound : Sound agents k log
  pub holds : Holds sound.sheet sheet

-- the sheet that the first k entries leave, or that one of them is no edit that could be done
abbrev pub RunTo : ℕ → ℕ → List ℕ → Option Sheet → Type 0
RunTo agents k log None = Sound agents k log → ⊥
RunTo agents k log (Some sheet) = Reached agents k log sheet

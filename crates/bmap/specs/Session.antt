-- The editing session: its model, its calls, and the bytes that hold it.
use Rattle.std.specs.Prelude.{ℕ, zero, suc, ◌+◌, ◌-◌, ◌*◌, ◌≡◌, Bool, true, false, List, [], ◌∷◌, ◌++◌, eqb, leb, ltb, ℤ, length, get_or, take, drop, set}
use Rattle.bmap.specs.Plain.{both, if_else, flat}
use Rattle.bmap.specs.Limits.{most_agents, most_steps, most_edits, sheet_size, levels_size}
use Rattle.bmap.specs.Refusal.{Answer, got, refused, need, then, is_got, or_else}
use Rattle.bmap.specs.Domain.{Domain, Names}
use Rattle.bmap.specs.Buffer.{padded}
use Rattle.bmap.specs.Store.{domain_in}
use Rattle.bmap.specs.Judge.{Judged, judge}
use Rattle.bmap.specs.Verdict.{Judgement, judgement}
use Rattle.bmap.specs.declared.session.Session.{Session}

-- ---- edits of a sheet

-- "Enter, strike and amend are the edits"
pub data Edit : Type 0 where
  enter : Names → Edit
  strike : Edit
  amend : ℕ → Names → Edit

-- 8: "step not one byte per agent"
abbrev pub whole : {A : Type 0} → ℕ → Names → Answer A → Answer A
whole agents names r = need (eqb (length names) agents) 8 r

-- "Steps are numbered from 1". Enter: "8, 9"; strike: "11"; amend: "8, 11"
unfoldable pub edited : ℕ → Edit → List Names → Answer (List Names)
edited agents (enter names) sheet = whole agents names (need (ltb (length sheet) most_steps) 9 (got (sheet ++ (names ∷ []))))
edited agents strike sheet = need (ltb 0 (length sheet)) 11 (got (take (length sheet - 1) sheet))
edited agents (amend k names) sheet =
    whole agents names (need (both (leb 1 k) (leb k (length sheet))) 11 (got (set sheet (k - 1) names)))

-- the edits done in order
unfoldable pub replayed : ℕ → List Edit → List Names → Answer (List Names)
replayed agents [] sheet = got sheet
replayed agents (e ∷ edits) sheet = then (edited agents e sheet) (replayed agents edits)

-- ---- the model

-- "It holds the number of agents, a sheet of at most 64 steps and the log": the edits that stand, in order, and those undone,
-- the one most recently undone first
pub record Model : Type 0 where
  pub agents : ℕ
  pub standing : List Edit
  pub undone : List Edit

-- what an empty sheet becomes when the standing edits are done in order
unfoldable pub standing_sheet : Model → List Names
standing_sheet m = or_else [] (replayed m.agents m.standing [])

-- "Opening takes the number from a domain and empties sheet and log"
abbrev pub opened : Domain → Model
opened d = record { agents = d.agents; standing = []; undone = [] }

-- an edit is tried on the sheet as it stands, and the model keeps the edit: the sheet is always the replay. It drops the undone
-- ones: "Dropped edits give their log room back". "Amending a step to itself is an edit". 14: "200 edits stand"
unfoldable pub edit : Edit → Model → Answer Model
edit e m =
    need (ltb (length m.standing) most_edits) 14
    (then (edited m.agents e (standing_sheet m)) (λ _.
    got (record { agents = m.agents; standing = m.standing ++ (e ∷ []); undone = [] })))

-- the same edits, of which the first k stand
abbrev pub moved : Model → ℕ → Model
moved m k = record { agents = m.agents; standing = take k (m.standing ++ m.undone); undone = drop k (m.standing ++ m.undone) }

-- "Undo withdraws the newest standing edit". 12: "undo with no standing edit"
unfoldable pub undo : Model → Answer Model
undo m = need (ltb 0 (length m.standing)) 12 (got (moved m (length m.standing - 1)))

-- "redo brings back the edit most recently undone". 13: "redo with no undone edit"
unfoldable pub redo : Model → Answer Model
redo m = need (ltb 0 (length m.undone)) 13 (got (moved m (length m.standing + 1)))

-- "Verdict of a session: 17, 10, 15, 16": 16 is "domain's number of agents differs from the session's"
abbrev pub standing_judged : Model → List ℕ → List ℤ → Answer Judged
standing_judged m store levels =
    need (leb levels_size (length levels)) 10
    (then (domain_in store) (λ d.
    need (eqb d.agents m.agents) 16 (got (judge d (standing_sheet m)))))

unfoldable pub verdict : Model → List ℕ → List ℤ → Judgement
verdict m store levels = judgement levels (standing_judged m store levels)

-- ---- series of calls

pub data Call : Type 0 where
  editing : Edit → Call
  undoing redoing : Call
  judging : List ℕ → List ℤ → Call

pub data Reply : Type 0 where
  done : Answer (Unit {0}) → Reply
  judged : Judgement → Reply

pub record Turn : Type 0 where
  pub reply : Reply
  pub model : Model

-- "edits, undo and redo keep the session" where they refuse
abbrev pub turned : Model → Answer Model → Turn
turned m (got m') = record { reply = done (got tt); model = m' }
turned m (refused n) = record { reply = done (refused n); model = m }

unfoldable pub turn : Call → Model → Turn
turn (editing e) m = turned m (edit e m)
turn undoing m = turned m (undo m)
turn redoing m = turned m (redo m)
turn (judging store levels) m = record { reply = judged (verdict m store levels); model = m }

unfoldable pub after : List Call → Model → Model
after [] m = m
after (c ∷ calls) m = after calls (turn c m).model

unfoldable pub replies : List Call → Model → List Reply
replies [] m = []
replies (c ∷ calls) m = (turn c m).reply ∷ replies calls (turn c m).model

-- ---- the bytes that hold a model

-- an edit's kind, its step's number, and a name for each of the most agents, zeros after
unfoldable pub logged : Edit → List ℕ
logged (enter names) = 1 ∷ 0 ∷ padded most_agents names
logged strike = 2 ∷ 0 ∷ padded most_agents []
logged (amend k names) = 3 ∷ k ∷ padded most_agents names

abbrev pub edit_size : ℕ
edit_size = most_agents + 2

unfoldable pub logged_all : List Edit → List ℕ
logged_all [] = []
logged_all (e ∷ edits) = logged e ++ logged_all edits

-- "Unused bytes are zero"
unfoldable pub layout : Model → Session
layout m = record {
  agents = m.agents;
  sheet = record { steps = length (standing_sheet m); names = padded sheet_size (flat (standing_sheet m)) };
  standing = length m.standing;
  total = length m.standing + length m.undone;
  log = padded (most_edits * edit_size) (logged_all (m.standing ++ m.undone));
}

-- "a refused opening leaves a closed, all-zero session"
abbrev pub closed : Session
closed = record { agents = 0; sheet = record { steps = 0; names = padded sheet_size [] }; standing = 0; total = 0; log = padded (most_edits * edit_size) [] }

-- 17: "session closed, or not one that an accepted opening and calls after it could leave"
pub record CouldBeLeft (s : Session) : Type 0 where
  pub store : List ℕ
  pub domain : Domain
  pub accepted : domain_in store ≡ got domain
  pub calls : List Call
  pub leaves : s ≡ layout (after calls (opened domain))

-- ---- the test that decides it: the model that the bytes would hold, and whether they hold it

abbrev pub edit_from : ℕ → ℕ → Names → Edit
edit_from kind k names = if_else (eqb kind 1) (enter names) (if_else (eqb kind 3) (amend k names) strike)

unfoldable pub edits_from : ℕ → ℕ → List ℕ → List Edit
edits_from agents zero log = []
edits_from agents (suc n) log = edit_from (get_or log 0 0) (get_or log 1 0) (take agents (drop 2 log)) ∷ edits_from agents n (drop edit_size log)

unfoldable pub model_of : Session → Model
model_of s = record {
  agents = s.agents;
  standing = edits_from s.agents s.standing s.log;
  undone = edits_from s.agents (s.total - s.standing) (drop (s.standing * edit_size) s.log);
}

unfoldable pub same_bytes : List ℕ → List ℕ → Bool
same_bytes [] [] = true
same_bytes [] (y ∷ ys) = false
same_bytes (x ∷ xs) [] = false
same_bytes (x ∷ xs) (y ∷ ys) = both (eqb x y) (same_bytes xs ys)

unfoldable pub same_session : Session → Session → Bool
same_session s t =
    both (eqb s.agents t.agents)
    (both (eqb s.sheet.steps t.sheet.steps)
    (both (same_bytes s.sheet.names t.sheet.names)
    (both (eqb s.standing t.standing)
    (both (eqb s.total t.total) (same_bytes s.log t.log)))))

-- every edit of the log can be done in its turn
abbrev pub replays : Model → Bool
replays m = is_got (replayed m.agents (m.standing ++ m.undone) [])

unfoldable pub is_open : Session → Bool
is_open s =
    both (both (leb 1 s.agents) (leb s.agents most_agents))
    (both (both (leb s.standing s.total) (leb s.total most_edits))
    (both (replays (model_of s)) (same_session s (layout (model_of s)))))

-- ---- the calls

-- "edits, undo and redo keep the session" where they refuse
pub record Changed : Type 0 where
  pub answer : Answer (Unit {0})
  pub session : Session

abbrev pub changed : Session → Answer Model → Changed
changed s (got m) = record { answer = got tt; session = layout m }
changed s (refused n) = record { answer = refused n; session = s }

abbrev pub on_model : {A : Type 0} → Session → (Model → Answer A) → Answer A
on_model s f = need (is_open s) 17 (f (model_of s))

-- "Enter: 17, 14, 8, 9. Strike: 17, 14, 11. Amend: 17, 14, 8, 11"
unfoldable pub edit_session : Edit → Session → Changed
edit_session e s = changed s (on_model s (edit e))

-- "Undo: 17, 12"
unfoldable pub undo_session : Session → Changed
undo_session s = changed s (on_model s undo)

-- "redo: 17, 13"
unfoldable pub redo_session : Session → Changed
redo_session s = changed s (on_model s redo)

-- "Opening and frame reader: 15"
abbrev pub opened_on : Answer Domain → Changed
opened_on (got d) = record { answer = got tt; session = layout (opened d) }
opened_on (refused n) = record { answer = refused n; session = closed }

unfoldable pub open_session : List ℕ → Changed
open_session store = opened_on (domain_in store)

unfoldable pub verdict_of : Session → List ℕ → List ℤ → Judgement
verdict_of s store levels = if_else (is_open s) (verdict (model_of s) store levels) (record { answer = refused 17; levels = levels })

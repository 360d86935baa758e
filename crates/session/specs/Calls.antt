-- The calls' answers as document 01 has them.
use Rattle.std.specs.Prelude.{ℕ, ◌+◌, ◌*◌, ◌≡◌, true, false, List, [], ◌∷◌, ◌++◌, ltb, take, Option, None, Some, Result, Ok, Err}
use Rattle.bmap.specs.Refusal.{Answer, got, refused, need, number_of}
use Rattle.bmap.specs.Limits.{most_edits, sheet_size}
use Rattle.bmap.specs.Buffer.{padded}
use Rattle.bmap.specs.Session.{Changed, edit_size, is_open}
use Rattle.bmap.specs.declared.limits.Sheet.{Sheet}
use Rattle.bmap.specs.declared.refusal.Refusal.{Refusal}
use Rattle.bmap.specs.declared.session.Session.{Session}
use Rattle.session.specs.Log.{laid, Reached}
use Rattle.session.specs.declared.opening.Change.{Change}

-- the paper's number of each case
abbrev pub answer_of : Result (Unit {0}) Refusal → Answer (Unit {0})
answer_of (Ok done) = got tt
answer_of (Err why) = refused (number_of why)

-- what an opening answers, and the session that it leaves
abbrev pub changed_of : Change → Changed
changed_of c = record { answer = answer_of c.outcome; session = c.session }

-- "each edit alters that session itself": what a call that is lent the session answers, and the session after it
abbrev pub leaves : Result (Unit {0}) Refusal → Session → Changed
leaves outcome s = record { answer = answer_of outcome; session = s }

abbrev pub done : Session → Changed
done s = record { answer = got tt; session = s }

-- what a call by value answers: the session that it leaves, or a refusal, and then the session is s as it was
abbrev pub changed_on : Session → Result Session Refusal → Changed
changed_on s (Ok t) = done t
changed_on s (Err why) = record { answer = refused (number_of why); session = s }

-- one walk over a session's log: it is not open, or this is the sheet of its first k edits
abbrev pub OpenAt : Session → ℕ → Option Sheet → Type 0
OpenAt s k None = is_open s ≡ false
OpenAt s k (Some sheet) = (is_open s ≡ true) × Reached s.agents k s.log sheet

-- what every edit asks first: "17, 14"
abbrev pub may_edit : Session → Answer (Unit {0})
may_edit s = need (is_open s) 17 (need (ltb s.standing most_edits) 14 (got tt))

-- one more edit, its names laid at a step; the undone ones give way to it
abbrev pub with_edit : Session → ℕ → ℕ → List ℕ → ℕ → ℕ → Session
with_edit s kind number names step steps = record {
  agents = s.agents;
  sheet = record { steps = steps; names = laid s.sheet.names (step * s.agents) names };
  standing = s.standing + 1;
  total = s.standing + 1;
  log = padded (most_edits * edit_size) (take (s.standing * edit_size) s.log ++ (kind ∷ number ∷ names));
}

-- a session of no edit
abbrev pub emptied : ℕ → Session
emptied n = record {
  agents = n;
  sheet = record { steps = 0; names = padded sheet_size [] };
  standing = 0;
  total = 0;
  log = padded (most_edits * edit_size) [];
}

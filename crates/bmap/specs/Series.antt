-- A series of calls: each call's reply, and the session that it leaves to the next.
use Rattle.std.specs.Prelude.{List, [], ◌∷◌}
use Rattle.bmap.specs.Session.{Call, editing, undoing, redoing, judging, Reply, done, judged, Changed, edit_session, undo_session, redo_session, verdict_of}
use Rattle.bmap.specs.declared.session.Session.{Session}

-- a call's reply, and the session after it
pub record Called : Type 0 where
  pub reply : Reply
  pub session : Session

abbrev pub called_by : Changed → Called
called_by c = record { reply = done c.answer; session = c.session }

-- a verdict changes no session
unfoldable pub called : Call → Session → Called
called (editing e) s = called_by (edit_session e s)
called undoing s = called_by (undo_session s)
called redoing s = called_by (redo_session s)
called (judging store levels) s = record { reply = judged (verdict_of s store levels); session = s }

-- the session after the calls, and their replies in order
unfoldable pub session_after : List Call → Session → Session
session_after [] s = s
session_after (c ∷ calls) s = session_after calls (called c s).session

unfoldable pub replies_of : List Call → Session → List Reply
replies_of [] s = []
replies_of (c ∷ calls) s = (called c s).reply ∷ replies_of calls (called c s).session

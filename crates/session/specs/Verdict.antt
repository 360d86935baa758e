-- The number of states that the levels buffer receives from the verdict of a session.
use Rattle.std.specs.Prelude.{ℕ, List, ℤ}
use Rattle.bmap.specs.Plain.{if_else}
use Rattle.bmap.specs.Session.{standing_judged, is_open, model_of}
use Rattle.bmap.specs.declared.session.Session.{Session}
use Rattle.judge.specs.Answer.{states_in}

-- none where the verdict is refused
unfoldable pub states_written : Session → List ℕ → List ℤ → ℕ
states_written s store levels = if_else (is_open s) (states_in (standing_judged (model_of s) store levels)) 0

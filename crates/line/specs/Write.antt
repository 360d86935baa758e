-- What writing a frame's line answers, and the text that it leaves.
use Rattle.std.specs.Prelude.{ℕ, Result, Ok, Err, List, leb, length}
use Rattle.bmap.specs.Limits.{most_payload}
use Rattle.bmap.specs.Refusal.{Answer, got, refused, need, number_of}
use Rattle.bmap.specs.Line.{line_for}
use Rattle.bmap.specs.Buffer as buffer
use Rattle.bmap.specs.declared.refusal.Refusal.{Refusal}

abbrev pub answer_of : {A : Type 0} → Result A Refusal → Answer A
answer_of (Ok a) = got a
answer_of (Err r) = refused (number_of r)

-- 2: "count over 120"; 10: "shorter … than the text to be written"
unfoldable pub line_written : ℕ → List ℕ → List ℕ → buffer.Written
line_written kind payload out =
    buffer.written out (need (leb (length payload) most_payload) 2 (got (line_for (record { kind = kind; payload = payload }))))

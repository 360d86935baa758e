-- A program's one function: what it returns, and the bytes that it leaves.
use Rattle.std.specs.Prelude.{ℕ, List, leb, length}
use Rattle.bmap.specs.Plain.{if_else}
use Rattle.bmap.specs.Buffer.{over}
use Rattle.answer.specs.Room.{output_size}

pub record Answered : Type 0 where
  pub count : ℕ
  pub buffer : List ℕ

-- the output at the front of the buffer, its length, and nothing after it touched; a buffer without room for every output keeps all bytes
unfoldable pub answered : List ℕ → List ℕ → Answered
answered output out =
    if_else (leb output_size (length out)) (record { count = length output; buffer = over output out })
    (record { count = 0; buffer = out })

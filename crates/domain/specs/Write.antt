-- Within the domain writer: the lines of a store's frames.
use Rattle.std.specs.Prelude.{ℕ, zero, suc, ◌+◌, List, [], ◌++◌, length}
use Rattle.bmap.specs.Plain.{maybe}
use Rattle.bmap.specs.Line.{stored, line_for}
use Rattle.bmap.specs.Store.{frame_at}

-- from a place on; so many looks are left
unfoldable pub lines_from : ℕ → List ℕ → ℕ → List ℕ
lines_from zero s at = []
lines_from (suc looks) s at = maybe (frame_at s at) [] (λ f. line_for f ++ lines_from looks s (at + length (stored f)))

unfoldable pub lines_in : List ℕ → List ℕ
lines_in s = lines_from (suc (length s)) s 0

-- The size of the frame at a place of a store.
use Rattle.std.specs.Prelude.{ℕ, Option, None, Some, List, length}
use Rattle.bmap.specs.Plain.{maybe}
use Rattle.bmap.specs.Line.{stored}
use Rattle.bmap.specs.Store.{frame_at}

-- so many bytes: kind, count and payload
unfoldable pub frame_size_at : List ℕ → ℕ → Option ℕ
frame_size_at s at = maybe (frame_at s at) None (λ f. Some (length (stored f)))

-- One supplement laid over another, by the places of the counts of their frames, 0 for none.
use Rattle.std.specs.Prelude.{ℕ, ◌+◌, ◌-◌, List, [], map, eqb, get_or, take, drop}
use Rattle.bmap.specs.Plain.{if_else, flat, numbers}
use Rattle.bmap.specs.Limits.{most_laws}

-- the frame whose count stands at a place: a kind before it, and as many bytes after it as it says
abbrev pub frame_with : List ℕ → ℕ → List ℕ
frame_with s count = if_else (eqb count 0) [] (take (get_or s count 0 + 2) (drop (count - 1) s))

-- the upper one's, or else the lower one's
abbrev pub winner : List ℕ → ℕ → List ℕ → ℕ → List ℕ
winner lower low upper high = if_else (eqb high 0) (frame_with lower low) (frame_with upper high)

-- of a law number
abbrev pub winner_of : List ℕ → List ℕ → List ℕ → List ℕ → ℕ → List ℕ
winner_of lower low upper high n = winner lower (get_or low n 0) upper (get_or high n 0)

-- of each in turn
unfoldable pub frames_laid : List ℕ → List ℕ → List ℕ → List ℕ → List ℕ
frames_laid lower low upper high = flat (map (winner_of lower low upper high) (numbers 0 most_laws))

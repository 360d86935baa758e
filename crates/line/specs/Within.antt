-- What the functions within `read_line` and `read_payload` promise each other.
use Rattle.std.specs.Prelude.{ℕ, ◌+◌, ◌*◌, ◌<◌, ◌≤◌, ◌≡◌, Bool, true, false, Result, Ok, Err, List, eqb, ltb, length, get_or, take}
use Rattle.std.proofs.Math.Option.{none, some}
use Rattle.bmap.specs.Plain.{if_else}
use Rattle.bmap.specs.Refusal.{Answer, got, refused}
use Rattle.bmap.specs.Line.{digit, line_feed}
use Rattle.bmap.specs.declared.refusal.Refusal.{Refusal}
use Rattle.bmap.specs.declared.refusal.Refusal.TheVariants.{BadLine, BadCount}
use Rattle.bmap.specs.Limits.{frame_size}
use Rattle.line.specs.Read.{first_payload, spelt}
use Rattle.line.specs.declared.read.FirstFrame.{FirstFrame}

-- a digit's value, 256 where the character is none
abbrev pub worth : Answer ℕ → ℕ
worth (got d) = d
worth (refused n) = 256

-- the byte that two digits spell, above 255 where one is none
unfoldable pub pair_of : ℕ → ℕ → ℕ
pair_of a b = worth (digit a) * 16 + worth (digit b)

unfoldable pub is_digit : ℕ → Bool
is_digit c = ltb (worth (digit c)) 256

-- the first n pairs of characters spell bytes
pub record Spells (text : List ℕ) (n : ℕ) : Type 0 where
  pub within : 2 * n ≤ length text
  pub pairs : (i : ℕ) → i < n → pair_of (get_or text (2 * i) 0) (get_or text (2 * i + 1) 0) ≤ 255

-- they spell the first n bytes of `out`
pub record Spelt (text out : List ℕ) (n : ℕ) : Type 0 where
  pub pairs : Spells text n
  pub bytes : take n out ≡ spelt n text

-- whether they do, or spell none
abbrev pub SpeltIf : ℕ → List ℕ → List ℕ → Bool → Type 0
SpeltIf n text out true = Spelt text out n
SpeltIf n text out false = Spells text n → ⊥

-- so many bytes are spelt, and there is room for them
pub record SpeltTo (text out : List ℕ) (n : ℕ) : Type 0 where
  pub within : n ≤ length out
  pub spelt : Spelt text out n

-- whether the first line has a payload of this kind of as many bytes as `out` has, which then are these
abbrev pub PayloadIf : ℕ → List ℕ → List ℕ → Bool → Type 0
PayloadIf kind text out r = first_payload kind (length out) text ≡ if_else r (some out) none

-- the first line of the text is whole and right by its count: n bytes, and a LF
pub record Whole (text : List ℕ) (n : ℕ) : Type 0 where
  pub spells : Spells text n
  pub feed : get_or text (2 * n) 0 ≡ line_feed
  pub count : pair_of (get_or text 2 0) (get_or text 3 0) + 2 ≡ n
  pub size : n ≤ frame_size

-- the text begins with n pairs of digits, as many as stand there or as a frame has bytes at most; the second byte is a count
pub record Begins (text : List ℕ) (n count : ℕ) : Type 0 where
  pub some : 0 < length text
  pub pairs : n ≡ length (spelt frame_size text)
  pub second : 2 ≤ n → count ≡ get_or (spelt frame_size text) 1 0

-- what n bytes before a LF come to, of which the second says how many follow it
unfoldable pub frame_of : ℕ → ℕ → Result FirstFrame Refusal
frame_of n count =
    if_else (eqb n 0) (Err BadLine) (if_else (eqb (count + 2) n) (Ok (record { bytes = n; characters = 2 * n + 1 })) (Err BadCount))

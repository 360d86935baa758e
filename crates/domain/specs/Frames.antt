-- The frame reader, in the paper's terms.
use Rattle.std.specs.Prelude.{ℕ, ◌≡◌, List}
use Rattle.std.specs.Borrow.{Bor}
use Rattle.bmap.specs.Refusal.{Answer, got, refused}
use Rattle.bmap.specs.Store.{Place, start, next_frame}
use Rattle.index.specs.Place.{StandsAt}
use Rattle.domain.specs.declared.frames.FrameReader.{FrameReader}

-- the refusal's number, 0 where there is none
abbrev pub number_in : {A : Type 0} → Answer A → ℕ
number_in (got a) = 0
number_in (refused n) = n

-- why no reader starts over a store
unfoldable pub refusal_in : List ℕ → ℕ
refusal_in s = number_in (start s).answer

-- "It starts only over an accepted domain (else 15, and it stands over no bytes)": over the store s that it was lent
pub record StartsOver (s : Bor (List ℕ)) (r : FrameReader) : Type 0 where
  pub contents : r.store.now ≡ (start s.now).place.store
  pub itself : r.store.ref_ptr ≡ s.ref_ptr
  pub place : r.at ≡ (start s.now).place.at
  pub refusal : r.refusal ≡ refusal_in s.now

-- the place where a reader stands
abbrev pub place_of : FrameReader → Place
place_of r = record { store = r.store.now; at = r.at }

abbrev pub part_at : List ℕ → ℕ → List ℕ
part_at s at = (next_frame (record { store = s; at = at })).part

abbrev pub place_after : List ℕ → ℕ → ℕ
place_after s at = (next_frame (record { store = s; at = at })).at

-- the reader after its next frame
abbrev pub advanced : FrameReader → FrameReader
advanced r = record { store = r.store; at = (next_frame (place_of r)).at; refusal = r.refusal }

-- "the frame given is the stored bytes themselves": the part p, from where the reader stood
pub record HandsOut (before after : FrameReader) (p : Bor (List ℕ)) : Type 0 where
  pub part : StandsAt before.store before.at (next_frame (place_of before)).part p
  pub reader : after ≡ advanced before

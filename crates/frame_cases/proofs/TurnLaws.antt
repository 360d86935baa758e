-- Frame after frame until "no more" was heard so many times: each turn has less left. Assumes nothing.
use Rattle.std.proofs.Common.{ℕ, ◌+◌, ◌-◌, ◌<◌, ◌≡◌, List, length, inl, inr, sym, ap, ◌∙◌, subst, arith}
use Rattle.std.specs.Borrow.{Bor}
use Rattle.domain.specs.Frames.{HandsOut}
use Rattle.domain.specs.declared.frames.FrameReader.{FrameReader}
use Rattle.domain.proofs.FramesLaws.{stays_or_moves}

-- that many times, and the bytes after the reader's place
abbrev pub ahead : ℕ → FrameReader → ℕ
ahead k r = k + (length r.store.now - r.at)

-- `next` took the reader r to w and handed out p
module _ (k : ℕ) (r w : FrameReader) (p : Bor (List ℕ)) (h : HandsOut r w p) where
  -- "no more" is heard
  pub stays_less : 0 < k → ahead (k - 1) w < ahead k r
  stays_less more = subst (λ (x : FrameReader). ahead (k - 1) x < ahead k r) (sym h.reader)
      (elim (stays_or_moves r.store.now r.at) [ inl stays ↦ omega (arith, stays.1) | inr moves ↦ omega (arith, moves.0) ])

  -- a frame was there
  pub moves_less : (length p.now ≡ 0 → ⊥) → ahead k w < ahead k r
  moves_less some = subst (λ (x : FrameReader). ahead k x < ahead k r) (sym h.reader)
      (elim (stays_or_moves r.store.now r.at) [ inl stays ↦ absurd (some (ap length h.part.contents ∙ stays.0)) | inr moves ↦ omega (arith, moves.0, moves.1) ])

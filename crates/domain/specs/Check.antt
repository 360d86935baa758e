-- What a check answers.
use Rattle.std.specs.Prelude.{ℕ, Bool, true, false, Option as Maybe, None, Some, Result, Ok, Err, List, leb, length}
use Rattle.std.proofs.Math.Option.{Option, none, some}
use Rattle.bmap.specs.Refusal.{Answer, got, refused, number_of}
use Rattle.bmap.specs.declared.refusal.Refusal.{Refusal}

abbrev pub is_some : {A : Type 0} → Option A → Bool
is_some none = false
is_some (some a) = true

-- the refusal's number, where there is one
abbrev pub refused_in : {A : Type 0} → Answer A → Option ℕ
refused_in (got a) = none
refused_in (refused n) = some n

abbrev pub refusal_of : {A : Type 0} → Result A Refusal → Option ℕ
refusal_of (Ok a) = none
refusal_of (Err r) = some (number_of r)

-- where a tree ends, if one does, so do the bytes
abbrev pub ends_at : List ℕ → Maybe ℕ → Bool
ends_at p (Some end) = leb (length p) end
ends_at p None = false

-- Two refusals with one number are one refusal.
use Prim.Native.Nat.{ℕ, ◌-◌}
use mathlib.Core.Path.{◌≡◌, refl, sym, ap, ◌∙◌}
use mathlib.Core.List.{List, [], ◌∷◌}
use lib.ListN.{get_or}
use Rattle.bmap.specs.Refusal.{number_of}
use Rattle.bmap.specs.declared.refusal.Refusal.{Refusal}
use Rattle.bmap.specs.declared.refusal.Refusal.TheVariants.{BadLine, BadCount, BadKind, BadPayload, TooMany, Repeated, Incomplete, NotWhole, TooLong, NoRoom, NoStep, NothingStands, NothingUndone, LogFull, NotDomain, OtherAgents, NotSession, LongInput, TooManySheets, OtherLaw}

-- the refusals by their number
refusals : List Refusal
refusals =
    BadLine ∷ BadCount ∷ BadKind ∷ BadPayload ∷ TooMany ∷ Repeated ∷ Incomplete ∷ NotWhole ∷ TooLong ∷ NoRoom ∷ NoStep ∷ NothingStands ∷ NothingUndone ∷ LogFull ∷ NotDomain ∷ OtherAgents ∷ NotSession ∷ LongInput ∷ TooManySheets ∷ OtherLaw ∷ []

of_number : (r : Refusal) → get_or refusals (number_of r - 1) BadLine ≡ r
unfolding refusals
of_number BadLine = refl
of_number BadCount = refl
of_number BadKind = refl
of_number BadPayload = refl
of_number TooMany = refl
of_number Repeated = refl
of_number Incomplete = refl
of_number NotWhole = refl
of_number TooLong = refl
of_number NoRoom = refl
of_number NoStep = refl
of_number NothingStands = refl
of_number NothingUndone = refl
of_number LogFull = refl
of_number NotDomain = refl
of_number OtherAgents = refl
of_number NotSession = refl
of_number LongInput = refl
of_number TooManySheets = refl
of_number OtherLaw = refl

pub same_refusal : (a b : Refusal) → number_of a ≡ number_of b → a ≡ b
same_refusal a b e = sym (of_number a) ∙ ap (λ (n : ℕ). get_or refusals (n - 1) BadLine) e ∙ of_number b

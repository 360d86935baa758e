-- The number of agents that a sheet may have.
use Prim.Native.Nat.{ℕ, ◌≤◌, ◌<◌}
use native.Mathlib.Omega.{arith}
use mathlib.Core.Path.{◌≡◌, refl}
use mathlib.Core.Bool.{Bool, true, false}
use lib.Dec.{leb}
use borrow.Author.Tests.{leb-true}
use Rattle.bmap.specs.Plain.{both}
use Rattle.bmap.specs.Limits.{most_agents}
use Rattle.sheet.specs.Step.{agents_allowed}

pub known_agents : (agents : ℕ) → agents_allowed agents ≡ true → (0 < agents) × (agents ≤ most_agents)
known_agents agents e = go (leb 1 agents) (leb agents most_agents) refl refl e
  where
    go : (p q : Bool) → leb 1 agents ≡ p → leb agents most_agents ≡ q → both p q ≡ true → (0 < agents) × (agents ≤ most_agents)
    go true true p q z = (leb-true 1 agents p, leb-true agents most_agents q)
    go true false p q z = absurd (let w : ◌≡◌ {A = ℕ} 0 1 = cc in omega arith)
    go false t p q z = absurd (let w : ◌≡◌ {A = ℕ} 0 1 = cc in omega arith)

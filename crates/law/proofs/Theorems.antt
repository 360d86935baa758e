-- What a caller learns from an answer: the tree that stands there. Two answers that satisfy the same statement are equal.
use mathlib.Core.Path.{◌≡◌, refl}
use mathlib.Core.Bool.{Bool, true, false}
use mathlib.Core.Option.{Option, none, some}
use Prim.Native.Nat.{ℕ, ◌+◌}
use native.Mathlib.Omega.{arith}
use Rattle.bmap.specs.Refusal.{got, need}
use Rattle.bmap.specs.Code.{Parsed}
use Rattle.std.specs.Prelude.{Option as Maybe, None, Some}
use Rattle.law.specs.Check.{checked_of, end_of}
use Rattle.law.specs.Evaluate.{evaluated}
use Rattle.bmap.specs.Number.{Valued}

-- the tree that was accepted
pub record Accepted {T : Type 0} (ok : T → Bool) (at n : ℕ) (o : Option (Parsed T)) : Type 0 where
  pub parsed : Parsed T
  pub stands : o ≡ some parsed
  pub passes : ok parsed.tree ≡ true
  pub ends : n ≡ at + parsed.used

module _ {T : Type 0} (ok : T → Bool) (at : ℕ) where
  pub accepted : {n : ℕ} (o : Option (Parsed T)) → got n ≡ end_of ok at o → Accepted ok at n o
  accepted none e = absurd (let z : ◌≡◌ {A = ℕ} 0 1 = cc in omega arith)
  accepted {n} (some p) e = go (ok p.tree) refl e
    where
      go : (b : Bool) → ok p.tree ≡ b → got n ≡ need b 4 (got (at + p.used)) → Accepted ok at n (some p)
      go true h e = record { parsed = p; stands = refl; passes = h; ends = cc }
      go false h e = absurd (let z : ◌≡◌ {A = ℕ} 0 1 = cc in omega arith)

pub same_checked : (a b : Maybe ℕ) → checked_of a ≡ checked_of b → a ≡ b
same_checked (Some m) (Some n) e = cc
same_checked (Some m) None e = cc
same_checked None (Some n) e = cc
same_checked None None e = refl

pub same_evaluated : {A : Type 0} (a b : Maybe (A × ℕ)) → evaluated a ≡ evaluated b → a ≡ b
same_evaluated None None e = refl
same_evaluated None (Some (w, n)) e = cc
same_evaluated (Some (v, m)) None e = cc
same_evaluated (Some (v, m)) (Some (w, n)) e = cc

-- of a constraint
pub same_judged : (a b : Maybe (Valued Bool × ℕ)) → evaluated a ≡ evaluated b → a ≡ b
same_judged = same_evaluated

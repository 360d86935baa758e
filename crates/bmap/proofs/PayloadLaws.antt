-- What was taken from a payload, where something was.
use Prim.Native.Nat.{ℕ}
use native.Mathlib.Omega.{arith}
use mathlib.Core.Path.{◌≡◌, refl}
use mathlib.Core.Logic.{inl, inr}
use mathlib.Core.Bool.{Bool, true, false}
use mathlib.Core.List.{List, [], ◌∷◌}
use mathlib.Core.Option.{Option, none, some}
use lib.Dec.{eqb, leb}
use lib.ListN.{length, drop, get_or-eq_default}
use borrow.Author.Tests.{leb-true, eqb-true}
use Rattle.bmap.specs.Plain.{both, either}
use Rattle.bmap.specs.Limits.{most_change}
use Rattle.bmap.specs.Code.{Parsed}
use Rattle.bmap.specs.Payload.{word_at, fluent_in, only, limit_fits, tree_in, last}
use Rattle.bmap.specs.Theorems.{LimitIs}
use Rattle.bmap.proofs.PlainLaws.{both_true}

pub only_some : {A : Type 0} (b : Bool) (o : Option A) {a : A} → only b o ≡ some a → (b ≡ true) × (o ≡ some a)
only_some true o e = (refl, e)
only_some false o e = absurd (let z : ◌≡◌ {A = ℕ} 0 1 = cc in omega arith)

pub last_some : {L : Type 0} (a : L) (p : List ℕ) {l : L} → last a p ≡ some l → a ≡ l
last_some a [] e = cc
last_some a (x ∷ p) e = absurd (let z : ◌≡◌ {A = ℕ} 0 1 = cc in omega arith)

-- a tree at the front that is allowed, and the rest
pub record Taken {T L : Type 0} (allowed : T → Bool) (p : List ℕ) (o : Option (Parsed T)) (k : T → List ℕ → Option L) (l : L) : Type 0 where
  pub tree : T
  pub used : ℕ
  pub read : o ≡ some (record { tree = tree; used = used })
  pub fit : allowed tree ≡ true
  pub rest : k tree (drop used p) ≡ some l

pub taken_some : {T L : Type 0} (allowed : T → Bool) (p : List ℕ) (o : Option (Parsed T)) (k : T → List ℕ → Option L) {l : L} → tree_in allowed p o k ≡ some l → Taken allowed p o k l
taken_some allowed p none k e = absurd (let z : ◌≡◌ {A = ℕ} 0 1 = cc in omega arith)
taken_some allowed p (some t) k e =
    let both = only_some (allowed t.tree) (k t.tree (drop t.used p)) e in
    record { tree = t.tree; used = t.used; read = refl; fit = both.0; rest = both.1 }

-- ---- K6: frames of 6 bytes and of 8

no_limit_in : (p : List ℕ) → length p ≡ 6 → (fluent_in p).limit ≡ 0
no_limit_in p six = rw (get_or-eq_default p 0 {n = 6} (omega arith), get_or-eq_default p 0 {n = 7} (omega arith))

pub limit_in : (p : List ℕ) → limit_fits p ≡ true → LimitIs p
unfolding limit_fits
limit_in p e = go (eqb (length p) 6) refl e
  where
    go : (b : Bool) → eqb (length p) 6 ≡ b → either b (both (eqb (length p) 8) (both (leb 1 (word_at p 6)) (leb (word_at p 6) most_change))) ≡ true → LimitIs p
    go true six t = let l = eqb-true (length p) 6 six in inl (l, no_limit_in p l)
    go false six t =
        let eight = both_true (eqb (length p) 8) _ t in
        let within = both_true (leb 1 (word_at p 6)) _ eight.1 in
        inr (eqb-true (length p) 8 eight.0, (leb-true 1 (word_at p 6) within.0, leb-true (word_at p 6) most_change within.1))

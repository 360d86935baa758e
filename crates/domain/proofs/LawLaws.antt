-- Payloads of A5 to A9, test by test. Assumes nothing.
use Prim.Native.Nat.{ℕ, ◌+◌, ◌-◌, ◌≤◌, ◌<◌}
use native.Mathlib.Numerals.{add-one}
use native.Mathlib.Decide.{dec_le}
use native.Mathlib.Omega.{arith}
use mathlib.Core.Path.{◌≡◌, refl, sym, ap, ◌∙◌}
use mathlib.Core.Bool.{Bool, true, false}
use mathlib.Core.List.{List, [], ◌∷◌}
use mathlib.Core.Option.{Option, none, some}
use Rattle.std.specs.Prelude.{Option as Maybe, None, Some}
use lib.Dec.{leb}
use lib.ListN.{length, drop, drop_of_length-le, length-drop}
use lib.Seq.{drop-drop, drop-cons}
use borrow.Author.Tests.{lt-ltb, le-ltb, le-leb, lt-leb}
use Rattle.bmap.specs.Refusal.{got, need}
use Rattle.bmap.specs.Tree.{Con, allowed_e, allowed_c}
use Rattle.bmap.specs.Code.{Parsed, parse_e, parse_c}
use Rattle.bmap.specs.Domain.{Law, executable, effect, must, Scope, static, concurrency, goal}
use Rattle.bmap.specs.Payload.{byte, only, tree_in, last, below, con_in, expr_in, context, asks, scope_kind, executable_in, effect_in, must_in, law_in}
use Rattle.bmap.specs.declared.limits.Counts.{Counts}
use Rattle.law.specs.Check.{checked_of, end_of}
use Rattle.domain.specs.Check.{is_some, ends_at}

-- ---- a tree, by the checker's answer

last_fits : {L : Type 0} (l : L) (p : List ℕ) (n : ℕ) → leb (length p) n ≡ is_some (last l (drop n p))
last_fits l p n = go (drop n p) (length-drop n p)
  where
    go : (r : List ℕ) → length r ≡ length p - n → leb (length p) n ≡ is_some (last l r)
    go [] e = le-leb (length p) n (omega arith)
    go (x ∷ r) e = lt-leb (length p) n (omega arith)

module _ {T L : Type 0} (allowed : T → Bool) (p : List ℕ) (at : ℕ) where
  -- the tree is last
  pub tree_last : (make : T → L) (o : Option (Parsed T)) (r : Maybe ℕ) → checked_of r ≡ end_of allowed at o → ends_at p r ≡ is_some (tree_in allowed (drop at p) o (λ t. last (make t)))
  tree_last make none None e = refl
  tree_last make none (Some n) e = cc
  tree_last make (some t) r e = go (allowed t.tree) r e
    where
      go : (b : Bool) (r : Maybe ℕ) → checked_of r ≡ need b 4 (got (at + t.used)) → ends_at p r ≡ is_some (only b (last (make t.tree) (drop t.used (drop at p))))
      go true None e = cc
      go true (Some n) e = let z : n ≡ at + t.used = cc in rw (z, drop-drop t.used at p) (last_fits (make t.tree) p (at + t.used))
      go false None e = refl
      go false (Some n) e = cc

  -- what comes after the tree
  pub tree_then : (k : T → List ℕ → Option L) (n : ℕ) (o : Option (Parsed T)) → got n ≡ end_of allowed at o → (t : T) × (tree_in allowed (drop at p) o k ≡ k t (drop n p))
  tree_then k n none e = absurd (let z : ◌≡◌ {A = ℕ} 0 1 = cc in omega arith)
  tree_then k n (some t) e = (t.tree, go (allowed t.tree) e)
    where
      go : (b : Bool) → got n ≡ need b 4 (got (at + t.used)) → only b (k t.tree (drop t.used (drop at p))) ≡ k t.tree (drop n p)
      go true e = let z : n ≡ at + t.used = cc in rw (z, drop-drop t.used at p)
      go false e = absurd (let z : ◌≡◌ {A = ℕ} 0 1 = cc in omega arith)

  pub tree_refused : (k : T → List ℕ → Option L) (o : Option (Parsed T)) → checked_of None ≡ end_of allowed at o → tree_in allowed (drop at p) o k ≡ none
  tree_refused k none e = refl
  tree_refused k (some t) e = go (allowed t.tree) e
    where
      go : (b : Bool) → checked_of None ≡ need b 4 (got (at + t.used)) → only b (k t.tree (drop t.used (drop at p))) ≡ none
      go false e = refl
      go true e = absurd (let z : ◌≡◌ {A = ℕ} 0 1 = cc in omega arith)

-- ---- a number below a limit, at a place

module _ {L : Type 0} (limit : ℕ) (p : List ℕ) (at : ℕ) (k : ℕ → List ℕ → Option L) where
  below_not : (at < length p → limit ≤ byte p at) → below limit (drop at p) k ≡ none
  below_not h = elim (dec_le (length p) at) [
    | yes e ↦ rw (drop_of_length-le p {i = at} e)
    | no e ↦ rw (drop-cons p at 0 (omega arith), le-ltb (byte p at) limit (h (omega arith)))
  ]

  below_at : at < length p → byte p at < limit → below limit (drop at p) k ≡ k (byte p at) (drop (at + 1) p)
  below_at h l = rw (drop-cons p at 0 h, lt-ltb (byte p at) limit l, add-one)

-- ---- A5 and A6

module _ (n : Counts) (p : List ℕ) where
  pub executable_not : (0 < length p → n.entries ≤ byte p 0) → false ≡ is_some (executable_in n p)
  unfolding executable_in
  executable_not h = sym (ap is_some (below_not n.entries p 0 _ h))

  pub effect_not : (0 < length p → n.entries ≤ byte p 0) → false ≡ is_some (effect_in n p)
  unfolding effect_in
  effect_not h = sym (ap is_some (below_not n.entries p 0 _ h))

  module _ (h : 0 < length p) where
    module _ (l : byte p 0 < n.entries) where
      pub executable_law : (r : Maybe ℕ) → checked_of r ≡ end_of (allowed_c (context n true)) 1 (parse_c 16 (drop 1 p)) → ends_at p r ≡ is_some (executable_in n p)
      unfolding executable_in
      executable_law r e =
          tree_last (allowed_c (context n true)) p 1 (executable (byte p 0)) (parse_c 16 (drop 1 p)) r e
          ∙ sym (ap is_some (below_at n.entries p 0 (λ i rest. con_in (context n true) rest (λ c. last (executable i c))) h l))

      -- A6, after its entry
      after_con : Con → List ℕ → Option Law
      after_con c rest = below n.fluents rest (λ f rest. expr_in (context n true) rest (λ x. last (effect (byte p 0) c f x)))

      effect_con : effect_in n p ≡ con_in (context n true) (drop 1 p) after_con
      unfolding effect_in after_con
      effect_con = below_at n.entries p 0 _ h l

      pub effect_refused : checked_of None ≡ end_of (allowed_c (context n true)) 1 (parse_c 16 (drop 1 p)) → false ≡ is_some (effect_in n p)
      effect_refused e = sym (ap is_some (effect_con ∙ tree_refused (allowed_c (context n true)) p 1 after_con (parse_c 16 (drop 1 p)) e))

      module _ (next : ℕ) (e : got next ≡ end_of (allowed_c (context n true)) 1 (parse_c 16 (drop 1 p))) where
        after : (c : Con) × (effect_in n p ≡ after_con c (drop next p))
        after = let t = tree_then (allowed_c (context n true)) p 1 after_con next (parse_c 16 (drop 1 p)) e in (t.0, effect_con ∙ t.1)

        pub effect_end : (next < length p → n.fluents ≤ byte p next) → false ≡ is_some (effect_in n p)
        unfolding after_con
        effect_end g = sym (ap is_some (after.1 ∙ below_not n.fluents p next _ g))

        pub effect_law : next < length p → byte p next < n.fluents
            → (r : Maybe ℕ) → checked_of r ≡ end_of (allowed_e (context n true)) (next + 1) (parse_e 16 (drop (next + 1) p)) → ends_at p r ≡ is_some (effect_in n p)
        unfolding after_con
        effect_law g u r q =
            tree_last (allowed_e (context n true)) p (next + 1) (effect (byte p 0) after.0 (byte p next)) (parse_e 16 (drop (next + 1) p)) r q
            ∙ sym (ap is_some (after.1 ∙ below_at n.fluents p next _ g u))

-- ---- A7 to A9

module _ (n : Counts) (p : List ℕ) (r : Maybe ℕ) where
  pub must_law : (s : Scope) → checked_of r ≡ end_of (allowed_c (context n (asks s))) 0 (parse_c 16 p) → ends_at p r ≡ is_some (law_in n (scope_kind s) p)
  unfolding law_in must_in
  must_law static e = tree_last (allowed_c (context n false)) p 0 (must static) (parse_c 16 p) r e
  must_law concurrency e = tree_last (allowed_c (context n true)) p 0 (must concurrency) (parse_c 16 p) r e
  must_law goal e = tree_last (allowed_c (context n false)) p 0 (must goal) (parse_c 16 p) r e

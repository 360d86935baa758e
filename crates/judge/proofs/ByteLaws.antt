-- What the bytes of a law say, kind by kind. Assumes nothing.
use Prim.Native.Nat.{ℕ, ◌<◌}
use mathlib.Core.Path.{◌≡◌, refl, sym, ap, ◌∙◌, subst}
use mathlib.Core.Logic.{◌⊎◌, inl, inr, ⊎_elim}
use mathlib.Core.List.{List, [], ◌∷◌, ◌++◌}
use mathlib.Core.Option.{Option, none, some}
use mathlib.Core.Bool.{Bool, true, false}
use native.Mathlib.Omega.{arith}
use lib.Dec.{eqb, ltb}
use lib.ListN.{get_or, drop}
use lib.Seq.{drop-append-le}
use borrow.Author.Tests.{eqb-true, ltb-true}
use Rattle.bmap.specs.Plain.{if_else}
use Rattle.bmap.specs.Limits.{most_depth}
use Rattle.bmap.specs.Tree.{Expr, Con, allowed_e, allowed_c}
use Rattle.bmap.specs.Code.{parse_e, parse_c}
use Rattle.bmap.specs.Domain.{Law, executable, effect, must, Scope, static, concurrency, goal}
use Rattle.bmap.specs.Payload.{last, context, con_in, expr_in, below, executable_in, effect_in, asks, scope_kind, must_in, law_in}
use Rattle.bmap.proofs.PayloadLaws.{only_some, last_some, taken_some}
use Rattle.bmap.specs.declared.limits.Counts.{Counts}
use Rattle.law.proofs.Used.{used_c}
use Rattle.judge.proofs.LongerLaws.{longer_e, longer_c}

-- a constraint at the front of some bytes, and an expression
pub record Constrained (n : Counts) (asked : Bool) (bytes : List ℕ) (c : Con) : Type 0 where
  pub used : ℕ
  pub read : parse_c most_depth bytes ≡ some (record { tree = c; used = used })
  pub fit : allowed_c (context n asked) c ≡ true

pub record Expressed (n : Counts) (asked : Bool) (bytes : List ℕ) (x : Expr) : Type 0 where
  pub used : ℕ
  pub read : parse_e most_depth bytes ≡ some (record { tree = x; used = used })
  pub fit : allowed_e (context n asked) x ≡ true

pub record Effective (n : Counts) (p : List ℕ) (e : ℕ) (c : Con) (f : ℕ) (x : Expr) : Type 0 where
  pub entry : e ≡ get_or p 0 0
  pub known : e < n.entries
  pub con : Constrained n true (drop 1 p) c
  pub fluent : f ≡ get_or (drop con.used (drop 1 p)) 0 0
  pub expr : Expressed n true (drop 1 (drop con.used (drop 1 p))) x

abbrev pub Spelt : Counts → ℕ → List ℕ → Law → Type 0
Spelt n k p (executable e c) = (k ≡ 0xA5) × (((e ≡ get_or p 0 0) × (e < n.entries)) × Constrained n true (drop 1 p) c)
Spelt n k p (effect e c f x) = (k ≡ 0xA6) × Effective n p e c f x
Spelt n k p (must s c) = (k ≡ scope_kind s) × Constrained n (asks s) p c

executable_spelt : (n : Counts) (k : ℕ) (p more : List ℕ) {l : Law} → k ≡ 0xA5 → executable_in n p ≡ some l → Spelt n k (p ++ more) l
unfolding executable_in
executable_spelt n k [] more {l} q e = absurd cc
executable_spelt n k (i ∷ p) more {l} q e =
    let b = only_some (ltb i n.entries) (con_in (context n true) p (λ c. last (executable i c))) e in
    let t = taken_some (allowed_c (context n true)) p (parse_c most_depth p) (λ c. last (executable i c)) b.1 in
    subst (λ (m : Law). Spelt n k (i ∷ (p ++ more)) m) (last_some (executable i t.tree) (drop t.used p) t.rest)
    (q, ((refl, ltb-true i n.entries b.0), record { used = t.used; read = longer_c most_depth p more t.read; fit = t.fit }))

effect_last : (n : Counts) (i : ℕ) (p more : List ℕ) (c : Con) (u : ℕ) → parse_c most_depth p ≡ some (record { tree = c; used = u }) → allowed_c (context n true) c ≡ true → i < n.entries → (r : List ℕ) → drop u p ≡ r
    → {l : Law} → below n.fluents r (λ f rest. expr_in (context n true) rest (λ x. last (effect i c f x))) ≡ some l → {k : ℕ} → k ≡ 0xA6 → Spelt n k (i ∷ (p ++ more)) l
effect_last n i p more c u read fit h [] d {l} e q = absurd cc
effect_last n i p more c u read fit h (f ∷ r) d {l} e {k} q =
    let b = only_some (ltb f n.fluents) (expr_in (context n true) r (λ x. last (effect i c f x))) e in
    let t = taken_some (allowed_e (context n true)) r (parse_e most_depth r) (λ x. last (effect i c f x)) b.1 in
    let here : drop u (p ++ more) ≡ f ∷ (r ++ more) = drop-append-le u p more (omega (arith, (used_c most_depth p 0 read).1)) ∙ ap (λ (m : List ℕ). m ++ more) d in
    subst (λ (m : Law). Spelt n k (i ∷ (p ++ more)) m) (last_some (effect i c f t.tree) (drop t.used r) t.rest) (
      q,
      record {
        entry = refl;
        known = h;
        con = record { used = u; read = longer_c most_depth p more read; fit = fit };
        fluent = sym (ap (λ (m : List ℕ). get_or m 0 0) here);
        expr = record { used = t.used; read = ap (λ (m : List ℕ). parse_e most_depth (drop 1 m)) here ∙ longer_e most_depth r more t.read; fit = t.fit };
      },
    )

effect_spelt : (n : Counts) (k : ℕ) (p more : List ℕ) {l : Law} → k ≡ 0xA6 → effect_in n p ≡ some l → Spelt n k (p ++ more) l
unfolding effect_in
effect_spelt n k [] more {l} q e = absurd cc
effect_spelt n k (i ∷ p) more {l} q e =
    let go : Con → List ℕ → Option Law = λ c rest. below n.fluents rest (λ f rest. expr_in (context n true) rest (λ x. last (effect i c f x))) in
    let b = only_some (ltb i n.entries) (con_in (context n true) p go) e in
    let t = taken_some (allowed_c (context n true)) p (parse_c most_depth p) go b.1 in
    effect_last n i p more t.tree t.used t.read t.fit (ltb-true i n.entries b.0) (drop t.used p) refl t.rest q

must_spelt : (s : Scope) (n : Counts) (k : ℕ) (p more : List ℕ) {l : Law} → k ≡ scope_kind s → must_in s n p ≡ some l → Spelt n k (p ++ more) l
unfolding must_in
must_spelt s n k p more q e =
    let t = taken_some (allowed_c (context n (asks s))) p (parse_c most_depth p) (λ c. last (must s c)) e in
    subst (λ (m : Law). Spelt n k (p ++ more) m) (last_some (must s t.tree) (drop t.used p) t.rest)
    (q, record { used = t.used; read = longer_c most_depth p more t.read; fit = t.fit })

by_kind : (k byte : ℕ) (b : Bool) (x y : Option Law) {l : Law} → eqb k byte ≡ b → if_else b x y ≡ some l → ((k ≡ byte) × (x ≡ some l)) ⊎ (y ≡ some l)
by_kind k byte true x y q e = inl (eqb-true k byte q, e)
by_kind k byte false x y q e = inr e

-- a law is spelt by its kind and payload, whatever stands after them
pub spelt : (n : Counts) (k : ℕ) (p more : List ℕ) {l : Law} → law_in n k p ≡ some l → Spelt n k (p ++ more) l
unfolding law_in
spelt n k p more {l} e =
    ⊎_elim (λ w. executable_spelt n k p more w.0 w.1) (λ e₁.
    ⊎_elim (λ w. effect_spelt n k p more w.0 w.1) (λ e₂.
    ⊎_elim (λ w. must_spelt static n k p more w.0 w.1) (λ e₃.
    ⊎_elim (λ w. must_spelt concurrency n k p more w.0 w.1) (λ e₄.
    ⊎_elim (λ w. must_spelt goal n k p more w.0 w.1) (λ e₅. absurd cc)
    (by_kind k 0xA9 (eqb k 0xA9) (must_in goal n p) none refl e₄))
    (by_kind k 0xA8 (eqb k 0xA8) (must_in concurrency n p) (if_else (eqb k 0xA9) (must_in goal n p) none) refl e₃))
    (by_kind k 0xA7 (eqb k 0xA7) (must_in static n p) (if_else (eqb k 0xA8) (must_in concurrency n p) (if_else (eqb k 0xA9) (must_in goal n p) none)) refl e₂))
    (by_kind k 0xA6 (eqb k 0xA6) (effect_in n p) (if_else (eqb k 0xA7) (must_in static n p) (if_else (eqb k 0xA8) (must_in concurrency n p) (if_else (eqb k 0xA9) (must_in goal n p) none))) refl e₁))
    (by_kind k 0xA5 (eqb k 0xA5) (executable_in n p) (if_else (eqb k 0xA6) (effect_in n p) (if_else (eqb k 0xA7) (must_in static n p) (if_else (eqb k 0xA8) (must_in concurrency n p) (if_else (eqb k 0xA9) (must_in goal n p) none)))) refl e)

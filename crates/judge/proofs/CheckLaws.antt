-- The checks of a step, turn by turn. Assumes nothing.
use Prim.Native.Nat.{ℕ, suc, ◌+◌, ◌≤◌, ◌<◌}
use mathlib.Core.Path.{◌≡◌, refl, sym, ap, ◌∙◌, subst}
use mathlib.Core.List.{List, [], ◌∷◌}
use mathlib.Core.Bool.{Bool, true, false}
use native.Mathlib.Omega.{arith}
use lib.Dec.{eqb}
use lib.ListN.{length, get_or, drop}
use lib.Seq.{get_or-drop}
use borrow.Author.Tests.{eq-eqb, ne_eqb, eqb-true}
use Rattle.std.specs.Prelude.{Option, Some, None}
use Rattle.bmap.specs.Plain.{either, if_else, any}
use Rattle.bmap.specs.Number.{Valued, value}
use Rattle.bmap.specs.Tree.{Con}
use Rattle.bmap.specs.Meaning.{History, eval_c}
use Rattle.bmap.specs.Domain.{Domain, Names, Entry, Law, executable, effect, must, Scope, static, concurrency, goal, has, entry_at, occurs_in, readable}
use Rattle.bmap.specs.Payload.{scope_kind}
use Rattle.bmap.specs.Accept.{counts_of}
use Rattle.bmap.specs.Judge.{Checked, pass, fault, unless, next, reads, placed, carries, same_scope, each_from, holds, permits, permitted, may_occur}
use Rattle.index.specs.Index.{law_number, no_law}
use Rattle.judge.specs.Told.{Belonging, Says, Lawful, Within, Owned, Own, owner_of, frame_of, con_of, place_of, asks_of}
use Rattle.judge.specs.declared.reading.Run.{Run}
use Rattle.judge.proofs.LoopLaws.{starts, rests, each_on}
use Rattle.judge.proofs.ByteLaws.{Spelt, spelt}

-- ---- the laws of a run

abbrev pub no_entry : Entry
no_entry = record { name = 0; crew = 0 }

module _ {Y : Type 0} (R : ℕ → List Law → Y) (d : Domain) (held : List ℕ) (n kind : ℕ) (run : Run)
    (lawful : Lawful d held n) (within : Within held n kind run)
    (idle : (k : ℕ) (l : Law) (rest : List Law) → Says d (frame_of held k) l → (get_or (frame_of held k) 0 0 ≡ kind → ⊥) → R k (l ∷ rest) ≡ R (suc k) rest) where
  pub run_starts : R 0 d.laws ≡ R run.from (drop run.from d.laws)
  run_starts =
      starts R d.laws no_law run.from (omega (arith, lawful.count, within.starts))
      (λ k p q. idle k (law_number d k) _ (lawful.law k (omega (arith, within.starts))) (within.before k q (omega (arith, within.starts))))

  pub run_ends : (l : ℕ) {y : Y} → run.to ≤ l → ((k : ℕ) → R k [] ≡ y) → R l (drop l d.laws) ≡ y
  run_ends l h e =
      rests R d.laws no_law l e
      (λ k p q. let r : k < n = omega (arith, lawful.count) in idle k (law_number d k) _ (lawful.law k r) (within.after k (omega arith) r))

module _ (d : Domain) (held : List ℕ) (n kind : ℕ) (run : Run) (l : ℕ) (lawful : Lawful d held n) (within : Within held n kind run) (h : l < run.to) where
  pub run_law : l < length d.laws
  run_law = omega (arith, lawful.count, within.ends)

  pub run_says : Says d (frame_of held l) (law_number d l)
  run_says = lawful.law l (omega (arith, within.ends))

-- the first byte from a place on
pub front : (held : List ℕ) (p : ℕ) → get_or (drop p held) 0 0 ≡ get_or held p 0
front held p = get_or-drop p held 0 0 ∙ ap (λ (k : ℕ). get_or held k 0) (let z : p + 0 ≡ p = omega arith in z)

-- ---- 1: the agents

module _ (d : Domain) (names : Names) (mask a : ℕ) where
  pub placed_idle : get_or names a 0 ≡ 0 → placed d names a (get_or names a 0) ≡ pass
  unfolding placed
  placed_idle e = rw (eq-eqb (get_or names a 0) 0 e)

  pub placed_if : {t u : Bool} → Belonging d names mask → a < length names → (get_or names a 0 ≡ 0 → ⊥) → t ≡ has mask a → t ≡ u → placed d names a (get_or names a 0) ≡ unless 1 a u
  unfolding placed
  placed_if b h n e q =
      ap (λ (s : Bool). unless 1 a (either s (any (carries d names a (get_or names a 0)) d.entries))) (ne_eqb (get_or names a 0) 0 n)
      ∙ ap (unless 1 a) (b a h ∙ (sym e ∙ q))

-- ---- 3, 6 and the goals: a law of a scope

pub not_entry : (k : ℕ) (s : Scope) → k ≡ 0xA5 → k ≡ scope_kind s → ⊥
not_entry k static p q = omega arith
not_entry k concurrency p q = omega arith
not_entry k goal p q = omega arith

pub not_effect : (k : ℕ) (s : Scope) → k ≡ 0xA6 → k ≡ scope_kind s → ⊥
not_effect k static p q = omega arith
not_effect k concurrency p q = omega arith
not_effect k goal p q = omega arith

other_scope : (s s' : Scope) → (scope_kind s' ≡ scope_kind s → ⊥) → same_scope s s' ≡ false
other_scope static static n = absurd (n refl)
other_scope static concurrency n = refl
other_scope static goal n = refl
other_scope concurrency static n = refl
other_scope concurrency concurrency n = absurd (n refl)
other_scope concurrency goal n = refl
other_scope goal static n = refl
other_scope goal concurrency n = refl
other_scope goal goal n = absurd (n refl)

one_scope : (s s' : Scope) → scope_kind s' ≡ scope_kind s → s' ≡ s
one_scope static static e = refl
one_scope static concurrency e = absurd (omega arith)
one_scope static goal e = absurd (omega arith)
one_scope concurrency static e = absurd (omega arith)
one_scope concurrency concurrency e = refl
one_scope concurrency goal e = absurd (omega arith)
one_scope goal static e = absurd (omega arith)
one_scope goal concurrency e = absurd (omega arith)
one_scope goal goal e = refl

scope_self : (s : Scope) → same_scope s s ≡ true
scope_self static = refl
scope_self concurrency = refl
scope_self goal = refl

module _ (d : Domain) (frame : List ℕ) where
  pub says : (l : Law) → Says d frame l → Spelt (counts_of d) (get_or frame 0 0) (drop 2 frame) l
  says l w = subst (λ (p : List ℕ). Spelt (counts_of d) (get_or frame 0 0) p l) (sym w.stands) (spelt (counts_of d) (get_or frame 0 0) w.payload w.more w.law)

  -- a law of the scope's kind is one of the scope
  pub must_by_kind : (s : Scope) (l : Law) → Says d frame l → get_or frame 0 0 ≡ scope_kind s → l ≡ must s (con_of l)
  must_by_kind s (executable e c) w q = absurd (not_entry (get_or frame 0 0) s (says (executable e c) w).0 q)
  must_by_kind s (effect e c f x) w q = absurd (not_effect (get_or frame 0 0) s (says (effect e c f x) w).0 q)
  must_by_kind s (must s' c) w q = ap (λ (t : Scope). must t c) (one_scope s s' (sym (says (must s' c) w).0 ∙ q))

  module _ (s : Scope) (kind : ℕ) (h : History) (j n : ℕ) where
    pub holds_other : (l : Law) → Says d frame l → (get_or frame 0 0 ≡ scope_kind s → ⊥) → holds s kind h j n l ≡ pass
    unfolding holds
    holds_other (executable e c) w q = refl
    holds_other (effect e c f x) w q = refl
    holds_other (must s' c) w q = rw (other_scope s s' (λ e. q ((says (must s' c) w).0 ∙ e)))

    pub holds_same : (l : Law) {v : Valued Bool} → l ≡ must s (con_of l) → v ≡ eval_c (con_of l) h j → holds s kind h j n l ≡ next (reads n v) (unless kind n)
    unfolding holds
    holds_same l e q = ap (λ (m : Law). holds s kind h j n m) e ∙ rw (scope_self s, ← q)

-- a law of another kind is passed over
module _ (d : Domain) (held : List ℕ) (s : Scope) (kind : ℕ) (h : History) (j : ℕ) {asked : ℕ} (is : asked ≡ scope_kind s) where
  pub others_pass : (k : ℕ) (l : Law) (rest : List Law) → Says d (frame_of held k) l → (get_or (frame_of held k) 0 0 ≡ asked → ⊥) → each_from k (holds s kind h j) (l ∷ rest) ≡ each_from (suc k) (holds s kind h j) rest
  others_pass k l rest w q = each_on (holds s kind h j) k l rest (holds_other d (frame_of held k) s kind h j k l w (λ e. q (e ∙ sym is)))

-- ---- 2: the laws of an entry

module _ (d : Domain) (h : History) (j i : ℕ) where
  entry_owns : (b : Bool) (e : ℕ) (c : Con) → readable d (entry_at d e) c ≡ b → if_else b (Some e) None ≡ Some i → permits d h j i (executable e c) ≡ eval_c c h j
  unfolding permits
  entry_owns true e c r q = let z : e ≡ i = cc in rw (eq-eqb e i z, ← z, r)
  entry_owns false e c r q = absurd cc

  pub permits_mine : (l : Law) {o : Option ℕ} → o ≡ owner_of d l → o ≡ Some i → permits d h j i l ≡ eval_c (con_of l) h j
  permits_mine (executable e c) w q = entry_owns (readable d (entry_at d e) c) e c refl (sym w ∙ q)
  permits_mine (effect e c f x) w q = let z : ◌≡◌ {A = Option ℕ} None (Some i) = sym w ∙ q in absurd cc
  permits_mine (must s c) w q = let z : ◌≡◌ {A = Option ℕ} None (Some i) = sym w ∙ q in absurd cc

  entry_not : (b : Bool) (t : Bool) (e : ℕ) (c : Con) → eqb e i ≡ t → readable d (entry_at d i) c ≡ b → (if_else (readable d (entry_at d e) c) (Some e) None ≡ Some i → ⊥) → permits d h j i (executable e c) ≡ value false
  unfolding permits
  entry_not true true e c t r n =
      let q : e ≡ i = eqb-true e i t in
      absurd (n (ap (λ (b : Bool). if_else b (Some e) None) (ap (λ (k : ℕ). readable d (entry_at d k) c) q ∙ r) ∙ ap Some q))
  entry_not false true e c t r n = rw (t, r)
  entry_not b false e c t r n = rw t

  pub permits_other : (l : Law) {o : Option ℕ} → o ≡ owner_of d l → (o ≡ Some i → ⊥) → permits d h j i l ≡ value false
  unfolding permits
  permits_other (executable e c) w n = entry_not (readable d (entry_at d i) c) (eqb e i) e c refl refl (λ q. n (w ∙ q))
  permits_other (effect e c f x) w n = refl
  permits_other (must s c) w n = refl

  module _ (n : ℕ) (l : Law) (rest : List Law) where
    pub permitted_on : permits d h j i l ≡ value false → permitted d h j i n (l ∷ rest) ≡ permitted d h j i (suc n) rest
    unfolding permitted
    permitted_on e = rw e

    -- by what it gives
    pub permitted_by : {r : Checked Bool} → reads n (permits d h j i l) ≡ r → permitted d h j i n (l ∷ rest) ≡ next r (λ b. if_else b pass (permitted d h j i (suc n) rest))
    unfolding permitted
    permitted_by e = rw e

  pub permitted_none : (n : ℕ) → permitted d h j i n [] ≡ fault 2 i
  unfolding permitted
  permitted_none n = refl

-- the laws that entry i does not own are left out
module _ (d : Domain) (h : History) (j i : ℕ) (held : List ℕ) (owners : List (Option ℕ)) (n : ℕ) (run : Run) (lawful : Lawful d held n) (owned : Owned d owners) (own : Own owners n i run) where
  not_own : (k : ℕ) → k < n → (get_or owners k None ≡ Some i → ⊥) → permitted d h j i k (law_number d k ∷ drop (suc k) d.laws) ≡ permitted d h j i (suc k) (drop (suc k) d.laws)
  not_own k p q = permitted_on d h j i k (law_number d k) (drop (suc k) d.laws) (permits_other d h j i (law_number d k) (owned k (omega (arith, lawful.count))) q)

  pub own_starts : permitted d h j i 0 d.laws ≡ permitted d h j i run.from (drop run.from d.laws)
  own_starts =
      starts (λ k r. permitted d h j i k r) d.laws no_law run.from (omega (arith, lawful.count, own.starts))
      (λ k p q. not_own k (omega (arith, own.starts)) (own.before k q (omega (arith, own.starts))))

  pub own_ends : (l : ℕ) → run.to ≤ l → permitted d h j i l (drop l d.laws) ≡ fault 2 i
  own_ends l p =
      rests (λ k r. permitted d h j i k r) d.laws no_law l (permitted_none d h j i)
      (λ k q r. let s : k < n = omega (arith, lawful.count) in not_own k s (own.after k (omega arith) s))

  pub own_law : (l : ℕ) → l < run.to → l < length d.laws
  own_law l p = omega (arith, lawful.count, own.ends)

-- an owned law is one of an entry, with its constraint after the entry
pub owned_place : (d : Domain) (l : Law) {o : Option ℕ} {i : ℕ} → o ≡ owner_of d l → o ≡ Some i → (3 ≡ place_of l) × (true ≡ asks_of l)
owned_place d (executable e c) w q = (refl, refl)
owned_place d (effect e c f x) {o} {i} w q = let z : ◌≡◌ {A = Option ℕ} None (Some i) = sym w ∙ q in absurd cc
owned_place d (must s c) {o} {i} w q = let z : ◌≡◌ {A = Option ℕ} None (Some i) = sym w ∙ q in absurd cc

module _ (d : Domain) (h : History) (j : ℕ) (names : Names) (i : ℕ) (e : Entry) where
  pub occurs_may : true ≡ occurs_in d names e → may_occur d h j names i e ≡ permitted d h j i 0 d.laws
  unfolding may_occur
  occurs_may o = ap (λ (b : Bool). if_else b (permitted d h j i 0 d.laws) pass) (sym o)

  pub occurs_not : false ≡ occurs_in d names e → may_occur d h j names i e ≡ pass
  unfolding may_occur
  occurs_not o = ap (λ (b : Bool). if_else b (permitted d h j i 0 d.laws) pass) (sym o)

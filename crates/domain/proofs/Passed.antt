-- What a frame that passes its check says. Assumes nothing.
use Prim.Native.Nat.{ℕ, ◌≤◌, ◌<◌}
use native.Mathlib.Omega.{arith}
use mathlib.Core.Path.{◌≡◌, refl, sym, ap, ◌∙◌}
use mathlib.Core.Bool.{Bool, true, false}
use mathlib.Core.List.{List, [], ◌∷◌}
use mathlib.Core.Option.{Option, none, some}
use lib.Dec.{eqb, leb, ltb}
use lib.ListN.{length, drop}
use borrow.Author.Tests.{ltb-true, leb-true, eqb-true, eqb-false, eq-eqb}
use Rattle.bmap.specs.Plain.{both, if_else}
use Rattle.bmap.specs.Refusal.{Answer, got, need, known, then}
use Rattle.bmap.specs.Line.{Frame, executable_kind, effect_kind}
use Rattle.bmap.specs.Tree.{Expr, Con}
use Rattle.bmap.specs.Code.{parse_e, parse_c}
use Rattle.bmap.specs.Domain.{Entry, Law, executable, effect, must, Scope, static, concurrency, goal}
use Rattle.bmap.specs.Payload.{Item, agents, fluent, knowledge, entry, law, byte, only, agents_fit, fluent_fits, knowledge_fits, entry_fits, fluent_in, knowledge_in, entry_in, last, below, con_in, expr_in, context, executable_in, effect_in, scope_kind, must_in, law_in, law_item, item_in}
use Rattle.bmap.specs.Accept.{in_order, room, fresh, executes, checked}
use Rattle.bmap.specs.declared.limits.Counts.{Counts}
use Rattle.bmap.proofs.PlainLaws.{both_true}
use Rattle.bmap.proofs.PayloadLaws.{only_some, last_some, taken_some}
use Rattle.domain.specs.Check.{refused_in}

only_is : {A : Type 0} (b : Bool) (a x : A) → only b (some a) ≡ some x → (b ≡ true) × (x ≡ a)
only_is b a x e = let t = only_some b (some a) e in (t.0, let q = t.1 in cc)

-- ---- the item, by the kind

pub data Case (n : Counts) (k : ℕ) (p : List ℕ) (i : Item) : Type 0 where
  is_agents : k ≡ 0xA1 → 1 ≤ byte p 0 → byte p 0 ≤ 16 → i ≡ agents (byte p 0) → Case n k p i
  is_fluent : k ≡ 0xA2 → i ≡ fluent (fluent_in p) → Case n k p i
  is_knowledge : k ≡ 0xA3 → i ≡ knowledge (knowledge_in p) → Case n k p i
  is_entry : k ≡ 0xA4 → i ≡ entry (entry_in p) → Case n k p i
  is_law_lem : 0xA5 ≤ k → (l : Law) → law_in n k p ≡ some l → i ≡ law l → Case n k p i

agents_in : (p : List ℕ) → agents_fit p ≡ true → (1 ≤ byte p 0) × (byte p 0 ≤ 16)
unfolding agents_fit
agents_in p e =
    let a = both_true (eqb (length p) 1) _ e in
    let b = both_true (leb 1 (byte p 0)) _ a.1 in
    (leb-true 1 (byte p 0) b.0, leb-true (byte p 0) 16 b.1)

item_case : (n : Counts) (k : ℕ) (p : List ℕ) (i : Item) → 0xA1 ≤ k → item_in n k p ≡ some i → Case n k p i
unfolding item_in
item_case n k p i lo q = go (eqb k 0xA1) (eqb k 0xA2) (eqb k 0xA3) (eqb k 0xA4) refl refl refl refl q
  where
    law_is : (o : Option Law) → law_in n k p ≡ o → law_item o ≡ some i → 0xA5 ≤ k → Case n k p i
    law_is none w z h = absurd (let y : ◌≡◌ {A = ℕ} 0 1 = cc in omega arith)
    law_is (some l) w z h = is_law_lem h l w (cc)

    go : (a b c d : Bool) → eqb k 0xA1 ≡ a → eqb k 0xA2 ≡ b → eqb k 0xA3 ≡ c → eqb k 0xA4 ≡ d
        → if_else a (only (agents_fit p) (some (agents (byte p 0)))) (if_else b (only (fluent_fits p) (some (fluent (fluent_in p)))) (if_else c (only (knowledge_fits n p) (some (knowledge (knowledge_in p)))) (if_else d (only (entry_fits n p) (some (entry (entry_in p)))) (law_item (law_in n k p))))) ≡ some i
        → Case n k p i
    go true b c d ea eb ec ed z =
        let t = only_is (agents_fit p) (agents (byte p 0)) i z in
        let l = agents_in p t.0 in
        is_agents (eqb-true _ _ ea) l.0 l.1 t.1
    go false true c d ea eb ec ed z = is_fluent (eqb-true _ _ eb) (only_is (fluent_fits p) (fluent (fluent_in p)) i z).1
    go false false true d ea eb ec ed z = is_knowledge (eqb-true _ _ ec) (only_is (knowledge_fits n p) (knowledge (knowledge_in p)) i z).1
    go false false false true ea eb ec ed z = is_entry (eqb-true _ _ ed) (only_is (entry_fits n p) (entry (entry_in p)) i z).1
    go false false false false ea eb ec ed z =
        let a : k ≡ 0xA1 → ⊥ = eqb-false _ _ ea in
        let b : k ≡ 0xA2 → ⊥ = eqb-false _ _ eb in
        let c : k ≡ 0xA3 → ⊥ = eqb-false _ _ ec in
        let d : k ≡ 0xA4 → ⊥ = eqb-false _ _ ed in
        law_is (law_in n k p) refl z (omega arith)

-- ---- the check, once it is passed

pub record Passed (latest : ℕ) (n : Counts) (es : List Entry) (f : Frame) : Type 0 where
  pub item : Item
  pub checks : checked latest n es f ≡ got item
  pub says : item_in n f.kind f.payload ≡ some item
  pub case : Case n f.kind f.payload item
  pub ordered : in_order latest f.kind ≡ true
  pub order : latest ≤ f.kind
  pub fits : room n f.kind ≡ true

pub need_got : {A : Type 0} (b : Bool) (m : ℕ) (r : Answer A) → none ≡ refused_in (need b m r) → (b ≡ true) × (none ≡ refused_in r)
need_got true m r e = (refl, e)
need_got false m r e = absurd (let z : ◌≡◌ {A = ℕ} 0 1 = cc in omega arith)

pub passed : (latest : ℕ) (n : Counts) (es : List Entry) (f : Frame) → none ≡ refused_in (checked latest n es f) → Passed latest n es f
unfolding checked in_order
passed latest n es f e =
    let a = need_got (in_order latest f.kind) 3 _ e in
    let b = need_got (room n f.kind) 5 _ a.1 in
    let o = both_true (both (leb 0xA1 f.kind) (leb f.kind 0xA9)) _ a.0 in
    let k = both_true (leb 0xA1 f.kind) _ o.0 in
    go (item_in n f.kind f.payload) refl a.0 b.0 (leb-true 0xA1 f.kind k.0) (leb-true latest f.kind o.1) b.1
  where
    go : (o : Option Item) → item_in n f.kind f.payload ≡ o → in_order latest f.kind ≡ true → room n f.kind ≡ true → 0xA1 ≤ f.kind → latest ≤ f.kind
        → none ≡ refused_in (then (known 4 o) (λ item. need (fresh es f) 6 (got item))) → Passed latest n es f
    go none q a b lo la z = absurd (let y : ◌≡◌ {A = ℕ} 0 1 = cc in omega arith)
    go (some i) q a b lo la z =
        let w = need_got (fresh es f) 6 (got i) z in
        record {
          item = i;
          checks = rw (a, b, q, w.0);
          says = q;
          case = item_case n f.kind f.payload i lo q;
          ordered = a;
          order = la;
          fits = b;
        }

-- ---- a law, by its kind

-- what stands where a number was taken
below_is : {L : Type 0} (limit : ℕ) (p : List ℕ) (k : ℕ → List ℕ → Option L) (l : L) → below limit p k ≡ some l
    → (byte p 0 < limit) × ((r : List ℕ) × (k (byte p 0) r ≡ some l))
below_is limit [] k l e = absurd (let z : ◌≡◌ {A = ℕ} 0 1 = cc in omega arith)
below_is limit (x ∷ r) k l e = let t = only_some (ltb x limit) (k x r) e in (ltb-true x limit t.0, (r, t.1))

pub data Form (n : Counts) (k : ℕ) (p : List ℕ) (l : Law) : Type 0 where
  is_executable : k ≡ executable_kind → byte p 0 < n.entries → (c : Con) → l ≡ executable (byte p 0) c → Form n k p l
  is_effect : k ≡ effect_kind → (c : Con) (f : ℕ) (x : Expr) → l ≡ effect (byte p 0) c f x → Form n k p l
  is_must : (s : Scope) → k ≡ scope_kind s → (c : Con) → l ≡ must s c → Form n k p l

module _ (n : Counts) (k : ℕ) (p : List ℕ) (l : Law) where
  executable_form : k ≡ executable_kind → executable_in n p ≡ some l → Form n k p l
  unfolding executable_in
  executable_form q e =
      let b = below_is n.entries p (λ i rest. con_in (context n true) rest (λ c. last (executable i c))) l e in
      let t = taken_some _ b.1.0 (parse_c 16 b.1.0) (λ c. last (executable (byte p 0) c)) b.1.1 in
      is_executable q b.0 t.tree (sym (last_some (executable (byte p 0) t.tree) (drop t.used b.1.0) t.rest))

  effect_form : k ≡ effect_kind → effect_in n p ≡ some l → Form n k p l
  unfolding effect_in
  effect_form q e =
      let b = below_is n.entries p (λ i rest. con_in (context n true) rest (λ c rest. below n.fluents rest (λ f rest. expr_in (context n true) rest (λ x. last (effect i c f x))))) l e in
      let i = byte p 0 in
      let t = taken_some _ b.1.0 (parse_c 16 b.1.0) (λ c rest. below n.fluents rest (λ f rest. expr_in (context n true) rest (λ x. last (effect i c f x)))) b.1.1 in
      let r = drop t.used b.1.0 in
      let g = below_is n.fluents r (λ f rest. expr_in (context n true) rest (λ x. last (effect i t.tree f x))) l t.rest in
      let f = byte r 0 in
      let x = taken_some _ g.1.0 (parse_e 16 g.1.0) (λ x. last (effect i t.tree f x)) g.1.1 in
      is_effect q t.tree f x.tree (sym (last_some (effect i t.tree f x.tree) (drop x.used g.1.0) x.rest))

  must_form : (s : Scope) → k ≡ scope_kind s → must_in s n p ≡ some l → Form n k p l
  unfolding must_in
  must_form s q e =
      let t = taken_some _ p (parse_c 16 p) (λ c. last (must s c)) e in
      is_must s q t.tree (sym (last_some (must s t.tree) (drop t.used p) t.rest))

  pub law_form : law_in n k p ≡ some l → Form n k p l
  unfolding law_in
  law_form e = go (eqb k 0xA5) (eqb k 0xA6) (eqb k 0xA7) (eqb k 0xA8) (eqb k 0xA9) refl refl refl refl refl e
    where
      go : (a b c d g : Bool) → eqb k 0xA5 ≡ a → eqb k 0xA6 ≡ b → eqb k 0xA7 ≡ c → eqb k 0xA8 ≡ d → eqb k 0xA9 ≡ g
          → if_else a (executable_in n p) (if_else b (effect_in n p) (if_else c (must_in static n p) (if_else d (must_in concurrency n p) (if_else g (must_in goal n p) none)))) ≡ some l
          → Form n k p l
      go true b c d g ea eb ec ed eg z = executable_form (eqb-true k 0xA5 ea) z
      go false true c d g ea eb ec ed eg z = effect_form (eqb-true k 0xA6 eb) z
      go false false true d g ea eb ec ed eg z = must_form static (eqb-true k 0xA7 ec) z
      go false false false true g ea eb ec ed eg z = must_form concurrency (eqb-true k 0xA8 ed) z
      go false false false false true ea eb ec ed eg z = must_form goal (eqb-true k 0xA9 eg) z
      go false false false false false ea eb ec ed eg z = absurd (let y : ◌≡◌ {A = ℕ} 0 1 = cc in omega arith)

-- ---- which entry a law is an executability law of

pub data Executes (n : Counts) (k : ℕ) (p : List ℕ) (l : Law) : Type 0 where
  this : k ≡ 0xA5 → byte p 0 < n.entries → ((i : ℕ) → executes i l ≡ eqb (byte p 0) i) → Executes n k p l
  other : eqb k 0xA5 ≡ false → ((i : ℕ) → executes i l ≡ false) → Executes n k p l

not_executable : (s : Scope) → eqb (scope_kind s) 0xA5 ≡ false
not_executable static = refl
not_executable concurrency = refl
not_executable goal = refl

pub law_executes : (n : Counts) (k : ℕ) (p : List ℕ) (l : Law) → law_in n k p ≡ some l → Executes n k p l
law_executes n k p l e = go (law_form n k p l e)
  where
    go : Form n k p l → Executes n k p l
    go (is_executable q below c z) = this q below (λ i. ap (executes i) z)
    go (is_effect q c f x z) = other (ap (λ j. eqb j 0xA5) q) (λ i. ap (executes i) z)
    go (is_must s q c z) = other (ap (λ j. eqb j 0xA5) q ∙ not_executable s) (λ i. ap (executes i) z)

-- the entry of an executability law
pub passed_entry : (latest : ℕ) (n : Counts) (es : List Entry) (f : Frame) → Passed latest n es f → n.entries ≤ 64 → f.kind ≡ 0xA5 → byte f.payload 0 < 64
passed_entry latest n es f v few q = go v.case
  where
    by : (l : Law) → Executes n f.kind f.payload l → byte f.payload 0 < 64
    by l (this k e x) = omega arith
    by l (other k x) = absurd (let z : ◌≡◌ {A = Bool} true false = sym (eq-eqb f.kind 0xA5 q) ∙ k in let y : ◌≡◌ {A = ℕ} 0 1 = cc in omega arith)

    go : Case n f.kind f.payload v.item → byte f.payload 0 < 64
    go (is_agents k lo hi e) = absurd (omega arith)
    go (is_fluent k e) = absurd (omega arith)
    go (is_knowledge k e) = absurd (omega arith)
    go (is_entry k e) = absurd (omega arith)
    go (is_law_lem k l w e) = by l (law_executes n f.kind f.payload l w)

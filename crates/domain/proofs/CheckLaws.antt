-- The check of one frame, refusal by refusal. Assumes nothing.
use Rattle.std.proofs.Common.{ℕ, ◌≤◌, ◌<◌, ◌≡◌, refl, sym, ◌∙◌, Bool, true, false, not, ◌&&◌, ◌||◌, List, [], ◌∷◌, map, eqb, ltb, arith}
use Rattle.std.proofs.Math.Option.{Option, none, some}
use Rattle.std.specs.List.{list_any}
use mathlib.Core.Bool.{beq}
use borrow.Author.Tests.{ltb-true, eqb-true, eqb-false, eq-eqb, ne_eqb}
use Rattle.bmap.specs.Plain.{both, either, any, all}
use Rattle.bmap.specs.Refusal.{got, need, known, then}
use Rattle.bmap.specs.Line.{Frame}
use Rattle.bmap.specs.Domain.{Entry}
use Rattle.bmap.specs.Payload.{Item, byte, word_at, entry_in, item_in}
use Rattle.bmap.specs.Accept.{in_order, room, alike, fresh, checked}
use Rattle.bmap.specs.declared.limits.Counts.{Counts}
use Rattle.index.specs.Index.{entry_said}
use Rattle.index.specs.declared.Entry.{Entry as EntryRow}
use Rattle.domain.specs.Check.{is_some, refused_in}
use Rattle.domain.specs.Found.{entry_row}

-- ---- 5

module _ (n : Counts) (kind : ℕ) where
  pub room_law : (kind ≡ 0xA1 → ⊥) → (kind ≡ 0xA2 → ⊥) → (kind ≡ 0xA3 → ⊥) → (kind ≡ 0xA4 → ⊥) → ltb n.laws 128 ≡ room n kind
  unfolding room
  room_law a b c d = simp (ne_eqb kind 0xA1 a, ne_eqb kind 0xA2 b, ne_eqb kind 0xA3 c, ne_eqb kind 0xA4 d)

  module _ (e : room n kind ≡ true) where
    pub room_agents : kind ≡ 0xA1 → n.agents ≡ 0
    unfolding room
    room_agents q = eqb-true _ _ (rw q at e)

    pub room_fluents : kind ≡ 0xA2 → n.fluents < 32
    unfolding room
    room_fluents q = ltb-true _ _ (rw q at e)

    pub room_knowledge : kind ≡ 0xA3 → n.knowledge < 64
    unfolding room
    room_knowledge q = ltb-true _ _ (rw q at e)

    pub room_entries : kind ≡ 0xA4 → n.entries < 64
    unfolding room
    room_entries q = ltb-true _ _ (rw q at e)

    pub room_laws : 0xA5 ≤ kind → n.laws < 128
    room_laws h = ltb-true _ _ (room_law (λ q. omega arith) (λ q. omega arith) (λ q. omega arith) (λ q. omega arith) ∙ e)

-- ---- 6, once 3, 5 and 4 are passed

module _ (latest : ℕ) (n : Counts) (es : List Entry) (f : Frame) where
  pub only_fresh : true ≡ in_order latest f.kind → true ≡ room n f.kind → true ≡ is_some (item_in n f.kind f.payload) → (t : Bool) → fresh es f ≡ t
      → refused_in (need t 6 (got (tt {0}))) ≡ refused_in (checked latest n es f)
  unfolding checked
  only_fresh a b i t e = rw (← a, ← b, e) (go (item_in n f.kind f.payload) i t)
    where
      go : (o : Option Item) → true ≡ is_some o → (t : Bool) → refused_in (need t 6 (got (tt {0}))) ≡ refused_in (then (known 4 o) (λ item. need t 6 (got item)))
      go none q t = absurd (let z : ◌≡◌ {A = ℕ} 0 1 = cc in omega arith)
      go (some x) q true = refl
      go (some x) q false = refl

pub fresh_other : (es : List Entry) (f : Frame) → (f.kind ≡ 0xA4 → ⊥) → fresh es f ≡ true
unfolding fresh
fresh_other es f h = rw (ne_eqb f.kind 0xA4 h)

pub fresh_entry : (es : List Entry) (f : Frame) (b : Bool) → f.kind ≡ 0xA4 → b ≡ any (alike (entry_in f.payload)) es → fresh es f ≡ not b
unfolding fresh
fresh_entry es f b k e = rw (k, ← e)

-- ---- tests of a slice

and_both : (a b : Bool) → (a && b) ≡ both a b
and_both true b = refl
and_both false b = refl

eqb_swap : (a b : ℕ) → eqb a b ≡ eqb b a
eqb_swap a b = go (eqb a b) refl
  where
    go : (t : Bool) → eqb a b ≡ t → t ≡ eqb b a
    go true e = sym (eq-eqb b a (sym (eqb-true a b e)))
    go false e = sym (ne_eqb b a (λ z. eqb-false a b e (sym z)))

module _ {A B : Type 0} (f : A → Bool) (g : A → B) (P : B → Bool) (h : (a : A) → f a ≡ P (g a)) where
  pub any_mapped : (l : List A) → list_any f l ≡ any P (map g l)
  unfolding any
  any_mapped [] = refl
  any_mapped (a ∷ l) = rw (any_mapped l, h a) (or_either (P (g a)) (any P (map g l)))
    where
      or_either : (a b : Bool) → (a || b) ≡ either a b
      or_either true b = refl
      or_either false b = refl

-- an entry is another as it is read off a payload
pub same_entry : (p : List ℕ) (e : EntryRow) → e ≡ entry_row (entry_in p) → (y : EntryRow) → (eqb y.name e.name && eqb y.crew e.crew) ≡ alike (entry_in p) (entry_said y)
same_entry p e is y = rw (is, eqb_swap y.name (byte p 0), eqb_swap y.crew (word_at p 1)) (and_both (eqb (byte p 0) y.name) (eqb (word_at p 1) y.crew))

-- all of a list are true
pub none_false : (l : List Bool) → not (list_any (λ b. beq b false) l) ≡ all (λ b. b) l
unfolding all
none_false [] = refl
none_false (true ∷ l) = none_false l
none_false (false ∷ l) = refl

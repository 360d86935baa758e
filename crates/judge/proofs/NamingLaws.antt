-- For each name, the agents who give another, and the entries that occur by it. Assumes nothing.
use Prim.Native.Nat.{ℕ, zero, suc, ◌+◌, ◌-◌, ◌^◌, ◌≤◌, ◌<◌}
use mathlib.Core.Path.{◌≡◌, refl, sym, ap, ◌∙◌}
use mathlib.Core.List.{List}
use mathlib.Core.Bool.{Bool, true, false, not}
use native.Mathlib.Omega.{arith}
use native.Mathlib.Decide.{dec_lt, ℕ_discrete}
use lib.Bits.{bit_and}
use lib.Dec.{eqb, leb}
use lib.ListN.{length, get_or, set, replicate, get_or-replicate}
use lib.Seq.{ext_get_or, get_or-set_same, get_or-set_other}
use borrow.Author.Tests.{eqb-true, eq-eqb, ne_eqb, le-leb, lt-leb}
use Rattle.bmap.specs.Plain.{either, both, implies, any, all, numbers}
use Rattle.bmap.specs.Domain.{Names, has, follows}
use Rattle.bmap.proofs.PlainLaws.{both_true}
use Rattle.judge.specs.Masks.{mask_from, joins, name_count, differs, Others}
use Rattle.judge.proofs.MaskLaws.{mask_bit, mask_lt, pow-suc, any_same, shares}

-- ---- masks that differ in one bit

pub mask_same : (p q : ℕ → Bool) (i n : ℕ) → ((b : ℕ) → i ≤ b → b < i + n → p b ≡ q b) → mask_from p i n ≡ mask_from q i n
unfolding mask_from
mask_same p q i zero e = refl
mask_same p q i (suc n) e = rw (e i (omega arith) (omega arith), mask_same p q (suc i) n (λ b h g. e b (omega arith) (omega arith)))

mask_clear : (p q : ℕ → Bool) (i n a : ℕ) → i ≤ a → a < i + n → p a ≡ true → q a ≡ false → ((b : ℕ) → (b ≡ a → ⊥) → p b ≡ q b) → mask_from p i n ≡ mask_from q i n + 2 ^ (a - i)
unfolding mask_from
mask_clear p q i zero a h g s t e = absurd (omega arith)
mask_clear p q i (suc n) a h g s t e = elim (ℕ_discrete i a) [
  | yes r ↦
      let z : a - i ≡ 0 = omega arith in
      rw (z, mask_same p q (suc i) n (λ b y x. e b (λ w. omega arith)), ap p r ∙ s, ap q r ∙ t) (omega arith)
  | no r ↦
      let z : a - i ≡ suc (a - suc i) = omega arith in
      let y : mask_from p (suc i) n ≡ mask_from q (suc i) n + 2 ^ (a - suc i) = mask_clear p q (suc i) n a (omega arith) (omega arith) s t e in
      rw (z, e i r, pow-suc (a - suc i)) (omega arith)
]

-- all of them
pub everyone_is : (i n : ℕ) → mask_from (λ _. true) i n + 1 ≡ 2 ^ n
unfolding mask_from
everyone_is i zero = refl
everyone_is i (suc n) = let z : mask_from (λ _. true) (suc i) n + 1 ≡ 2 ^ n = everyone_is (suc i) n in rw (pow-suc n) (omega arith)

-- ---- the table, agent after agent

-- agent b gives another name than k, or was not asked among the first m
abbrev pub waits : Names → ℕ → ℕ → ℕ → Bool
waits names m k b = either (leb m b) (differs names k b)

abbrev pub Asked : Names → ℕ → List ℕ → Type 0
Asked names m others = (k : ℕ) → k < name_count → get_or others k 0 ≡ mask_from (waits names m k) 0 (length names)

pub asked_none : (names : Names) {mask : ℕ} → mask ≡ mask_from (λ _. true) 0 (length names) → Asked names 0 (replicate name_count mask)
asked_none names {mask} e k h =
    get_or-replicate name_count k mask 0 h
    ∙ (e ∙ mask_same (λ _. true) (waits names 0 k) 0 (length names) (λ b p q. sym (ap (λ (t : Bool). either t (differs names k b)) (le-leb 0 b (omega arith)))))

pub asked_all : (names : Names) (m : ℕ) (others : List ℕ) → length names ≤ m → Asked names m others → Others names others
asked_all names m others p asked k h =
    asked k h ∙ mask_same (waits names m k) (differs names k) 0 (length names) (λ b q r. ap (λ (t : Bool). either t (differs names k b)) (lt-leb m b (omega arith)))

module _ (names : Names) (a : ℕ) (named : a < length names) where
  abbrev name : ℕ
  name = get_or names a 0

  others_wait : (k b : ℕ) → (b ≡ a → ⊥) → waits names a k b ≡ waits names (a + 1) k b
  others_wait k b n =
      let z : leb a b ≡ leb (a + 1) b = elim (dec_lt a b) [
        | yes h ↦ le-leb a b (omega arith) ∙ sym (le-leb (a + 1) b (omega arith))
        | no h ↦ lt-leb a b (omega arith) ∙ sym (lt-leb (a + 1) b (omega arith))
      ] in
      ap (λ (t : Bool). either t (differs names k b)) z

  now_waits : (k : ℕ) → waits names a k a ≡ true
  now_waits k = ap (λ (t : Bool). either t (differs names k a)) (le-leb a a (omega arith))

  then_waits : (k : ℕ) → waits names (a + 1) k a ≡ differs names k a
  then_waits k = ap (λ (t : Bool). either t (differs names k a)) (lt-leb (a + 1) a (omega arith))

  -- whose own name it is waits no more
  own : mask_from (waits names a name) 0 (length names) ≡ mask_from (waits names (a + 1) name) 0 (length names) + 2 ^ a
  own =
      mask_clear (waits names a name) (waits names (a + 1) name) 0 (length names) a (omega arith) (omega arith) (now_waits name) (then_waits name ∙ ap not (eq-eqb name name refl)) (others_wait name)
      ∙ ap (λ (k : ℕ). mask_from (waits names (a + 1) name) 0 (length names) + 2 ^ k) (let z : a - 0 ≡ a = omega arith in z)

  other : (k : ℕ) → (name ≡ k → ⊥) → mask_from (waits names a k) 0 (length names) ≡ mask_from (waits names (a + 1) k) 0 (length names)
  other k n = mask_same (waits names a k) (waits names (a + 1) k) 0 (length names) (λ b p q. elim (ℕ_discrete b a) [
    | yes e ↦ ap (waits names a k) e ∙ (now_waits k ∙ (sym (ap not (ne_eqb name k n)) ∙ (sym (then_waits k) ∙ ap (waits names (a + 1) k) (sym e))))
    | no e ↦ others_wait k b e
  ])

  module _ (others : List ℕ) (asked : Asked names a others) (byte : name < name_count) where
    pub asked_has : 2 ^ a ≤ get_or others name 0
    asked_has = omega (arith, asked name byte, own)

    pub asked_more : {mask : ℕ} → length others ≡ name_count → mask ≡ get_or others name 0 - 2 ^ a → Asked names (a + 1) (set others name mask)
    asked_more {mask} long e k h = elim (ℕ_discrete name k) [
      | yes q ↦ ap (λ (i : ℕ). get_or (set others name mask) i 0) (sym q) ∙ (get_or-set_same others name mask 0 (omega arith) ∙ (e ∙ (less ∙ ap (λ (i : ℕ). mask_from (waits names (a + 1) i) 0 (length names)) q)))
      | no q ↦ get_or-set_other others name k mask 0 (λ r. q (sym r)) ∙ (asked k h ∙ other k q)
    ]
      where
        less : get_or others name 0 - 2 ^ a ≡ mask_from (waits names (a + 1) name) 0 (length names)
        less = omega (arith, asked name byte, own)

-- ---- an entry occurs

nobody : (s t : Bool) → implies t s ≡ not (both (not s) t)
nobody true true = refl
nobody true false = refl
nobody false true = refl
nobody false false = refl

not_either : (s t : Bool) → both (not s) (not t) ≡ not (either s t)
not_either true t = refl
not_either false t = refl

none_other : (names : Names) (action crew i n : ℕ) → all (follows names (record { name = action; crew = crew })) (numbers i n) ≡ not (any (λ a. both (differs names action a) (has crew a)) (numbers i n))
unfolding all any numbers
none_other names action crew i zero = refl
none_other names action crew i (suc n) =
    rw (nobody (eqb (get_or names i 0) action) (has crew i), none_other names action crew (suc i) n)
    (not_either (both (differs names action i) (has crew i)) (any (λ a. both (differs names action a) (has crew a)) (numbers (suc i) n)))

pub joins_by : (names : Names) (action crew : ℕ) {mask : ℕ} {t : Bool} → mask ≡ mask_from (differs names action) 0 (length names) → t ≡ not (eqb (bit_and mask crew) 0) → not t ≡ joins names action crew
unfolding joins
joins_by names action crew {mask} e q =
    let n = length names in
    ap not (q ∙ (ap (λ (m : ℕ). not (eqb (bit_and m crew) 0)) e ∙ (shares n (mask_from (differs names action) 0 n) crew (mask_lt (differs names action) 0 n)
    ∙ any_same (λ a. both (has (mask_from (differs names action) 0 n) a) (has crew a)) (λ a. both (differs names action a) (has crew a)) 0 n
    (λ a p r. ap (λ (t : Bool). both t (has crew a)) (mask_bit (differs names action) 0 n a (omega arith) ∙ ap (differs names action) (let z : 0 + a ≡ a = omega arith in z))))))
    ∙ sym (none_other names action crew 0 n)

-- ---- a step with the names of the one before

pub same_all : (names before : List ℕ) (a : ℕ) → length before ≡ length names → length names ≤ a → ((k : ℕ) → k < a → get_or before k 0 ≡ get_or names k 0) → before ≡ names
same_all names before a long h same = ext_get_or 0 before names long (λ k p. same k (omega arith))

pub same_more : (names before : List ℕ) (a : ℕ) (same : Bool) {r : Bool} → (same ≡ true → (k : ℕ) → k < a → get_or before k 0 ≡ get_or names k 0) → r ≡ both same (eqb (get_or names a 0) (get_or before a 0)) → r ≡ true → (k : ℕ) → k < a + 1 → get_or before k 0 ≡ get_or names k 0
same_more names before a same so_far e t k p =
    let b = both_true same (eqb (get_or names a 0) (get_or before a 0)) (sym e ∙ t) in elim (dec_lt k a) [
      | yes q ↦ so_far b.0 k q
      | no q ↦ let z : k ≡ a = omega arith in ap (λ (i : ℕ). get_or before i 0) z ∙ (sym (eqb-true (get_or names a 0) (get_or before a 0) b.1) ∙ ap (λ (i : ℕ). get_or names i 0) (sym z))
    ]

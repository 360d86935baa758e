-- The states of a history, kept, filled and copied out. Assumes nothing.
use Prim.Native.Nat.{ℕ, zero, suc, ◌+◌, ◌-◌, ◌*◌, ◌≤◌, ◌<◌}
use mathlib.Core.Path.{◌≡◌, refl, sym, ap, subst, ◌∙◌}
use mathlib.Core.Bool.{Bool, true, false}
use mathlib.Core.List.{List, [], ◌∷◌, ◌++◌, map, append_assoc, append-nil}
use native.Mathlib.Numerals.{add-one}
use native.Mathlib.Nat.{suc-mul}
use native.Mathlib.Omega.{arith}
use native.Mathlib.Decide.{dec_lt}
use lib.IntN.{ℤ, pos}
use mir.Val.{bool_byte}
use lib.ListN.{length, get_or, take, drop, set, length-drop, length-append, get_or-append}
use lib.Seq.{get_or-set_same, get_or-set_other, get_or-append_seam, get_or-take, get_or-drop, take-take, take-suc-set, take-set-le, drop-set-lt, drop-set-add, length-take-le, paste, paste-suc, length-paste, take-paste, drop-paste, take_at, drop_at, take-append-add, drop-drop}
use Rattle.bmap.specs.Plain.{flat, numbers}
use Rattle.bmap.specs.Limits.{most_fluents, most_entries, most_steps}
use Rattle.bmap.specs.Domain.{State, has}
use Rattle.law.proofs.Bits.{no_bit}
use Rattle.bmap.specs.Buffer.{over}
use Rattle.law.specs.Evaluate.{row_size, history_size, cell_at, marked, in_step}
use Rattle.index.specs.declared.Fluent.{Fluent}
use Rattle.index.specs.Index.{no_fluent}
use Rattle.judge.specs.States.{state_at, starts_of, states_of, Between, Blank, marks_from}

-- ---- the first elements alone

module _ {A B : Type 0} (g : A → B) (z : A) where
  same_from : (l m : List A) (i n : ℕ) → ((k : ℕ) → i ≤ k → k < i + n → get_or l k z ≡ get_or m k z) → map (λ k. g (get_or l k z)) (numbers i n) ≡ map (λ k. g (get_or m k z)) (numbers i n)
  unfolding numbers
  same_from l m i zero e = refl
  same_from l m i (suc n) e = rw (e i (omega arith) (omega arith), same_from l m (suc i) n (λ k p q. e k (omega arith) (omega arith)))

  pub first_same : (l : List A) (n : ℕ) → map (λ k. g (get_or l k z)) (numbers 0 n) ≡ map (λ k. g (get_or (take n l) k z)) (numbers 0 n)
  first_same l n = same_from l (take n l) 0 n (λ k p q. sym (get_or-take n l k z (omega arith)))

-- ---- numbers copied one by one

pub copy_more : {A : Type 0} (z : A) (d : List A) (at n f : ℕ) (h l : List A) {v : A} → l ≡ paste d at (drop n h) f → v ≡ get_or h (n + f) z → at + f < length d → n + f < length h
    → set l (at + f) v ≡ paste d at (drop n h) (f + 1)
copy_more {A} z d at n f h l {v} e q p r =
    ap (λ (m : List A). set m (at + f) v) e
    ∙ (ap (λ (y : A). set (paste d at (drop n h) f) (at + f) y) (q ∙ sym (get_or-drop n h f z))
    ∙ (paste-suc d at (drop n h) f z p (omega (arith, length-drop n h)) ∙ ap (λ (k : ℕ). paste d at (drop n h) k) (sym (add-one f))))

-- ---- the states of a history

pub states_length : (w n : ℕ) (h : List ℤ) → length (states_of w n h) ≡ n
unfolding states_of
states_length w zero h = refl
states_length w (suc n) h = length-append (states_of w n h) (state_at w h n ∷ []) ∙ (let z : length (states_of w n h) ≡ n = states_length w n h in omega arith)

pub states_at : (w n k : ℕ) (h : List ℤ) → k < n → get_or (states_of w n h) k [] ≡ state_at w h k
unfolding states_of
states_at w zero k h p = absurd (omega arith)
states_at w (suc n) k h p = elim (dec_lt k n) [
  | yes q ↦ get_or-append (states_of w n h) (state_at w h n ∷ []) [] k (omega (arith, states_length w n h)) ∙ states_at w n k h q
  | no q ↦ let z : k ≡ length (states_of w n h) = omega (arith, states_length w n h) in
      rw z (get_or-append_seam (states_of w n h) (state_at w h n) [] [] ∙ ap (λ (m : ℕ). state_at w h m) (sym (states_length w n h)))
]

pub level_of : (w k f : ℕ) (h : List ℤ) → f < w → get_or (state_at w h k) f (pos 0) ≡ cell_at h k f
level_of w k f h p = get_or-take w (drop (row_size * k) h) f (pos 0) p ∙ get_or-drop (row_size * k) h f (pos 0)

-- a level of state k
pub level_in_lem : (w n k f : ℕ) (h : List ℤ) → k < n → f < w → get_or (get_or (states_of w n h) k []) f (pos 0) ≡ cell_at h k f
level_in_lem w n k f h p q = ap (λ (s : State). get_or s f (pos 0)) (states_at w n k h p) ∙ level_of w k f h q

pub part_take : {A : Type 0} (p w n : ℕ) (h : List A) → p + w ≤ n → take w (drop p (take n h)) ≡ take w (drop p h)
part_take zero w n h q = take-take w n h (omega arith)
part_take (suc p) w zero h q = absurd (omega arith)
part_take (suc p) w (suc n) [] q = refl
part_take (suc p) w (suc n) (a ∷ h) q = part_take p w n h (omega arith)

pub state_kept : (w n k : ℕ) (h h' : List ℤ) → take n h' ≡ take n h → row_size * k + w ≤ n → state_at w h' k ≡ state_at w h k
state_kept w n k h h' e p = sym (part_take (row_size * k) w n h' p) ∙ (ap (λ (l : List ℤ). take w (drop (row_size * k) l)) e ∙ part_take (row_size * k) w n h p)

pub states_kept : (w n m : ℕ) (h h' : List ℤ) → take n h' ≡ take n h → w ≤ most_fluents → row_size * m ≤ n + most_entries → states_of w m h' ≡ states_of w m h
unfolding states_of
states_kept w n zero h h' e p q = refl
states_kept w n (suc m) h h' e p q = rw (states_kept w n m h h' e p (omega arith), state_kept w n m h h' e (omega arith))

-- one more state
pub states_more : (w j : ℕ) (h h' : List ℤ) → take (row_size * (j + 1)) h' ≡ take (row_size * (j + 1)) h → w ≤ most_fluents
    → states_of w (j + 1 + 1) h' ≡ states_of w (j + 1) h ++ (state_at w h' (j + 1) ∷ [])
unfolding states_of
states_more w j h h' e p = ap (λ (n : ℕ). states_of w n h') (add-one (j + 1)) ∙ ap (λ (l : List State). l ++ (state_at w h' (j + 1) ∷ [])) (states_kept w (row_size * (j + 1)) (j + 1) h h' e p (omega arith))

pub states_one : (w : ℕ) (h : List ℤ) {s : State} → state_at w h 0 ≡ s → states_of w 1 h ≡ s ∷ []
unfolding states_of
states_one w h e = ap (λ (s : State). s ∷ []) e

-- ---- what a call leaves as it is

pub same_before : {A : Type 0} (z : A) (n i : ℕ) (h h' : List A) → take n h' ≡ take n h → i < n → get_or h' i z ≡ get_or h i z
same_before {A} z n i h h' e p = sym (get_or-take n h' i z p) ∙ (ap (λ (l : List A). get_or l i z) e ∙ get_or-take n h i z p)

pub same_after : {A : Type 0} (z : A) (n i : ℕ) (h h' : List A) → drop n h' ≡ drop n h → n ≤ i → get_or h' i z ≡ get_or h i z
same_after {A} z n i h h' e p =
    let y : n + (i - n) ≡ i = omega arith in
    ap (λ (k : ℕ). get_or h' k z) (sym y) ∙ (sym (get_or-drop n h' (i - n) z) ∙ (ap (λ (l : List A). get_or l (i - n) z) e ∙ (get_or-drop n h (i - n) z ∙ ap (λ (k : ℕ). get_or h k z) y)))

module _ (from to : ℕ) (h h' : List ℤ) (b : Between from to h h') where
  pub between_set : (i : ℕ) (v : ℤ) → from ≤ i → i < to → Between from to h (set h' i v)
  between_set i v p q = record { before = take-set-le from h' i v p ∙ b.before; after = drop-set-lt to h' i v q ∙ b.after }

  -- what was blank from a place on is so from the end of what may have changed
  pub between_blank : (n : ℕ) → n ≤ to → Blank n h → Blank to h'
  between_blank n p blank i q = same_after (pos 0) to i h h' b.after q ∙ blank i (omega arith)

-- ---- the marks of a step

pub in_step_lem : (h : List ℤ) (j e : ℕ) → in_step h e (j + 1) ≡ marked (get_or h (marks_from j + e) (pos 0))
in_step_lem h j e = ap (λ (k : ℕ). marked (get_or h k (pos 0))) (let z : row_size * (j + 1 - 1) + (most_fluents + e) ≡ row_size * j + most_fluents + e = omega arith in z)

-- none where nothing was written
pub marks_none : (h : List ℤ) (j e : ℕ) → Blank (marks_from j) h → in_step h e (j + 1) ≡ has 0 e
marks_none h j e blank = in_step_lem h j e ∙ (ap marked (blank (marks_from j + e) (omega arith)) ∙ no_bit 0 0 e (omega arith) (omega arith))

-- 1 where an entry occurs
abbrev pub mark_of : Bool → ℤ
mark_of true = pos 1
mark_of false = pos 0

pub mark_byte : (b : Bool) → pos (bool_byte b) ≡ mark_of b
mark_byte true = refl
mark_byte false = refl

marked_is : (b : Bool) → marked (mark_of b) ≡ b
marked_is true = refl
marked_is false = refl

pub marks_more : (h : List ℤ) (at mask i : ℕ) {v : ℤ} → at + i < length h → v ≡ mark_of (has mask i) → ((e : ℕ) → e < i → marked (get_or h (at + e) (pos 0)) ≡ has mask e)
    → (e : ℕ) → e < i + 1 → marked (get_or (set h (at + i) v) (at + e) (pos 0)) ≡ has mask e
marks_more h at mask i {v} p q before e r = elim (dec_lt e i) [
  | yes s ↦ ap marked (get_or-set_other h (at + i) (at + e) v (pos 0) (λ z. omega arith)) ∙ before e s
  | no s ↦ let y : e ≡ i = omega arith in
      ap (λ (k : ℕ). marked (get_or (set h (at + i) v) (at + k) (pos 0))) y ∙ (ap marked (get_or-set_same h (at + i) v (pos 0) p ∙ q) ∙ (marked_is (has mask i) ∙ ap (has mask) (sym y)))
]

-- ---- a row that is filled, a level at a time

pub map_snoc : {A : Type 0} (g : ℕ → A) (i n : ℕ) → map g (numbers i (suc n)) ≡ map g (numbers i n) ++ (g (i + n) ∷ [])
unfolding numbers
map_snoc g i zero = ap (λ (k : ℕ). g k ∷ []) (omega arith)
map_snoc {A} g i (suc n) = ap (λ (t : List A). g i ∷ t) (map_snoc g (suc i) n ∙ ap (λ (k : ℕ). map g (numbers (suc i) n) ++ (g k ∷ [])) (omega arith))

pub row_none : (g : ℕ → ℤ) (n : ℕ) (h : List ℤ) → take 0 (drop n h) ≡ map g (numbers 0 0)
unfolding numbers
row_none g n h = refl

pub row_more : (g : ℕ → ℤ) (n f : ℕ) (v : ℤ) (h : List ℤ) → n + f < length h → take f (drop n h) ≡ map g (numbers 0 f) → v ≡ g f
    → take (f + 1) (drop n (set h (n + f) v)) ≡ map g (numbers 0 (f + 1))
row_more g n f v h p e q =
    rw (add-one f, drop-set-add n h f v, take-suc-set (drop n h) f v (omega (arith, length-drop n h)), e, map_snoc g 0 f)
    (ap (λ (z : ℤ). map g (numbers 0 f) ++ (z ∷ [])) (q ∙ ap g (omega arith)))

pub row_whole : (g : ℕ → ℤ) (n f w : ℕ) (h : List ℤ) → f ≡ w → take f (drop n h) ≡ map g (numbers 0 f) → take w (drop n h) ≡ map g (numbers 0 w)
row_whole g n f w h e p = rw (← e) p

-- the start values
pub starts_none : (fluents : List Fluent) (h : List ℤ) → take 0 h ≡ starts_of fluents 0
unfolding numbers
starts_none fluents h = refl

pub starts_more : (fluents : List Fluent) (f : ℕ) (h : List ℤ) {v : ℤ} → f < length h → take f h ≡ starts_of fluents f → v ≡ (get_or fluents f no_fluent).start → take (f + 1) (set h f v) ≡ starts_of fluents (f + 1)
starts_more fluents f h {v} p e q =
    rw (add-one f, take-suc-set h f v p, e, map_snoc (λ f. (get_or fluents f no_fluent).start) 0 f)
    (ap (λ (z : ℤ). starts_of fluents f ++ (z ∷ [])) (q ∙ ap (λ (k : ℕ). (get_or fluents k no_fluent).start) (omega arith)))

pub starts_taken : (w : ℕ) (fluents : List Fluent) (h : List ℤ) → w ≤ length fluents → take (length (take w fluents)) h ≡ starts_of (take w fluents) (length (take w fluents)) → take w h ≡ starts_of fluents w
starts_taken w fluents h p e =
    subst (λ (k : ℕ). take k h ≡ starts_of (take w fluents) k) (length-take-le w fluents p) e
    ∙ sym (first_same (λ (f : Fluent). f.start) no_fluent fluents w)

-- ---- the states, copied out

flat_snoc : (l : List State) (s : State) → flat (l ++ (s ∷ [])) ≡ flat l ++ s
unfolding flat
flat_snoc [] s = append-nil s
flat_snoc (a ∷ l) s = ap (λ (t : List ℤ). a ++ t) (flat_snoc l s) ∙ sym (append_assoc a (flat l) s)

module _ (w k : ℕ) (h : List ℤ) (p : row_size * k + w ≤ length h) where
  pub state_length : length (state_at w h k) ≡ w
  state_length = length-take-le w (drop (row_size * k) h) (omega (arith, length-drop (row_size * k) h))

  flat_more : flat (states_of w (k + 1) h) ≡ flat (states_of w k h) ++ state_at w h k
  unfolding states_of
  flat_more = ap (λ (n : ℕ). flat (states_of w n h)) (add-one k) ∙ flat_snoc (states_of w k h) (state_at w h k)

  pub flat_length : length (flat (states_of w (k + 1) h)) ≡ length (flat (states_of w k h)) + w
  flat_length = ap length flat_more ∙ (length-append (flat (states_of w k h)) (state_at w h k) ∙ ap (λ (n : ℕ). length (flat (states_of w k h)) + n) state_length)

-- so many states of so many levels
pub states_size_lem : (w n : ℕ) (h : List ℤ) → n ≤ most_steps + 1 → w ≤ most_fluents → length h ≡ history_size → length (flat (states_of w n h)) ≡ n * w
unfolding states_of flat
states_size_lem w zero h few wide long = let e : 0 * w ≡ 0 = omega arith in sym e
states_size_lem w (suc n) h few wide long =
    ap (λ (k : ℕ). length (flat (states_of w k h))) (sym (add-one n)) ∙ flat_length w n h (omega arith)
    ∙ (let z : length (flat (states_of w n h)) ≡ n * w = states_size_lem w n h (omega arith) wide long in omega (arith, suc-mul n w))

-- and nothing changes after them
pub past_states : (w n : ℕ) (h levels left : List ℤ) → n ≤ most_steps + 1 → w ≤ most_fluents → length h ≡ history_size → left ≡ over (flat (states_of w n h)) levels → drop (n * w) left ≡ drop (n * w) levels
past_states w n h levels left few wide long e =
    let z : length (flat (states_of w n h)) ≡ n * w = states_size_lem w n h few wide long in
    ap (drop (n * w)) e ∙ drop_at (flat (states_of w n h)) (drop (length (flat (states_of w n h))) levels) (n * w) z ∙ ap (λ (k : ℕ). drop k levels) z

-- levels moved by way of another list are those that were there
pub row_moved : (h row : List ℤ) (from at n : ℕ) → from + n ≤ length h → paste h at (paste row 0 (drop from h) n) n ≡ paste h at (drop from h) n
row_moved h row from at n p = ap (λ (l : List ℤ). take at h ++ l ++ drop (at + n) h) (take_at (take n (drop from h)) (drop (0 + n) row) n (length-take-le n (drop from h) (omega (arith, length-drop from h))))

-- the first k states stand at the front, so many levels, and the rows after them as they were
pub record Closed (w k : ℕ) (h₀ h : List ℤ) (at : ℕ) : Type 0 where
  pub place : at ≡ length (flat (states_of w k h₀))
  pub front : take at h ≡ flat (states_of w k h₀)
  pub behind : drop (row_size * k) h ≡ drop (row_size * k) h₀
  pub long : length h ≡ length h₀

pub closed_none : (w : ℕ) (h : List ℤ) → Closed w 0 h h 0
unfolding flat states_of
closed_none w h = record { place = refl; front = refl; behind = refl; long = refl }

module _ (w k : ℕ) (h₀ h : List ℤ) (at : ℕ) (closed : Closed w k h₀ h at) (few : w ≤ most_fluents) (near : at ≤ most_fluents * k) (p : row_size * k + most_fluents ≤ length h₀) where
  abbrev moved : List ℤ
  moved = paste h at (drop (row_size * k) h) most_fluents

  fits : most_fluents ≤ length (drop (row_size * k) h)
  fits = omega (arith, length-drop (row_size * k) h, closed.long)

  front_more : take (at + w) moved ≡ flat (states_of w (k + 1) h₀)
  front_more =
      sym (take-take (at + w) (at + most_fluents) moved (omega arith))
      ∙ (ap (take (at + w)) (take-paste h at (drop (row_size * k) h) most_fluents (omega (arith, closed.long)) fits)
      ∙ (ap (λ (n : ℕ). take (n + w) (take at h ++ take most_fluents (drop (row_size * k) h))) (sym (length-take-le at h (omega (arith, closed.long))))
      ∙ (take-append-add (take at h) (take most_fluents (drop (row_size * k) h)) w
      ∙ (ap (λ (l : List ℤ). take at h ++ l) (take-take w most_fluents (drop (row_size * k) h) few ∙ ap (take w) closed.behind)
      ∙ (ap (λ (l : List ℤ). l ++ state_at w h₀ k) closed.front ∙ sym (flat_more w k h₀ (omega arith)))))))

  behind_on : (l : List ℤ) → drop (row_size * (k + 1)) l ≡ drop row_size (drop (row_size * k) l)
  behind_on l = ap (λ (n : ℕ). drop n l) (let z : row_size * (k + 1) ≡ row_size * k + row_size = omega arith in z) ∙ sym (drop-drop row_size (row_size * k) l)

  -- what is kept after the row that was written
  behind_kept : drop (row_size * (k + 1)) moved ≡ drop (row_size * (k + 1)) h
  behind_kept =
      let m : ℕ = row_size * (k + 1) - (at + most_fluents) in let z : row_size * (k + 1) ≡ at + most_fluents + m = omega arith in
      ap (λ (n : ℕ). drop n moved) z
      ∙ (sym (drop-drop m (at + most_fluents) moved)
      ∙ (ap (drop m) (drop-paste h at (drop (row_size * k) h) most_fluents (omega (arith, closed.long)) fits)
      ∙ (drop-drop m (at + most_fluents) h ∙ ap (λ (n : ℕ). drop n h) (sym z))))

  pub closed_more : Closed w (k + 1) h₀ moved (at + w)
  closed_more = record {
    place = omega (arith, flat_length w k h₀ (omega arith), closed.place);
    front = front_more;
    behind = behind_kept ∙ (behind_on h ∙ (ap (drop row_size) closed.behind ∙ sym (behind_on h₀)));
    long = length-paste h at (drop (row_size * k) h) most_fluents (omega (arith, closed.long)) fits ∙ closed.long;
  }

pub closed_over : (w n : ℕ) (h₀ h : List ℤ) (at : ℕ) (levels : List ℤ) → Closed w n h₀ h at → paste levels 0 h at ≡ over (flat (states_of w n h₀)) levels
closed_over w n h₀ h at levels closed =
    ap (λ (l : List ℤ). l ++ drop (0 + at) levels) closed.front ∙ ap (λ (m : ℕ). flat (states_of w n h₀) ++ drop m levels) (let z : 0 + at ≡ length (flat (states_of w n h₀)) = omega (arith, closed.place) in z)

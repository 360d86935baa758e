-- Laws of a sheet's steps, of the edits of it, and of the bytes that hold it.
-- Assumes nothing.
use mathlib.Core.Path.{◌≡◌, refl, sym, ap, ◌∙◌, subst}
use mathlib.Core.List.{List, [], ◌∷◌, ◌++◌, append_assoc}
use Prim.Native.Nat.{ℕ, suc, ◌+◌, ◌-◌, ◌*◌, ◌<◌, ◌≤◌}
use native.Mathlib.Nat.{suc-mul, mul-le-mul_right}
use native.Mathlib.Omega.{arith}
use lib.Dec.{eqb, ltb, leb}
use lib.ListN.{drop_of_length-le, length-set, length, get_or, take, drop, set, replicate, length-append, length-replicate, replicate-append-replicate}
use lib.Seq.{length-take-le, set_split, split_at, take_at, drop_at}
use borrow.Author.Tests.{eqb-true, ltb-true, leb-true, eq-eqb, lt-ltb, le-leb}
use Rattle.bmap.specs.Plain.{both, flat}
use Rattle.bmap.specs.Refusal.{Answer, got, refused, then}
use Rattle.bmap.specs.Domain.{Names}
use Rattle.bmap.specs.Buffer.{padded}
use Rattle.bmap.specs.Sheet.{rows}
use Rattle.bmap.specs.Session.{Edit, enter, strike, amend, edited, replayed}
use Rattle.session.specs.Log.{laid}
use Rattle.session.proofs.ListLaws.{laid_mid}
use Rattle.bmap.proofs.PlainLaws.{both_true, flat_one}
use Rattle.line.proofs.Answers.{need_got}

-- ---- answers
pub got_inj : {A : Type 0} (a b : A) → got a ≡ got b → a ≡ b
got_inj a b h = cc

then_got : {A : Type 0} (r : Answer A) → then r got ≡ r
then_got (got a) = refl
then_got (refused n) = refl

-- ---- what an edit asks, and what it leaves
module _ (n : ℕ) where
  pub enter_got : (y : Names) (s : List Names) → length y ≡ n → length s < 64 → edited n (enter y) s ≡ got (s ++ (y ∷ []))
  unfolding edited
  enter_got y s a b = rw (eq-eqb (length y) n a, lt-ltb (length s) 64 b)

  pub strike_got : (s : List Names) → 0 < length s → edited n strike s ≡ got (take (length s - 1) s)
  unfolding edited
  strike_got s a = rw (lt-ltb 0 (length s) a)

  pub amend_got : (k : ℕ) (y : Names) (s : List Names) → length y ≡ n → 1 ≤ k → k ≤ length s → edited n (amend k y) s ≡ got (set s (k - 1) y)
  unfolding edited
  amend_got k y s a b c = rw (eq-eqb (length y) n a, le-leb 1 k b, le-leb k (length s) c)

  pub enter_asks : (y : Names) (s t : List Names) → edited n (enter y) s ≡ got t → (length y ≡ n) × (length s < 64) × (s ++ (y ∷ []) ≡ t)
  unfolding edited
  enter_asks y s t h =
      let p = need_got (eqb (length y) n) 8 _ t h in
      let q = need_got (ltb (length s) 64) 9 _ t p.1 in
      (eqb-true (length y) n p.0, ltb-true (length s) 64 q.0, got_inj _ _ q.1)

  pub strike_asks : (s t : List Names) → edited n strike s ≡ got t → (0 < length s) × (take (length s - 1) s ≡ t)
  unfolding edited
  strike_asks s t h =
      let p = need_got (ltb 0 (length s)) 11 _ t h in
      (ltb-true 0 (length s) p.0, got_inj _ _ p.1)

  pub amend_asks : (k : ℕ) (y : Names) (s t : List Names) → edited n (amend k y) s ≡ got t → (length y ≡ n) × (1 ≤ k) × (k ≤ length s) × (set s (k - 1) y ≡ t)
  unfolding edited
  amend_asks k y s t h =
      let p = need_got (eqb (length y) n) 8 _ t h in
      let q = need_got (both (leb 1 k) (leb k (length s))) 11 _ t p.1 in
      let r = both_true (leb 1 k) (leb k (length s)) q.0 in
      (eqb-true (length y) n p.0, leb-true 1 k r.0, leb-true k (length s) r.1, got_inj _ _ q.1)

-- ---- steps of one width
abbrev pub Width : ℕ → List Names → Type 0
Width n [] = Unit {0}
Width n (s ∷ ss) = (length s ≡ n) × Width n ss

width_join : (n : ℕ) (xs ys : List Names) → Width n xs → Width n ys → Width n (xs ++ ys)
width_join n [] ys f g = g
width_join n (x ∷ xs) ys f g = (f.0, width_join n xs ys f.1 g)

width_left : (n : ℕ) (xs ys : List Names) → Width n (xs ++ ys) → Width n xs
width_left n [] ys f = tt
width_left n (x ∷ xs) ys f = (f.0, width_left n xs ys f.1)

width_right : (n : ℕ) (xs ys : List Names) → Width n (xs ++ ys) → Width n ys
width_right n [] ys f = f
width_right n (x ∷ xs) ys f = width_right n xs ys f.1

flat_append : (xs ys : List Names) → flat (xs ++ ys) ≡ flat xs ++ flat ys
unfolding flat
flat_append [] ys = refl
flat_append (x ∷ xs) ys = rw (flat_append xs ys) (sym (append_assoc x (flat xs) (flat ys)))

pub length_flat : (n : ℕ) (ss : List Names) → Width n ss → length (flat ss) ≡ length ss * n
unfolding flat
length_flat n [] f = let e : 0 * n ≡ 0 = omega arith in rw e
length_flat n (s ∷ ss) f = omega (arith, length-append s (flat ss), f.0, length_flat n ss f.1, suc-mul (length ss) n)

-- a step of n names, after c others, has room
pub room : (c n : ℕ) → c < 64 → n ≤ 16 → c * n + n ≤ 1024
room c n hc hn =
    let h : c ≤ 63 = omega arith in
    omega (arith, mul-le-mul_right n h)

pub page_room : (c n : ℕ) → c ≤ 64 → n ≤ 16 → c * n ≤ 1024
page_room c n hc hn = omega (arith, mul-le-mul_right n hc)

-- ---- the bytes that hold a sheet
abbrev zeros : ℕ → List ℕ
zeros k = replicate k 0

abbrev pub page : List Names → List ℕ
page ss = padded 1024 (flat ss)

flat_mid : (xs : List Names) (y : Names) (ys : List Names) → flat (xs ++ (y ∷ ys)) ≡ flat xs ++ (y ++ flat ys)
unfolding flat
flat_mid xs y ys = flat_append xs (y ∷ ys)

module _ (ss : List Names) (j : ℕ) (h : j < length ss) where
  abbrev it : Names
  it = get_or ss j []

  cut : ss ≡ take j ss ++ (it ∷ drop (suc j) ss)
  cut = split_at ss j [] h

  before_len : length (take j ss) ≡ j
  before_len = length-take-le j ss (omega arith)

  before_all : (n : ℕ) → Width n ss → Width n (take j ss)
  before_all n f = width_left n (take j ss) (it ∷ drop (suc j) ss) (subst (Width n) cut f)

  from_it : (n : ℕ) → Width n ss → Width n (it ∷ drop (suc j) ss)
  from_it n f = width_right n (take j ss) (it ∷ drop (suc j) ss) (subst (Width n) cut f)

module _ (n : ℕ) (few : n ≤ 16) where
  pub enter_page : (ss : List Names) (y : Names) → Width n ss → length y ≡ n → length ss < 64 → laid (page ss) (length ss * n) y ≡ page (ss ++ (y ∷ []))
  enter_page ss y f g h =
      let k : ℕ = length ss * n in
      let r : k + n ≤ 1024 = room (length ss) n h few in
      let l : length (flat ss) ≡ k = length_flat n ss f in
      let a : 1024 - length (flat ss) ≡ n + (1024 - (k + n)) = omega arith in
      let z : zeros (1024 - length (flat ss)) ≡ zeros n ++ zeros (1024 - (k + n)) = ap zeros a ∙ sym (replicate-append-replicate n (1024 - (k + n)) 0) in
      let m : length (flat ss ++ y) ≡ k + n = omega (arith, length-append (flat ss) y) in
      ap (λ (x : List ℕ). laid (flat ss ++ x) k y) z
      ∙ laid_mid (flat ss) (zeros n) (zeros (1024 - (k + n))) y k l (length-replicate n 0 ∙ sym g)
      ∙ sym (rw (flat_one ss y, m))

  last_page : (xs : List Names) (y : Names) → Width n xs → length y ≡ n → length xs < 64 → laid (page (xs ++ (y ∷ []))) (length xs * n) (zeros n) ≡ page xs
  last_page xs y f g h =
      let k : ℕ = length xs * n in
      let r : k + n ≤ 1024 = room (length xs) n h few in
      let l : length (flat xs) ≡ k = length_flat n xs f in
      let m : length (flat xs ++ y) ≡ k + n = omega (arith, length-append (flat xs) y) in
      let a : n + (1024 - (k + n)) ≡ 1024 - k = omega arith in
      rw (flat_one xs y, m, append_assoc (flat xs) y (zeros (1024 - (k + n)))) (laid_mid (flat xs) y (zeros (1024 - (k + n))) (zeros n) k l (g ∙ sym (length-replicate n 0)))
      ∙ append_assoc (flat xs) (zeros n) (zeros (1024 - (k + n)))
      ∙ ap (λ (x : List ℕ). flat xs ++ x) (replicate-append-replicate n (1024 - (k + n)) 0 ∙ ap zeros a)
      ∙ sym (rw l)

  mid_page : (xs ys : List Names) (x y : Names) → Width n xs → length x ≡ n → length y ≡ n → laid (page (xs ++ (x ∷ ys))) (length xs * n) y ≡ page (xs ++ (y ∷ ys))
  mid_page xs ys x y f gx gy =
      let k : ℕ = length xs * n in
      let l : length (flat xs) ≡ k = length_flat n xs f in
      let N : ℕ = 1024 - length (flat xs ++ (x ++ flat ys)) in
      let m : 1024 - length (flat xs ++ (y ++ flat ys)) ≡ N = omega (arith, length-append (flat xs) (x ++ flat ys), length-append (flat xs) (y ++ flat ys), length-append x (flat ys), length-append y (flat ys)) in
      ap (λ (w : List ℕ). laid (w ++ zeros (1024 - length w)) k y) (flat_mid xs x ys)
      ∙ ap (λ (w : List ℕ). laid w k y) (append_assoc (flat xs) (x ++ flat ys) (zeros N) ∙ ap (λ (w : List ℕ). flat xs ++ w) (append_assoc x (flat ys) (zeros N)))
      ∙ laid_mid (flat xs) x (flat ys ++ zeros N) y k l (gx ∙ sym gy)
      ∙ sym (rw (flat_mid xs y ys, m) (simp append_assoc))

  pub strike_page : (ss : List Names) → Width n ss → 0 < length ss → length ss ≤ 64 → laid (page ss) ((length ss - 1) * n) (zeros n) ≡ page (take (length ss - 1) ss)
  strike_page ss f p l =
      let j : ℕ = length ss - 1 in
      let h : j < length ss = omega arith in
      let b : length (take j ss) ≡ j = before_len ss j h in
      let g : length ss ≤ suc j = omega arith in
      let d : drop (suc j) ss ≡ [] = drop_of_length-le ss g in
      let c : ss ≡ take j ss ++ (it ss j h ∷ []) = cut ss j h ∙ ap (λ (w : List Names). take j ss ++ (it ss j h ∷ w)) d in
      ap (λ (w : List Names). laid (page w) (j * n) (zeros n)) c
      ∙ ap (λ (k : ℕ). laid (page (take j ss ++ (it ss j h ∷ []))) (k * n) (zeros n)) (sym b)
      ∙ last_page (take j ss) (it ss j h) (before_all ss j h n f) (from_it ss j h n f).0 (omega arith)

  pub amend_page : (k : ℕ) (y : Names) (ss : List Names) → Width n ss → length y ≡ n → 1 ≤ k → k ≤ length ss → laid (page ss) ((k - 1) * n) y ≡ page (set ss (k - 1) y)
  amend_page i y ss f g p q =
      let j : ℕ = i - 1 in
      let h : j < length ss = omega arith in
      let b : length (take j ss) ≡ j = before_len ss j h in
      ap (λ (w : List Names). laid (page w) (j * n) y) (cut ss j h)
      ∙ ap (λ (k : ℕ). laid (page (take j ss ++ (it ss j h ∷ drop (suc j) ss))) (k * n) y) (sym b)
      ∙ mid_page (take j ss) (drop (suc j) ss) (it ss j h) y (before_all ss j h n f) (from_it ss j h n f).0 g
      ∙ ap page (sym (set_split ss j y h))

-- ---- an edit keeps the width and the limit
abbrev pub Fits : ℕ → List Names → Type 0
Fits n s = Width n s × (length s ≤ 64)

module _ (n : ℕ) where
  pub edited_fits : (e : Edit) (s t : List Names) → edited n e s ≡ got t → Fits n s → Fits n t
  edited_fits (enter y) s t h f =
      let a = enter_asks n y s t h in
      subst (Fits n) a.2 (width_join n s (y ∷ []) f.0 (a.0, tt), omega (arith, length-append s (y ∷ [])))
  edited_fits strike s t h f =
      let a = strike_asks n s t h in
      let j : length s - 1 < length s = omega arith in
      subst (Fits n) a.1 (before_all s (length s - 1) j n f.0, omega (arith, before_len s (length s - 1) j))
  edited_fits (amend k y) s t h f =
      let a = amend_asks n k y s t h in
      let j : k - 1 < length s = omega arith in
      subst (Fits n) a.3 (
        subst (Width n) (sym (set_split s (k - 1) y j)) (width_join n (take (k - 1) s) (y ∷ drop (suc (k - 1)) s) (before_all s (k - 1) j n f.0) (a.0, (from_it s (k - 1) j n f.0).1)),
        omega (arith, length-set s (k - 1) y),
      )

  -- ---- edits in turn
  pub replayed_append : (xs ys : List Edit) (s : List Names) → replayed n (xs ++ ys) s ≡ then (replayed n xs s) (replayed n ys)
  unfolding replayed
  replayed_append [] ys s = refl
  replayed_append (x ∷ xs) ys s = by_answer (replayed_append xs ys) (edited n x s)
    where
      by_answer : ((t : List Names) → replayed n (xs ++ ys) t ≡ then (replayed n xs t) (replayed n ys)) → (a : Answer (List Names))
          → then a (replayed n (xs ++ ys)) ≡ then (then a (replayed n xs)) (replayed n ys)
      by_answer ih (got t) = ih t
      by_answer ih (refused m) = refl

  pub one_more : (xs : List Edit) (e : Edit) (s t : List Names) → replayed n xs s ≡ got t → replayed n (xs ++ (e ∷ [])) s ≡ edited n e t
  unfolding replayed
  one_more xs e s t h = replayed_append xs (e ∷ []) s ∙ rw h (then_got (edited n e t))

  pub prefix_got : (xs ys : List Edit) (s t : List Names) → replayed n (xs ++ ys) s ≡ got t → (u : List Names) × (replayed n xs s ≡ got u)
  prefix_got xs ys s t h = by_answer (replayed n xs s) (sym (replayed_append xs ys s) ∙ h)
    where
      by_answer : (a : Answer (List Names)) → then a (replayed n ys) ≡ got t → (u : List Names) × (a ≡ got u)
      by_answer (got u) g = (u, refl)
      by_answer (refused m) g = absurd cc

  pub replayed_fits : (es : List Edit) (s t : List Names) → replayed n es s ≡ got t → Fits n s → Fits n t
  unfolding replayed
  replayed_fits [] s t h f = subst (Fits n) (got_inj s t h) f
  replayed_fits (e ∷ es) s t h f = by_answer (replayed_fits es) (edited n e s) refl h
    where
      by_answer : ((u v : List Names) → replayed n es u ≡ got v → Fits n u → Fits n v) → (a : Answer (List Names)) → edited n e s ≡ a → then a (replayed n es) ≡ got t → Fits n t
      by_answer ih (got u) q g = ih u t g (edited_fits e s u q f)
      by_answer ih (refused m) q g = absurd cc

-- ---- the steps are read back from the bytes
pub rows_of : (n : ℕ) (ss : List Names) (rest : List ℕ) → Width n ss → rows n (length ss) (flat ss ++ rest) ≡ ss
unfolding rows flat
rows_of n [] rest f = refl
rows_of n (s ∷ ss) rest f =
    rw (append_assoc s (flat ss) rest, take_at s (flat ss ++ rest) n f.0, drop_at s (flat ss ++ rest) n f.0, rows_of n ss rest f.1)

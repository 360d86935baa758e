-- A turn of the replay: what the code asks of an entry is that it is written as its edit is, and that the edit can be done.
-- Assumes nothing.
use mathlib.Core.Path.{◌≡◌, refl, sym, ap, ◌∙◌}
use mathlib.Core.Bool.{Bool, true, false}
use mathlib.Core.List.{List, [], ◌∷◌, ◌++◌}
use Prim.Native.Nat.{ℕ, ◌+◌, ◌-◌, ◌*◌, ◌<◌, ◌≤◌}
use native.Mathlib.Omega.{arith}
use lib.Dec.{eqb, ltb, leb}
use lib.ListN.{length, take, drop, set, replicate, length-append, length-set, length-drop, take-append-drop}
use lib.Seq.{length-take-le, drop-drop, drop_at}
use borrow.Author.Tests.{eqb-true, ltb-true, leb-true, eqb-false, eq-eqb, ne_eqb, lt-ltb, le-leb}
use Rattle.std.proofs.lemmas.List.{take-replicate}
use Rattle.bmap.specs.Plain.{both, if_else}
use Rattle.bmap.specs.Refusal.{got}
use Rattle.bmap.specs.Domain.{Names}
use Rattle.bmap.specs.Buffer.{padded}
use Rattle.bmap.specs.Store.{zeros}
use Rattle.bmap.specs.Session.{Edit, enter, strike, amend, edited, logged}
use Rattle.std.specs.Prelude.{Option, None, Some}
use Rattle.session.specs.declared.log.Place.{Place}
use Rattle.session.specs.Log.{laid, place_if, place_of, target_of}
use Rattle.session.proofs.ListLaws.{never}
use Rattle.bmap.proofs.PlainLaws.{both_true}
use Rattle.line.proofs.Lists.{zeros_are, zeros_replicate}
use Rattle.session.proofs.SheetLaws.{Fits, page, enter_got, strike_got, amend_got, enter_asks, strike_asks, amend_asks, enter_page, strike_page, amend_page}
use Rattle.session.proofs.LogLaws.{edit_at}

-- what a place says of an entry's edit
pub record Turned (n : ℕ) (entry : List ℕ) (s : List Names) (p : Place) : Type 0 where
  pub sheet : List Names
  pub written : entry ≡ logged (edit_at n entry)
  pub does : edited n (edit_at n entry) s ≡ got sheet
  pub count : p.steps ≡ length sheet
  pub bytes : laid (page s) (p.step * n) (take n (drop 2 entry)) ≡ page sheet
  pub low : p.step < 64

-- ---- a place, by cases
pub place_inv : (b : Bool) (j c : ℕ) (p : Place) → place_if b j c ≡ Some p → (b ≡ true) × (j ≡ p.step) × (c ≡ p.steps)
place_inv true j c p h = let e : ◌≡◌ {A = Place} (record { step = j; steps = c }) p = cc in (refl, ap (λ (x : Place). x.step) e, ap (λ (x : Place). x.steps) e)
place_inv false j c p h = absurd cc

pub place_none : (b : Bool) (j c : ℕ) → place_if b j c ≡ None → b ≡ false
place_none true j c h = cc
place_none false j c h = refl

nested : (a b : Bool) (j c : ℕ) → if_else a (place_if b j c) None ≡ place_if (both a b) j c
nested true b j c = refl
nested false b j c = refl

nowhere : (a : Bool) → if_else {A = Option Place} a None None ≡ None
nowhere true = refl
nowhere false = refl

both_denied : (a b : Bool) → a ≡ true → b ≡ true → both a b ≡ false → ⊥
both_denied a b p q h = never b q (sym (ap (λ (t : Bool). both t b) p) ∙ h)

module _ (n : ℕ) (few : n ≤ 16) (k m : ℕ) (rest : List ℕ) (len : length rest ≡ 16) where
  abbrev entry : List ℕ
  entry = k ∷ m ∷ rest

  abbrev names : Names
  names = take n rest

  wide : length names ≡ n
  wide = length-take-le n rest (omega arith)

  after : drop (2 + n) entry ≡ drop n rest
  after = sym (drop-drop n 2 entry)

  -- zeros after the names
  padded_names : zeros (drop n rest) ≡ true → rest ≡ padded 16 names
  padded_names z =
      let a : length (drop n rest) ≡ 16 - n = omega (arith, length-drop n rest) in
      sym (take-append-drop n rest) ∙ ap (λ (l : List ℕ). names ++ l) (zeros_are (drop n rest) z ∙ ap (λ (i : ℕ). replicate i 0) (a ∙ ap (λ (i : ℕ). 16 - i) (sym wide)))

  names_padded : rest ≡ padded 16 names → zeros (drop n rest) ≡ true
  names_padded e = ap (λ (l : List ℕ). zeros (drop n l)) e ∙ rw (drop_at names (replicate (16 - length names) 0) n wide) (zeros_replicate (16 - length names))

  -- ---- the code's test, by the kind
  target_1 : (steps : ℕ) → k ≡ 1 → target_of n entry steps ≡ place_if (both (zeros (drop n rest)) (both (eqb m 0) (ltb steps 64))) steps (steps + 1)
  unfolding target_of place_of
  target_1 steps e = rw (ne_eqb k 2 (omega arith), eq-eqb k 1 e, after) (nested (zeros (drop n rest)) (both (eqb m 0) (ltb steps 64)) steps (steps + 1))

  target_2 : (steps : ℕ) → k ≡ 2 → target_of n entry steps ≡ place_if (both (zeros rest) (both (eqb m 0) (ltb 0 steps))) (steps - 1) (steps - 1)
  unfolding target_of place_of
  target_2 steps e = rw (eq-eqb k 2 e, ne_eqb k 1 (omega arith)) (nested (zeros rest) (both (eqb m 0) (ltb 0 steps)) (steps - 1) (steps - 1))

  target_3 : (steps : ℕ) → k ≡ 3 → target_of n entry steps ≡ place_if (both (zeros (drop n rest)) (both (ltb 0 m) (leb m steps))) (m - 1) steps
  unfolding target_of place_of
  target_3 steps e = rw (ne_eqb k 2 (omega arith), ne_eqb k 1 (omega arith), eq-eqb k 3 e, after) (nested (zeros (drop n rest)) (both (ltb 0 m) (leb m steps)) (m - 1) steps)

  target_other : (steps : ℕ) → (k ≡ 1 → ⊥) → (k ≡ 2 → ⊥) → (k ≡ 3 → ⊥) → target_of n entry steps ≡ None
  unfolding target_of place_of
  target_other steps a b d = rw (ne_eqb k 1 a, ne_eqb k 2 b, ne_eqb k 3 d) (nowhere (zeros (drop (2 + n) entry)))

  -- ---- the edit that is read, by the kind
  edit_1 : k ≡ 1 → edit_at n entry ≡ enter names
  edit_1 e = rw (eq-eqb k 1 e)

  edit_2 : (k ≡ 1 → ⊥) → (k ≡ 3 → ⊥) → edit_at n entry ≡ strike
  edit_2 a b = rw (ne_eqb k 1 a, ne_eqb k 3 b)

  edit_3 : k ≡ 3 → edit_at n entry ≡ amend m names
  edit_3 e = rw (ne_eqb k 1 (omega arith), eq-eqb k 3 e)

  module _ (s : List Names) (f : Fits n s) where
    turned_1 : (spot : Place) → k ≡ 1 → target_of n entry (length s) ≡ Some spot → Turned n entry s spot
    unfolding logged
    turned_1 spot e h =
        let p = place_inv _ _ _ spot (sym (target_1 (length s) e) ∙ h) in
        let q = both_true (zeros (drop n rest)) (both (eqb m 0) (ltb (length s) 64)) p.0 in
        let r = both_true (eqb m 0) (ltb (length s) 64) q.1 in
        let z : m ≡ 0 = eqb-true m 0 r.0 in
        let b : length s < 64 = ltb-true (length s) 64 r.1 in
        let pad = padded_names q.0 in
        record {
          sheet = s ++ (names ∷ []);
          written = rw (edit_1 e) (λ i. e i ∷ z i ∷ pad i);
          does = rw (edit_1 e) (enter_got n names s wide b);
          count = sym p.2 ∙ sym (length-append s (names ∷ []));
          bytes = ap (λ (i : ℕ). laid (page s) (i * n) names) (sym p.1) ∙ enter_page n few s names f.0 wide b;
          low = rw (← p.1) b;
        }

    turned_2 : (spot : Place) → k ≡ 2 → target_of n entry (length s) ≡ Some spot → Turned n entry s spot
    unfolding logged
    turned_2 spot e h =
        let p = place_inv _ _ _ spot (sym (target_2 (length s) e) ∙ h) in
        let q = both_true (zeros rest) (both (eqb m 0) (ltb 0 (length s))) p.0 in
        let r = both_true (eqb m 0) (ltb 0 (length s)) q.1 in
        let z : m ≡ 0 = eqb-true m 0 r.0 in
        let b : 0 < length s = ltb-true 0 (length s) r.1 in
        let a : rest ≡ replicate 16 0 = zeros_are rest q.0 ∙ ap (λ (i : ℕ). replicate i 0) len in
        let ed : edit_at n entry ≡ strike = edit_2 (omega arith) (omega arith) in
        let idle : names ≡ replicate n 0 = ap (take n) a ∙ take-replicate n 16 0 few in
        let l : length s ≤ 64 = f.1 in
        let g : length s - 1 ≤ length s = omega arith in
        record {
          sheet = take (length s - 1) s;
          written = rw ed (λ i. e i ∷ z i ∷ a i);
          does = rw ed (strike_got n s b);
          count = sym p.2 ∙ sym (length-take-le (length s - 1) s g);
          bytes = ap (λ (i : ℕ). laid (page s) (i * n) names) (sym p.1) ∙ ap (laid (page s) ((length s - 1) * n)) idle ∙ strike_page n few s f.0 b l;
          low = rw (← p.1) (omega arith);
        }

    turned_3 : (spot : Place) → k ≡ 3 → target_of n entry (length s) ≡ Some spot → Turned n entry s spot
    unfolding logged
    turned_3 spot e h =
        let p = place_inv _ _ _ spot (sym (target_3 (length s) e) ∙ h) in
        let q = both_true (zeros (drop n rest)) (both (ltb 0 m) (leb m (length s))) p.0 in
        let r = both_true (ltb 0 m) (leb m (length s)) q.1 in
        let a : 0 < m = ltb-true 0 m r.0 in
        let b : m ≤ length s = leb-true m (length s) r.1 in
        let l : length s ≤ 64 = f.1 in
        let pad = padded_names q.0 in
        record {
          sheet = set s (m - 1) names;
          written = rw (edit_3 e) (λ i. e i ∷ m ∷ pad i);
          does = rw (edit_3 e) (amend_got n m names s wide (omega arith) b);
          count = sym p.2 ∙ sym (length-set s (m - 1) names);
          bytes = ap (λ (i : ℕ). laid (page s) (i * n) names) (sym p.1) ∙ amend_page n few m names s f.0 wide (omega arith) b;
          low = rw (← p.1) (omega arith);
        }

    turned_other : (spot : Place) → (k ≡ 1 → ⊥) → (k ≡ 2 → ⊥) → (k ≡ 3 → ⊥) → target_of n entry (length s) ≡ Some spot → Turned n entry s spot
    turned_other spot x y z h =
        let o = sym (target_other (length s) x y z) ∙ h in
        absurd cc

    turned_entry : (spot : Place) → target_of n entry (length s) ≡ Some spot → Turned n entry s spot
    turned_entry spot h = by_kind (eqb k 1) (eqb k 2) (eqb k 3) refl refl refl
      where
        by_kind : (a b d : Bool) → eqb k 1 ≡ a → eqb k 2 ≡ b → eqb k 3 ≡ d → Turned n entry s spot
        by_kind true b d x y z = turned_1 spot (eqb-true k 1 x) h
        by_kind false true d x y z = turned_2 spot (eqb-true k 2 y) h
        by_kind false false true x y z = turned_3 spot (eqb-true k 3 z) h
        by_kind false false false x y z = turned_other spot (eqb-false k 1 x) (eqb-false k 2 y) (eqb-false k 3 z) h

    -- ---- nowhere: the entry is not so written, or the edit cannot be done
    module _ (t : List Names) (h : target_of n entry (length s) ≡ None) (w : entry ≡ logged (edit_at n entry)) (d : edited n (edit_at n entry) s ≡ got t) where
      stuck_1 : k ≡ 1 → ⊥
      unfolding logged
      stuck_1 e =
          let w' : entry ≡ 1 ∷ 0 ∷ padded 16 names = w ∙ ap logged (edit_1 e) in
          let z : m ≡ 0 = cc in
          let pad : rest ≡ padded 16 names = cc in
          let asks = enter_asks n names s t (sym (ap (λ (x : Edit). edited n x s) (edit_1 e)) ∙ d) in
          let l : both (eqb m 0) (ltb (length s) 64) ≡ true = rw (eq-eqb m 0 z, lt-ltb (length s) 64 asks.1) in
          both_denied (zeros (drop n rest)) (both (eqb m 0) (ltb (length s) 64)) (names_padded pad) l (place_none _ _ _ (sym (target_1 (length s) e) ∙ h))

      stuck_3 : k ≡ 3 → ⊥
      unfolding logged
      stuck_3 e =
          let w' : entry ≡ 3 ∷ m ∷ padded 16 names = w ∙ ap logged (edit_3 e) in
          let pad : rest ≡ padded 16 names = cc in
          let asks = amend_asks n m names s t (sym (ap (λ (x : Edit). edited n x s) (edit_3 e)) ∙ d) in
          let p : 1 ≤ m = asks.1 in
          let l : both (ltb 0 m) (leb m (length s)) ≡ true = rw (lt-ltb 0 m (omega arith), le-leb m (length s) asks.2) in
          both_denied (zeros (drop n rest)) (both (ltb 0 m) (leb m (length s))) (names_padded pad) l (place_none _ _ _ (sym (target_3 (length s) e) ∙ h))

      stuck_2 : (k ≡ 1 → ⊥) → (k ≡ 3 → ⊥) → ⊥
      unfolding logged
      stuck_2 x y =
          let w' : entry ≡ 2 ∷ 0 ∷ padded 16 [] = w ∙ ap logged (edit_2 x y) in
          let e : k ≡ 2 = cc in
          let z : m ≡ 0 = cc in
          let pad : rest ≡ replicate 16 0 = cc in
          let asks = strike_asks n s t (sym (ap (λ (x : Edit). edited n x s) (edit_2 x y)) ∙ d) in
          let l : both (eqb m 0) (ltb 0 (length s)) ≡ true = rw (eq-eqb m 0 z, lt-ltb 0 (length s) asks.0) in
          both_denied (zeros rest) (both (eqb m 0) (ltb 0 (length s))) (ap zeros pad ∙ zeros_replicate 16) l (place_none _ _ _ (sym (target_2 (length s) e) ∙ h))

      stuck_entry : ⊥
      stuck_entry = by_kind (eqb k 1) (eqb k 3) refl refl
        where
          by_kind : (a b : Bool) → eqb k 1 ≡ a → eqb k 3 ≡ b → ⊥
          by_kind true b x y = stuck_1 (eqb-true k 1 x)
          by_kind false true x y = stuck_3 (eqb-true k 3 y)
          by_kind false false x y = stuck_2 (eqb-false k 1 x) (eqb-false k 3 y)

-- ---- any entry of eighteen bytes
pub turned : (n : ℕ) (entry : List ℕ) (s : List Names) (spot : Place) → n ≤ 16 → length entry ≡ 18 → Fits n s → target_of n entry (length s) ≡ Some spot → Turned n entry s spot
turned n [] s spot few l f h = absurd (omega arith)
turned n (a ∷ []) s spot few l f h = absurd (omega arith)
turned n (a ∷ b ∷ rest) s spot few l f h = turned_entry n few a b rest (omega arith) s f spot h

pub stuck : (n : ℕ) (entry : List ℕ) (s t : List Names) → n ≤ 16 → length entry ≡ 18 → Fits n s → target_of n entry (length s) ≡ None
    → entry ≡ logged (edit_at n entry) → edited n (edit_at n entry) s ≡ got t → ⊥
stuck n [] s t few l f h w d = omega arith
stuck n (a ∷ []) s t few l f h w d = omega arith
stuck n (a ∷ b ∷ rest) s t few l f h w d = stuck_entry n few a b rest (omega arith) s f t h w d

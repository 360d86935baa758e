-- Text written at its place of a buffer, and the digits of a number. Assumes nothing.
use Rattle.std.proofs.Common.{◌≡◌, ℕ, zero, suc, ◌+◌, ◌/◌, ◌%◌, ◌*◌, ◌-◌, ◌^◌, ◌≤◌, ◌<◌, List, [], ◌∷◌, ◌++◌, map, length, get_or, take, drop, refl, sym, ap, ◌∙◌, subst, arith, length-append, append-nil, append_assoc, add-one, FitsSigned, to_z, of_z, w16, w64, ℤ, pos, negsuc}
use Rattle.std.specs.Prelude.{slice_set, ltb, true, false, Result, Err}
use Rattle.std.specs.Int.Signed.{lt_z}
use Rattle.std.proofs.lemmas.Int.{to_z-of_z}
use Rattle.std.specs.Int.RustNames.{unsigned_abs}
use Rattle.std.proofs.Math.Nat.{div-lt_iff_lt-mul, pow-suc, add-zero, add-suc, suc-add, zero-add, zero-mul, suc-mul, add_comm}
use Rattle.std.proofs.Math.Seq.{drop-drop, take-suc, length-sets}
use Rattle.std.proofs.Math.Decide.{dec_lt}
use Rattle.std.proofs.lemmas.Bool.{lt-ltb, le-ltb}
use Rattle.std.proofs.lemmas.List.{map-append}
use Rattle.std.proofs.lemmas.List.Edits.{sets, sets-eq}
use borrow.Rule.Slice.PartMut.{put_mid}
use Rattle.bmap.specs.Plain.{if_else, text}
use Rattle.bmap.specs.Sheet.{rows}
use Rattle.bmap.specs.Refusal.{number_of}
use Rattle.bmap.specs.declared.refusal.ReadError.{ReadError}
use Rattle.sheet.proofs.RoundTrip.{length_rows}
use Rattle.bmap.specs.Program.{digits_of, decimal, decimal_z, spaced, line_of, state_lines, refused_text}
use Rattle.answer.specs.declared.print.Text.{Text}
use Rattle.answer.specs.Put.{Put, PutOr, HasRoom}
use Rattle.answer.specs.Room.{number_room, level_room}

sets_append : (l : List ℕ) (i : ℕ) (a b : List ℕ) → sets l i (a ++ b) ≡ sets (sets l i a) (i + length a) b
sets_append l i [] b = ap (λ k. sets l k b) (sym (add-zero i))
sets_append l i (x ∷ a) b = sets_append (slice_set l i x) (suc i) a b ∙ ap (λ k. sets (sets (slice_set l i x) (suc i) a) k b) (suc-add i (length a) ∙ sym (add-suc i (length a)))

-- one text after another
pub put_then : {one two three : Text} {a b : List ℕ} → Put one a two → Put two b three → Put one (a ++ b) three
put_then {one} {two} {a = a} {b} x y = record {
  same = y.same ∙ x.same;
  size = y.size ∙ x.size;
  place = omega (arith, x.place, y.place, length-append a b);
  fits = y.fits;
  bytes = y.bytes ∙ ap (λ l. sets l two.at b) x.bytes ∙ ap (λ k. sets (sets one.out.now one.at a) k b) x.place ∙ sym (sets_append one.out.now one.at a b);
}

pub put_nothing : (t : Text) → HasRoom t 0 → Put t [] t
put_nothing t h = record { same = refl; size = refl; place = sym (add-zero t.at); fits = omega (arith, h); bytes = refl }

-- nothing yet, where the text is the line of a refusal
pub put_refused : (t : Text) (text : List ℕ) {r : Result (Unit {0}) ReadError} (e : ReadError) → HasRoom t 0 → r ≡ Err e → text ≡ refused_text (number_of e.refusal) e.line → PutOr t text r t
put_refused t text e h is says = subst (λ r. PutOr t text r t) (sym is) (says, put_nothing t h)

-- what is copied to a part of the buffer
pub put_copied : (out word : List ℕ) (at : ℕ) {left : List ℕ} → at + length word ≤ length out → left ≡ word → put_mid at (at + length word - at) out left ≡ sets out at word
put_copied out word at h e =
    let size : at + length word - at ≡ length word = omega arith in
    rw (e, size, sets-eq word out at h, drop-drop (length word) at out) (sym (append_assoc (take at out) word (drop (at + length word) out)))

-- ---- a number

-- more digits than the number needs change nothing
digits_enough : (k m n : ℕ) → n < k → n < m → digits_of k n ≡ digits_of m n
unfolding digits_of
digits_enough zero m n h g = absurd (omega arith)
digits_enough (suc k) zero n h g = absurd (omega arith)
digits_enough (suc k) (suc m) n h g =
    elim (dec_lt n 10) [
      | yes s ↦ rw (lt-ltb n 10 s)
      | no s ↦ ap (λ r. if_else (ltb n 10) ((48 + n) ∷ []) (r ++ ((48 + n % 10) ∷ []))) (digits_enough k m (n / 10) (omega arith) (omega arith))
    ]

pub decimal_small : (n : ℕ) → n < 10 → decimal n ≡ (48 + n % 10) ∷ []
unfolding digits_of
decimal_small n h = rw (lt-ltb n 10 h) (ap (λ k. (48 + k) ∷ []) (omega arith))

pub decimal_large : (n : ℕ) → 10 ≤ n → decimal n ≡ decimal (n / 10) ++ ((48 + n % 10) ∷ [])
unfolding digits_of
decimal_large n h = rw (le-ltb n 10 h) (ap (λ r. r ++ ((48 + n % 10) ∷ [])) (digits_enough n (suc (n / 10)) (n / 10) (omega arith) (omega arith)))

pub length_small : (n : ℕ) → n < 10 → length (decimal n) ≡ 1
length_small n h = ap length (decimal_small n h)

pub length_large : (n : ℕ) → 10 ≤ n → length (decimal n) ≡ length (decimal (n / 10)) + 1
length_large n h = ap length (decimal_large n h) ∙ length-append (decimal (n / 10)) _

-- what is put leaves the length
pub length_put : (out word : List ℕ) (at : ℕ) {new : List ℕ} → new ≡ sets out at word → length new ≡ length out
length_put out word at e = ap length e ∙ length-sets out at word

-- digits at a place of a buffer
pub digits_one : {n : ℕ} (out : List ℕ) (at : ℕ) → n < 10 → slice_set out at (48 + n) ≡ sets out at (decimal n)
digits_one {n} out at h = rw (decimal_small n h) (ap (λ k. slice_set out at (48 + k)) (omega (arith, h)))

pub digits_more : (out : List ℕ) (at n : ℕ) {new : List ℕ} {last : ℕ} → 10 ≤ n → last ≡ at + length (decimal (n / 10)) → new ≡ sets out at (decimal (n / 10))
    → slice_set new last (48 + n % 10) ≡ sets out at (decimal n)
digits_more out at n h place bytes =
    rw (decimal_large n h) (rw (bytes, place) (sym (sets_append out at (decimal (n / 10)) ((48 + n % 10) ∷ []))))

-- a number below a power of ten has at most so many digits
pub length_below : (k n : ℕ) → n < 10 ^ suc k → length (decimal n) ≤ suc k
length_below zero n h = omega (arith, length_small n h)
length_below (suc k) n h =
    elim (dec_lt n 10) [
      | yes s ↦ omega (arith, length_small n s)
      | no s ↦ omega (arith, length_large n (omega arith), length_below k (n / 10) ((div-lt_iff_lt-mul (omega arith)).1 (subst (λ m. n < m) (pow-suc 10 (suc k)) h)))
    ]

-- ---- words, each after a space

pub spaced_one : (w : List ℕ) → spaced (w ∷ []) ≡ 32 ∷ w
unfolding text spaced
spaced_one w = append-nil (32 ∷ w)

pub length_spaced : (w : List ℕ) → length (spaced (w ∷ [])) ≡ 1 + length w
length_spaced w = ap length (spaced_one w) ∙ omega arith

pub spaced_append : (a b : List (List ℕ)) → spaced (a ++ b) ≡ spaced a ++ spaced b
unfolding spaced
spaced_append [] b = refl
spaced_append (w ∷ a) b = ap (λ l. text " " ++ w ++ l) (spaced_append a b) ∙ sym (append_assoc (text " " ++ w) (spaced a) (spaced b))

pub put_space : {one two three : Text} {w : List ℕ} → Put one (32 ∷ []) two → Put two w three → Put one (spaced (w ∷ [])) three
put_space {w = w} x y = rw (spaced_one w) (put_then x y)

pub words_more : {one two three : Text} (a b : List (List ℕ)) → Put one (spaced a) two → Put two (spaced b) three → Put one (spaced (a ++ b)) three
words_more a b x y = rw (spaced_append a b) (put_then x y)

-- a line: its word, its words and LF
pub put_line : {one two three four : Text} (word : List ℕ) (words : List (List ℕ)) → Put one word two → Put two (spaced words) three → Put three (10 ∷ []) four → Put one (line_of word words) four
put_line word words x y z = put_then (put_then x y) z

-- a sign where there is one, and digits: no more than their number
pub length_signed : (k : ℕ) (z : ℤ) → unsigned_abs z < 10 ^ suc k → length (spaced (decimal_z z ∷ [])) ≤ 3 + k
unfolding text
length_signed k (pos n) h = omega (arith, length_spaced (decimal n), length_below k n h)
length_signed k (negsuc n) h = omega (arith, length_spaced (45 ∷ decimal (suc n)), length_below k (suc n) h)

minus : (z : ℤ) → lt_z z (pos 0) ≡ true → decimal_z z ≡ 45 ∷ decimal (unsigned_abs z)
unfolding text
minus (pos n) h = absurd (let q : true ≡ false = sym h ∙ le-ltb n 0 (omega arith) in cc)
minus (negsuc n) h = refl

plain : (z : ℤ) → lt_z z (pos 0) ≡ false → decimal_z z ≡ decimal (unsigned_abs z)
plain (pos n) h = refl
plain (negsuc n) h = absurd (cc)

module _ (z : ℤ) (f : FitsSigned w64 z) {n : ℕ} (e : n ≡ unsigned_abs (to_z w64 (of_z w64 z))) where
  pub below_zero : lt_z (to_z w64 (of_z w64 z)) (pos 0) ≡ true → decimal_z z ≡ 45 ∷ decimal n
  below_zero h = rw (e, to_z-of_z w64 z f) (minus z (rw (to_z-of_z w64 z f) at h))

  pub from_zero : lt_z (to_z w64 (of_z w64 z)) (pos 0) ≡ false → decimal_z z ≡ decimal n
  from_zero h = rw (e, to_z-of_z w64 z f) (plain z (rw (to_z-of_z w64 z f) at h))

-- so a number of 64 bits has room where any other has
pub signed_short : (z : ℤ) → FitsSigned w64 z → length (spaced (decimal_z z ∷ [])) ≤ number_room
signed_short (pos n) f = length_signed 18 (pos n) (omega (arith, f.sfits))
signed_short (negsuc n) f = length_signed 18 (negsuc n) (omega (arith, f.sfits))

pub level_short : (z : ℤ) → FitsSigned w16 z → length (spaced (decimal_z z ∷ [])) ≤ level_room
level_short (pos n) f = length_signed 4 (pos n) (omega (arith, f.sfits))
level_short (negsuc n) f = length_signed 4 (negsuc n) (omega (arith, f.sfits))

pub levels_more : {one two three : Text} (levels : List ℤ) (i : ℕ) {z : ℤ} → i < length levels → z ≡ get_or levels i (pos 0)
    → Put one (spaced (map decimal_z (take i levels))) two → Put two (spaced (decimal_z z ∷ [])) three → Put one (spaced (map decimal_z (take (i + 1) levels))) three
levels_more {two = two} {three} levels i h e x y =
    rw (add-one i, take-suc levels i (pos 0) h, map-append decimal_z) (words_more _ _ x (subst (λ z. Put two (spaced (decimal_z z ∷ [])) three) e y))

-- ---- states in turn

pub rows_more : (w n : ℕ) (l : List ℤ) → rows w (suc n) l ≡ rows w n l ++ (take w (drop (n * w) l) ∷ [])
unfolding rows
rows_more w zero l = rw (zero-mul w)
rows_more w (suc n) l = ap (λ r. take w l ∷ r) (rows_more w n (drop w l) ∙ ap (λ r. rows w n (drop w l) ++ (take w r ∷ [])) (drop-drop (n * w) w l ∙ ap (λ k. drop k l) (add_comm w (n * w) ∙ sym (suc-mul n w))))

lines_append : (k : ℕ) (a : List (List ℤ)) (s : List ℤ) → state_lines k (a ++ (s ∷ [])) ≡ state_lines k a ++ line_of (text "S") (decimal (k + length a) ∷ map decimal_z s)
unfolding state_lines
lines_append k [] s = rw (add-zero k) (append-nil _)
lines_append k (x ∷ a) s = ap (λ r. line_of (text "S") (decimal k ∷ map decimal_z x) ++ r) (lines_append (suc k) a s ∙ ap (λ m. state_lines (suc k) a ++ line_of (text "S") (decimal m ∷ map decimal_z s)) (suc-add k (length a) ∙ sym (add-suc k (length a)))) ∙ sym (append_assoc (line_of (text "S") (decimal k ∷ map decimal_z x)) (state_lines (suc k) a) _)

pub states_more : {one two three : Text} (w : ℕ) (levels : List ℤ) (k : ℕ)
    → Put one (state_lines 0 (rows w k levels)) two → Put two (line_of (text "S") (decimal k ∷ map decimal_z (take (k * w + w - k * w) (drop (k * w) levels)))) three
    → Put one (state_lines 0 (rows w (k + 1) levels)) three
states_more {one} {two} {three} w levels k x y =
    let whole : k * w + w - k * w ≡ w = omega arith in
    let line : Put two (line_of (text "S") (decimal (0 + length (rows w k levels)) ∷ map decimal_z (take w (drop (k * w) levels)))) three = rw (length_rows w k levels, zero-add k) (subst (λ m. Put two (line_of (text "S") (decimal k ∷ map decimal_z (take m (drop (k * w) levels)))) three) whole y) in
    rw (add-one k, rows_more w k levels, lines_append 0 (rows w k levels) (take w (drop (k * w) levels))) (put_then x line)

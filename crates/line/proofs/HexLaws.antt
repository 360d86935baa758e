-- A frame's line decodes to the frame, and a line that decodes is its frame's.
use Prim.Native.Nat.{ℕ, zero, suc, ◌*◌, ◌/◌, ◌%◌, ◌≤◌, ◌<◌}
use native.Mathlib.Nat.{not-suc-le-zero}
use native.Mathlib.Omega.{arith}
use mathlib.Core.Path.{◌≡◌, refl, sym, ap, ◌∙◌}
use mathlib.Core.Logic.{◌⊎◌, inl, inr}
use mathlib.Core.Bool.{Bool, true, false}
use mathlib.Core.List.{List, [], ◌∷◌, ◌++◌, append_assoc}
use lib.Dec.{eqb, leb}
use lib.ListN.{length, length-append}
use borrow.Author.Tests.{eqb-true, eq-eqb, ne_eqb, leb-true, le-leb}
use Rattle.bmap.specs.Plain.{both}
use Rattle.bmap.specs.Limits.{most_payload, frame_size}
use Rattle.bmap.specs.Refusal.{Answer, got, refused, then}
use Rattle.bmap.specs.Line.{Line, Frame, line_feed, lines_of, bytes, framed, decode, stored, digit_for, hex, line_for}
use Rattle.line.proofs.Lists.{Bytes}
use Rattle.line.proofs.Digits.{Pair, NoPair, pair_is, pair_back, digit_for_least, two_suc}
use Rattle.line.proofs.Spelling.{bytes_pair}
use Rattle.line.proofs.Lines.{after, ends, first_line, front, lines_first, lines_nonempty, text_first}
use Rattle.line.proofs.Answers.{need_got, then_got_inv}
use Rattle.bmap.proofs.PlainLaws.{both_true}

pub framed_long : (b : List ℕ) → frame_size < length b → framed b ≡ refused 2
unfolding framed
framed_long [] h = absurd (not-suc-le-zero h)
framed_long (k ∷ []) h = refl
framed_long (k ∷ c ∷ p) h = go (leb c 120) (eqb c (length p)) refl refl
  where
    go : (x y : Bool) → leb c 120 ≡ x → eqb c (length p) ≡ y → framed (k ∷ c ∷ p) ≡ refused 2
    go true true u v = absurd (omega (arith, leb-true c 120 u, eqb-true c (length p) v))
    go true false u v = simp (u, v)
    go false y u v = simp u

framed_got : (b : List ℕ) (f : Frame) → framed b ≡ got f → (b ≡ stored f) × (length f.payload ≤ most_payload)
unfolding framed
framed_got [] f e = absurd (let z : ◌≡◌ {A = ℕ} 0 1 = cc in omega arith)
framed_got (k ∷ []) f e = absurd (let z : ◌≡◌ {A = ℕ} 0 1 = cc in omega arith)
framed_got (k ∷ c ∷ p) f e =
    let q = need_got (both (leb c most_payload) (eqb c (length p))) 2 (got (record { kind = k; payload = p })) f e in
    let t = both_true (leb c most_payload) (eqb c (length p)) q.0 in
    let l : c ≡ length p = eqb-true c (length p) t.1 in
    let m = leb-true c most_payload t.0 in
    let g : record { kind = k; payload = p } ≡ f = cc q.1 in
    rw (← g) (rw l refl, omega arith)

-- the line has its LF, and its digits spell the frame
pub record Decodes (l : Line) (f : Frame) : Type 0 where
  pub ended : l.ended ≡ true
  pub spells : bytes l.digits ≡ got (stored f)
  pub most : length f.payload ≤ most_payload

pub decodes : (l : Line) (f : Frame) → decode l ≡ got f → Decodes l f
unfolding decode
decodes l f e =
    let q = need_got l.ended 1 (then (bytes l.digits) framed) f e in
    let (b, eb, ef) = then_got_inv (bytes l.digits) framed f q.1 in
    let r = framed_got b f ef in
    record { ended = q.0; spells = eb ∙ ap got r.0; most = r.1 }

hex_pair : (a b x : ℕ) (l r : List ℕ) → Pair a b x → l ≡ hex r → a ∷ b ∷ l ≡ hex (x ∷ r)
unfolding hex
hex_pair a b x l r p e = rw (p.high, p.low, e)

-- digits are those of the bytes that they spell
pub hex_bytes : (l b : List ℕ) → bytes l ≡ got b → l ≡ hex b
unfolding bytes
hex_bytes [] b e = let z : [] ≡ b = cc in rw (← z) (unfold hex in refl)
hex_bytes (a ∷ []) b e = absurd (let z : ◌≡◌ {A = ℕ} 0 1 = cc in omega arith)
hex_bytes (a ∷ c ∷ l) b e = go (pair_is a c) (hex_bytes l)
  where
    go : ((x : ℕ) × Pair a c x) ⊎ NoPair a c → ((r : List ℕ) → bytes l ≡ got r → l ≡ hex r) → a ∷ c ∷ l ≡ hex b
    go (inl (x, p)) rec =
        let h : then (bytes l) (λ r. got (x ∷ r)) ≡ got b
        = ap (λ (y : Answer ℕ). then y (λ z. then (bytes l) (λ r. got (z ∷ r)))) (sym p.is) ∙ sym (bytes_pair a c l) ∙ e in
        let (r, er, eb) = then_got_inv (bytes l) (λ r. got (x ∷ r)) b h in
        let z : x ∷ r ≡ b = cc in
        rw (← z) (hex_pair a c x l r p (rec r er))
    go (inr p) rec =
        absurd
        (let h : refused 1 ≡ got b = ap (λ (y : Answer ℕ). then y (λ z. then (bytes l) (λ r. got (z ∷ r)))) (sym p.is) ∙ sym (bytes_pair a c l) ∙ e in
        let z : ◌≡◌ {A = ℕ} 0 1 = cc in omega arith)

pub length_hex : (b : List ℕ) → length (hex b) ≡ 2 * length b
unfolding hex
length_hex [] = refl
length_hex (x ∷ b) = rw (length_hex b) (sym (two_suc (length b)))

-- bytes are spelt by their digits
pub bytes_hex : (b : List ℕ) → Bytes b → bytes (hex b) ≡ got b
unfolding hex
bytes_hex [] h = unfold bytes in refl
bytes_hex (x ∷ b) h =
    bytes_pair (digit_for (x / 16)) (digit_for (x % 16)) (hex b)
    ∙ ap (λ (y : Answer ℕ). then y (λ z. then (bytes (hex b)) (λ r. got (z ∷ r)))) (pair_back x (h 0))
    ∙ ap (λ (y : Answer (List ℕ)). then y (λ r. got (x ∷ r))) (bytes_hex b (λ i. h (suc i)))

-- THE LINE OF A FRAME DECODES TO IT
pub decode_line : (f : Frame) → f.kind < 256 → Bytes f.payload → length f.payload ≤ most_payload
    → decode (record { digits = hex (stored f); ended = true }) ≡ got f
unfolding decode framed
decode_line f k h m =
    rw (bytes_hex (stored f) (bytes_stored f k h m)) (simp (le-leb (length f.payload) most_payload m, eq-eqb (length f.payload) (length f.payload) refl))
  where
    bytes_stored : (f : Frame) → f.kind < 256 → Bytes f.payload → length f.payload ≤ most_payload → Bytes (stored f)
    bytes_stored f k h m zero = k
    bytes_stored f k h m (suc zero) = omega arith
    bytes_stored f k h m (suc (suc i)) = h i

-- AND A LINE THAT DECODES IS THE LINE OF ITS FRAME
pub line_decoded : (l : Line) (f : Frame) → decode l ≡ got f → l ≡ record { digits = hex (stored f); ended = true }
line_decoded l f e = let d = decodes l f e in rw (← hex_bytes l.digits (stored f) d.spells, ← d.ended) refl

digits_passed : (b r : List ℕ) → (front (hex b ++ (line_feed ∷ r)) ≡ hex b) × (ends (hex b ++ (line_feed ∷ r)) ≡ true) × (after (hex b ++ (line_feed ∷ r)) ≡ r)
unfolding hex front ends after
digits_passed [] r = (refl, refl, refl)
digits_passed (x ∷ b) r =
    let p = digits_passed b r in
    let h = ne_eqb (digit_for (x / 16)) 10 (λ e. omega (arith, digit_for_least (x / 16))) in
    let l = ne_eqb (digit_for (x % 16)) 10 (λ e. omega (arith, digit_for_least (x % 16))) in
    (simp (h, l) (rw p.0 refl), simp (h, l) p.1, simp (h, l) p.2)

-- the lines of a text that begins with a frame's line
pub lines_line : (f : Frame) (r : List ℕ) → lines_of (line_for f ++ r) ≡ record { digits = hex (stored f); ended = true } ∷ lines_of r
unfolding line_for
lines_line f r =
    let p = digits_passed (stored f) r in
    let e : (hex (stored f) ++ (line_feed ∷ [])) ++ r ≡ hex (stored f) ++ (line_feed ∷ r) = append_assoc (hex (stored f)) (line_feed ∷ []) r in
    ap lines_of e ∙ lines_nonempty (hex (stored f) ++ (line_feed ∷ r)) (rw (length-append (hex (stored f)) (line_feed ∷ r)) (omega arith)) ∙ rw (p.0, p.1, p.2) refl

-- THE TEXT OF A LINE THAT DECODES: the frame's line, and the lines that follow are those of what follows it
pub text_line : (s : List ℕ) (l : Line) (ls : List Line) (f : Frame) → lines_of s ≡ l ∷ ls → decode l ≡ got f
    → (r : List ℕ) × (s ≡ line_for f ++ r) × (ls ≡ lines_of r)
unfolding line_for
text_line [] l ls f e d = absurd (unfold lines_of in let z : ◌≡◌ {A = ℕ} 0 1 = cc in omega arith)
text_line (c ∷ s) l ls f e d =
    let h = sym (lines_first c s) ∙ e in
    let hl : first_line (c ∷ s) ≡ l = cc in
    let ht : lines_of (after (c ∷ s)) ≡ ls = cc in
    let k = hl ∙ line_decoded l f d in
    let kf : front (c ∷ s) ≡ hex (stored f) = ap (λ (x : Line). x.digits) k in
    let ke : ends (c ∷ s) ≡ true = ap (λ (x : Line). x.ended) k in (
      after (c ∷ s),
      text_first (c ∷ s) ke ∙ ap (λ (x : List ℕ). x ++ (line_feed ∷ after (c ∷ s))) kf ∙ sym (append_assoc (hex (stored f)) (line_feed ∷ []) (after (c ∷ s))),
      sym ht,
    )

-- A payload that is decoded and asked for at once: block after block, byte by byte, and the line that it stands in.
use Prim.Native.Nat.{ℕ, zero, suc, ◌+◌, ◌-◌, ◌*◌, ◌/◌, ◌%◌, ◌≤◌, ◌<◌}
use native.Mathlib.Numerals.{add-one}
use native.Mathlib.Omega.{arith}
use mathlib.Core.Path.{◌≡◌, refl, sym, ap, subst, ◌∙◌}
use mathlib.Core.Logic.{◌⊎◌, inl, inr}
use mathlib.Core.Bool.{Bool, true, false}
use mathlib.Core.Option.{Option, none, some}
use mathlib.Core.List.{List, [], ◌∷◌, ◌++◌, append_assoc}
use Rattle.std.specs.List.{starts_with}
use Rattle.std.proofs.lemmas.Bool.Decides.{Decides-eqb}
use Rattle.std.proofs.lemmas.Slice.Eq.{starts_is}
use lib.Dec.{eqb, ltb}
use lib.ListN.{length, get_or, take, drop, set, replicate, length-drop, take-append-drop}
use lib.Seq.{get_or-drop, take_at, drop_at, take-length, take-suc-set}
use borrow.Author.Tests.{ltb-true, ltb-false, eqb-true, eq-eqb}
use Rattle.bmap.specs.Plain.{both, if_else, all, maybe}
use Rattle.bmap.specs.Limits.{most_payload, frame_size}
use Rattle.bmap.specs.Refusal.{Answer, got, refused, then}
use Rattle.bmap.specs.Line.{Line, Frame, line_feed, lines_of, decode, line_size, line_for, digit_for, hex, stored}
use Rattle.bmap.specs.Buffer.{over}
use Rattle.line.specs.Read.{first_of, such_payload, first_such, first_payload, PayloadRead, and_then, spelt}
use Rattle.line.specs.Within.{pair_of, is_digit, Spells, Spelt, SpeltIf, PayloadIf, Whole}
use Rattle.line.proofs.Lists.{part_to_end}
use Rattle.line.proofs.Digits.{pair_of_digits, digits_of_pair, Pair, NoPair, pair_is, spelt_more}
use Rattle.line.proofs.HexLaws.{length_hex}
use Rattle.line.proofs.Lines.{after, first_line, lines_first}
use Rattle.line.proofs.WholeLaws.{digits_spell, spells_part, spelt_full, spelt_join, feed_within, whole_said, whole_spelt}
use Rattle.line.proofs.LineLaws.{Takes, took}

-- a part to the end, as it is lent
abbrev pub part : List ℕ → ℕ → List ℕ
part l a = take (length l - a) (drop a l)

-- ---- pairs after pairs

spells_join : (s : List ℕ) (a b : ℕ) → Spells s a → Spells (drop (2 * a) s) b → Spells s (a + b)
spells_join s a b v w = record { within = omega (arith, v.within, w.within, length-drop (2 * a) s); pairs = λ i h. go i h (ltb i a) refl }
  where
    go : (i : ℕ) → i < a + b → (t : Bool) → ltb i a ≡ t → pair_of (get_or s (2 * i) 0) (get_or s (2 * i + 1) 0) ≤ 255
    go i h true e = v.pairs i (ltb-true i a e)
    go i h false e =
        let l = ltb-false i a e in
        let p : 2 * a + 2 * (i - a) ≡ 2 * i = omega arith in
        let q : 2 * a + (2 * (i - a) + 1) ≡ 2 * i + 1 = omega arith in
        rw (get_or-drop (2 * a) s (2 * (i - a)) 0, get_or-drop (2 * a) s (2 * (i - a) + 1) 0, p, q) at (w.pairs (i - a) (omega arith))

spells_one : (s : List ℕ) (n : ℕ) → 2 * n + 1 < length s → pair_of (get_or s (2 * n) 0) (get_or s (2 * n + 1) 0) ≤ 255 → Spells (drop (2 * n) s) 1
spells_one s n h e = record {
  within = rw (length-drop (2 * n) s) (omega arith);
  pairs = λ i k.
      let z : i ≡ 0 = omega arith in
      let p : 2 * n + 2 * 0 ≡ 2 * n = omega arith in
      let q : 2 * n + (2 * 0 + 1) ≡ 2 * n + 1 = omega arith in
      rw (z, get_or-drop (2 * n) s (2 * 0) 0, get_or-drop (2 * n) s (2 * 0 + 1) 0, p, q) e;
}

-- of a list of bytes that they spell: as many pairs
pub spells_of : (m n : ℕ) (s : List ℕ) → n ≤ length (spelt m s) → Spells s n
unfolding spelt
spells_of m zero s h = record { within = omega arith; pairs = λ i k. absurd (omega arith) }
spells_of zero (suc n) s h = absurd (omega arith)
spells_of (suc m) (suc n) [] h = absurd (omega arith)
spells_of (suc m) (suc n) (a ∷ []) h = absurd (omega arith)
spells_of (suc m) (suc n) (a ∷ b ∷ s) h = go (pair_is a b) (spells_of m n s)
  where
    go : ((x : ℕ) × Pair a b x) ⊎ NoPair a b → (n ≤ length (spelt m s) → Spells s n) → Spells (a ∷ b ∷ s) (suc n)
    go (inl (x, p)) r =
        let k : suc (length (spelt m s)) ≡ length (spelt (suc m) (a ∷ b ∷ s)) = sym (ap (λ (y : Answer ℕ). length (and_then y (spelt m s))) p.is) in
        let e : 1 + n ≡ suc n = omega arith in
        subst (Spells (a ∷ b ∷ s)) e (spells_join (a ∷ b ∷ s) 1 n (spells_one (a ∷ b ∷ s) 0 (omega arith) (omega (arith, p.of, p.small))) (r (omega arith)))
    go (inr p) r = absurd (omega (arith, h, ap (λ (y : Answer ℕ). length (and_then y (spelt m s))) p.is))

-- ---- so far

pub spelt_start : (text out : List ℕ) → Spelt text out 0
unfolding spelt
spelt_start text out = record { pairs = record { within = omega arith; pairs = λ i h. absurd (omega arith) }; bytes = refl }

-- more of them, in a part of the buffer that was lent
pub spelt_on : (text out : List ℕ) (at : ℕ) (d : Spelt text out at) (n : ℕ) (p : List ℕ) → Spelt (part text (2 * at)) p n
    → Spelt text (take at out ++ (p ++ drop (length out - at) (drop at out))) (at + n)
spelt_on text out at d n p w =
    let w' : Spelt (drop (2 * at) text) p n = rw (part_to_end text (2 * at)) at w in
    let all = spells_join text at n d.pairs w'.pairs in
    let b = spelt n (drop (2 * at) text) in
    let rest = drop n p ++ drop (length out - at) (drop at out) in
    let q : p ≡ b ++ drop n p = sym (take-append-drop n p) ∙ ap (λ (l : List ℕ). l ++ drop n p) w'.bytes in
    let laid : take at out ++ (p ++ drop (length out - at) (drop at out)) ≡ spelt (at + n) text ++ rest
    = ap (λ (l : List ℕ). take at out ++ (l ++ drop (length out - at) (drop at out))) q
    ∙ rw (d.bytes, append_assoc b (drop n p) (drop (length out - at) (drop at out)), ← append_assoc (spelt at text) b rest, spelt_join at n text (spelt_full at text d.pairs)) refl in
    record { pairs = all; bytes = ap (take (at + n)) laid ∙ take_at (spelt (at + n) text) rest (at + n) (spelt_full (at + n) text all) }

-- digits in a part of the text
pub digits_in_part : (s : List ℕ) (at n : ℕ) → 2 * (at + n) ≤ length s → all is_digit (take (2 * n) (part s (2 * at))) ≡ true → Spells (part s (2 * at)) n
digits_in_part s at n h e = digits_spell (part s (2 * at)) n (rw (part_to_end s (2 * at), length-drop (2 * at) s) (omega arith)) e

-- a block of them, at the front of a buffer
pub spelt_block : (n : ℕ) (text entry p : List ℕ) → Spells text n → p ≡ over (spelt n text) entry → Spelt text p n
spelt_block n text entry p w e = record { pairs = w; bytes = rw e (take_at _ _ _ (spelt_full n text w)) }

-- a byte more
pub spelt_byte : (text out : List ℕ) (at : ℕ) (d : Spelt text out at) (x : ℕ) → at < length out → 2 * at + 1 < length text
    → pair_of (get_or text (2 * at) 0) (get_or text (2 * at + 1) 0) ≤ 255 → x ≡ pair_of (get_or text (2 * at) 0) (get_or text (2 * at + 1) 0)
    → Spelt text (set out at x) (at + 1)
unfolding spelt
spelt_byte text out at d x h k p e =
    let one : at + 1 - at ≡ 1 = omega arith in
    let none : at + 1 - (at + 1) ≡ 0 = omega arith in
    let m = rw (one, none) at (spelt_more (at + 1) text at (omega arith) k p) in
    record {
      pairs = spells_join text at 1 d.pairs (spells_one text at k p);
      bytes = rw (add-one at, take-suc-set out at x h, d.bytes, e) (rw (← add-one at) (sym (spelt_join at 1 text (spelt_full at text d.pairs) ∙ ap (λ (l : List ℕ). spelt at text ++ l) m)));
    }

-- and what is said of the rest is said of all m
pub spelt_rest : (text out : List ℕ) (at m : ℕ) → length out ≡ m → Spelt text out at → at ≤ length out → (p : List ℕ) → length p ≡ length (part out at) → (r : Bool)
    → SpeltIf (length (part out at)) (part text (2 * at)) p r → SpeltIf m text (take at out ++ (p ++ drop (length out - at) (drop at out))) r
spelt_rest text out at m whole d h p l r w =
    let size : at + length (part out at) ≡ m = omega (arith, ap length (part_to_end out at) ∙ length-drop at out) in
    go r size w
  where
    go : (r : Bool) → at + length (part out at) ≡ m → SpeltIf (length (part out at)) (part text (2 * at)) p r → SpeltIf m text (take at out ++ (p ++ drop (length out - at) (drop at out))) r
    go true size w = subst (Spelt text (take at out ++ (p ++ drop (length out - at) (drop at out)))) size (spelt_on text out at d (length (part out at)) p w)
    go false size w = λ v. w (spells_part text m at (length (part out at)) (omega arith) v)

-- ---- the line

-- what is asked of a line before its payload is read, and that its payload is digits
pub record Asked (s : List ℕ) (kind count : ℕ) : Type 0 where
  pub most : count ≤ most_payload
  pub feed : get_or s (2 * count + 4) 0 ≡ line_feed
  pub first : pair_of (get_or s 0 0) (get_or s 1 0) ≡ kind
  pub second : pair_of (get_or s 2 0) (get_or s 3 0) ≡ count
  pub pairs : Spells (part s 4) count

module _ (s : List ℕ) (kind count : ℕ) (byte : kind ≤ 255) (a : Asked s kind count) where
  inside : 2 * count + 4 < length s
  inside = feed_within s (2 * count + 4) a.feed

  head : Spells s 2
  head = spells_join s 1 1 (spells_one s 0 (omega (arith, inside)) (omega (arith, a.first))) (spells_one s 1 (omega (arith, inside)) (omega (arith, a.second, a.most)))

  is_whole : Whole s (2 + count)
  is_whole = record {
    spells = spells_join s 2 count head (rw (part_to_end s 4) at a.pairs);
    feed = let e : 2 * (2 + count) ≡ 2 * count + 4 = omega arith in ap (λ (i : ℕ). get_or s i 0) e ∙ a.feed;
    count = omega (arith, a.second);
    size = omega (arith, a.most);
  }

  spelt_head : spelt 2 s ≡ kind ∷ count ∷ []
  unfolding spelt
  spelt_head =
      let x = spelt_more 2 s 0 (omega arith) (omega (arith, inside)) (omega (arith, a.first)) in
      let y = spelt_more 2 s 1 (omega arith) (omega (arith, inside)) (omega (arith, a.second, a.most)) in
      x ∙ ap (λ (l : List ℕ). pair_of (get_or s 0 0) (get_or s 1 0) ∷ l) y ∙ rw (a.first, a.second) refl

  asked_bytes : spelt frame_size s ≡ kind ∷ count ∷ spelt count (drop 4 s)
  asked_bytes = whole_spelt s (2 + count) is_whole ∙ spelt_join 2 count s (spelt_full 2 s head) ∙ rw spelt_head refl

-- what is said of a frame's line that was taken
pub takes_payload : (text out exit : List ℕ) (n k kind size : ℕ) (t : Takes text out exit n k) → first_payload kind size text ≡ such_payload kind size (got t.frame)
unfolding first_payload
takes_payload text out exit n k kind size t = ap (first_such kind size) t.lines ∙ ap (such_payload kind size) t.decodes

-- a line of which all that holds has such a payload
asked_payload : (s p : List ℕ) (kind : ℕ) → kind ≤ 255 → Asked s kind (length p) → p ≡ spelt (length p) (drop 4 s) → first_payload kind (length p) s ≡ some p
asked_payload s p kind byte a b =
    let n = length p in
    let k = 2 * (2 + n) + 1 in
    let t = took s [] (over (spelt frame_size s) []) (2 + n) k (omega (arith, inside s kind n byte a)) (whole_said s (2 + n) (is_whole s kind n byte a)) refl in
    let e : stored t.frame ≡ kind ∷ n ∷ p = sym t.spells ∙ asked_bytes s kind n byte a ∙ ap (λ (l : List ℕ). kind ∷ n ∷ l) (sym b) in
    let f : t.frame ≡ record { kind = kind; payload = p } = ap (λ (l : List ℕ). record { kind = get_or l 0 0; payload = drop 2 l }) e in
    takes_payload s [] (over (spelt frame_size s) []) (2 + n) k kind n t
    ∙ ap (λ (g : Frame). such_payload kind n (got g)) f
    ∙ simp (eq-eqb kind kind refl, eq-eqb n n refl)

-- the frame that such a payload is of
payload_got : (y : Answer Frame) (kind size : ℕ) (p : List ℕ) → such_payload kind size y ≡ some p → (y ≡ got (record { kind = kind; payload = p })) × (length p ≡ size)
payload_got (refused n) kind size p e = absurd (let z : ◌≡◌ {A = ℕ} 0 1 = cc in omega arith)
payload_got (got f) kind size p e = go (eqb f.kind kind) (eqb (length f.payload) size) refl refl e
  where
    go : (a b : Bool) → eqb f.kind kind ≡ a → eqb (length f.payload) size ≡ b → if_else (both a b) (some f.payload) none ≡ some p
        → (got f ≡ got (record { kind = kind; payload = p })) × (length p ≡ size)
    go true true x y q =
        let k : f.kind ≡ kind = eqb-true f.kind kind x in
        let l : f.payload ≡ p = cc in
        (λ i. got (record { kind = k i; payload = l i }), sym (ap length l) ∙ eqb-true (length f.payload) size y)
    go true false x y q = absurd (let z : ◌≡◌ {A = ℕ} 0 1 = cc in omega arith)
    go false b x y q = absurd (let z : ◌≡◌ {A = ℕ} 0 1 = cc in omega arith)

-- the line that such a payload stands in, as it is taken
pub record PayloadLine (text p : List ℕ) (kind size : ℕ) : Type 0 where
  pub takes : Takes text [] (over (spelt frame_size text) []) (2 + size) (line_size size)
  pub frame : takes.frame ≡ record { kind = kind; payload = p }
  pub count : length p ≡ size

-- a line with it is the one that was taken
taken_line : (s p : List ℕ) (kind size : ℕ) (line : Line) (others : List Line) → lines_of s ≡ line ∷ others → decode line ≡ got (record { kind = kind; payload = p }) → length p ≡ size
    → Takes s [] (over (spelt frame_size s) []) (2 + size) (line_size size) → PayloadLine s p kind size
taken_line s p kind size line others e d count t =
    let both = sym e ∙ t.lines in
    let same : line ≡ t.line = cc in
    let gives : got t.frame ≡ got (record { kind = kind; payload = p }) = sym t.decodes ∙ ap decode (sym same) ∙ d in
    record { takes = t; frame = cc; count = count }

pub payload_line : (s p : List ℕ) (kind size : ℕ) → first_payload kind size s ≡ some p → PayloadLine s p kind size
unfolding first_payload lines_of
payload_line [] p kind size e = absurd (let z : ◌≡◌ {A = ℕ} 0 1 = cc in omega arith)
payload_line (c ∷ s) p kind size e =
    let line = first_line (c ∷ s) in
    let n = suc (length line.digits) in
    let (d, count) = payload_got (decode line) kind size p (sym (ap (first_such kind size) (lines_first c s)) ∙ e) in
    let said : first_of (lines_of (c ∷ s)) ≡ some (got (record { bytes = suc (suc (length p)); characters = n }))
    = ap first_of (lines_first c s) ∙ ap (λ (y : Answer Frame). some (then y (λ f. got (record { bytes = length (stored f); characters = n })))) d in
    let t = took (c ∷ s) [] (over (spelt frame_size (c ∷ s)) []) (suc (suc (length p))) n (omega arith) (sym said) refl in
    let bytes : suc (suc (length p)) ≡ 2 + size = omega arith in
    let characters : n ≡ line_size size = omega (arith, t.characters) in
    taken_line (c ∷ s) p kind size line (lines_of (after (c ∷ s))) (lines_first c s) d count (rw (bytes, characters) at t)

-- and of such a line all that is asked holds
payload_asked : (s p : List ℕ) (kind count : ℕ) → first_payload kind count s ≡ some p → Asked s kind count
unfolding line_for
payload_asked s p kind count e =
    let i = payload_line s p kind count e in
    let t = i.takes in
    let f : Frame = record { kind = kind; payload = p } in
    let sp : spelt frame_size s ≡ stored f = t.spells ∙ ap stored i.frame in
    let w : Spells s (2 + count) = spells_of frame_size (2 + count) s (rw sp (omega (arith, i.count))) in
    let x = spelt_more frame_size s 0 (omega arith) (omega (arith, w.within)) (w.pairs 0 (omega arith)) in
    let y = spelt_more frame_size s 1 (omega arith) (omega (arith, w.within)) (w.pairs 1 (omega arith)) in
    let rest = drop (line_size count) s in
    let text : s ≡ hex (stored f) ++ (line_feed ∷ rest)
    = t.text_is ∙ append_assoc (hex (stored t.frame)) (line_feed ∷ []) rest ∙ ap (λ (g : Frame). hex (stored g) ++ (line_feed ∷ rest)) i.frame in
    let feed : drop (2 * count + 4) s ≡ line_feed ∷ rest = ap (drop (2 * count + 4)) text ∙ drop_at (hex (stored f)) (line_feed ∷ rest) (2 * count + 4) (length_hex (stored f) ∙ omega (arith, i.count)) in
    record {
      most = omega (arith, t.most, ap (λ (g : Frame). length g.payload) i.frame, i.count);
      feed = let z : 2 * count + 4 + 0 ≡ 2 * count + 4 = omega arith in ap (λ (j : ℕ). get_or s j 0) (sym z) ∙ sym (get_or-drop (2 * count + 4) s 0 0) ∙ ap (λ (q : List ℕ). get_or q 0 0) feed;
      first = sym (ap (λ (q : List ℕ). get_or q 0 0) x) ∙ ap (λ (q : List ℕ). get_or q 0 0) sp;
      second = sym (ap (λ (q : List ℕ). get_or q 0 0) y) ∙ sym (ap (λ (q : List ℕ). get_or q 1 0) x) ∙ ap (λ (q : List ℕ). get_or q 1 0) sp ∙ i.count;
      pairs = spells_part s (2 + count) 2 count (omega arith) w;
    }

-- the digits of kind and count come first
module _ (kind count : ℕ) (k : kind < 256) (n : count < 256) where
  pub head_spells : (s : List ℕ) → s ≡ hex (kind ∷ count ∷ []) ++ drop 4 s → (pair_of (get_or s 0 0) (get_or s 1 0) ≡ kind) × (pair_of (get_or s 2 0) (get_or s 3 0) ≡ count)
  unfolding hex
  head_spells s e =
      let x : get_or s 0 0 ≡ digit_for (kind / 16) = ap (λ (l : List ℕ). get_or l 0 0) e in
      let y : get_or s 1 0 ≡ digit_for (kind % 16) = ap (λ (l : List ℕ). get_or l 1 0) e in
      let z : get_or s 2 0 ≡ digit_for (count / 16) = ap (λ (l : List ℕ). get_or l 2 0) e in
      let w : get_or s 3 0 ≡ digit_for (count % 16) = ap (λ (l : List ℕ). get_or l 3 0) e in
      (rw (x, y) (pair_of_digits kind k), rw (z, w) (pair_of_digits count n))

  pub spells_head : (s : List ℕ) → 4 ≤ length s → pair_of (get_or s 0 0) (get_or s 1 0) ≡ kind → pair_of (get_or s 2 0) (get_or s 3 0) ≡ count → s ≡ hex (kind ∷ count ∷ []) ++ drop 4 s
  unfolding hex
  spells_head [] h f g = absurd (omega arith)
  spells_head (a ∷ []) h f g = absurd (omega arith)
  spells_head (a ∷ b ∷ []) h f g = absurd (omega arith)
  spells_head (a ∷ b ∷ c ∷ []) h f g = absurd (omega arith)
  spells_head (a ∷ b ∷ c ∷ d ∷ s) h f g =
      let p = digits_of_pair a b kind k f in
      let q = digits_of_pair c d count n g in
      λ i. p.0 i ∷ p.1 i ∷ q.0 i ∷ q.1 i ∷ s

  -- and are what the text is asked to start with
  pub no_head : (s p : List ℕ) → p ≡ hex (kind ∷ count ∷ []) → false ≡ starts_with eqb s p → Asked s kind count → ⊥
  no_head s p e t a =
      let w = spells_head s (omega (arith, feed_within s (2 * count + 4) a.feed)) a.first a.second in
      let f : false ≡ true = (starts_is Decides-eqb s p false t).1 (drop 4 s) (w ∙ ap (λ (l : List ℕ). l ++ drop 4 s) (sym e)) in
      absurd (let z : ◌≡◌ {A = ℕ} 0 1 = cc in omega arith)

  pub a_head : (s p : List ℕ) → p ≡ hex (kind ∷ count ∷ []) → true ≡ starts_with eqb s p → (pair_of (get_or s 0 0) (get_or s 1 0) ≡ kind) × (pair_of (get_or s 2 0) (get_or s 3 0) ≡ count)
  a_head s p e t =
      let four : length p ≡ 4 = ap length e ∙ length_hex (kind ∷ count ∷ []) in
      head_spells s ((starts_is Decides-eqb s p true t).0 refl ∙ ap (λ (l : List ℕ). l ++ drop (length p) s) e ∙ ap (λ (n : ℕ). hex (kind ∷ count ∷ []) ++ drop n s) four)

-- so there is none where it does not hold
pub no_payload : (s : List ℕ) (kind count : ℕ) → (Asked s kind count → ⊥) → first_payload kind count s ≡ none
no_payload s kind count h = go (first_payload kind count s) refl
  where
    go : (y : Option (List ℕ)) → first_payload kind count s ≡ y → y ≡ none
    go none e = refl
    go (some p) e = absurd (h (payload_asked s p kind count e))

-- what the payload's digits say, they say of the line
pub payload_if : (s p : List ℕ) (kind count : ℕ) (r : Bool) → kind ≤ 255 → length p ≡ count → (Spells (part s 4) count → Asked s kind count)
    → SpeltIf count (part s 4) p r → PayloadIf kind s p r
payload_if s p kind count true byte e a w =
    let v : take count p ≡ spelt count (drop 4 s) = rw (part_to_end s 4) at w.bytes in
    let k : p ≡ spelt (length p) (drop 4 s) = sym (take-length p) ∙ rw (← e) at v in
    asked_payload s p kind byte (subst (λ (k : ℕ). Spells (part s 4) k → Asked s kind k) (sym e) a (subst (Spells (part s 4)) (sym e) w.pairs)) k
payload_if s p kind count false byte e a w = no_payload s kind (length p) (λ q. w (subst (Spells (part s 4)) e q.pairs))

-- what it says to a caller
pub payload_told : (s out p : List ℕ) (kind : ℕ) (r : Bool) → PayloadRead kind s out p r → first_payload kind (length out) s ≡ if_else r (some p) none
payload_told s out p kind r w = go (first_payload kind (length out) s) w.answer w.left
  where
    go : (y : Option (List ℕ)) → r ≡ maybe y false (λ q. true) → p ≡ maybe y (replicate (length out) 0) (λ q. q) → y ≡ if_else r (some p) none
    go none a b = rw a refl
    go (some q) a b = rw (a, b) refl

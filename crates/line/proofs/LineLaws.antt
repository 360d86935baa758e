-- `read_line`: its answers, and what each says to a caller.
use Prim.Native.Nat.{ℕ, suc, ◌+◌, ◌*◌, ◌≤◌, ◌<◌}
use native.Mathlib.Omega.{arith}
use mathlib.Core.Path.{◌≡◌, refl, sym, ap, ◌∙◌}
use mathlib.Core.Bool.{Bool, true, false}
use mathlib.Core.Option.{Option, none, some}
use mathlib.Core.List.{List, [], ◌∷◌, ◌++◌, append_assoc}
use lib.Dec.{leb}
use lib.ListN.{length, get_or, take, drop, length-append, take-append-drop, get_or-append}
use lib.Seq.{drop_at, drop-append-le, length-take-le}
use borrow.Author.Tests.{le-leb, lt-leb}
use Rattle.bmap.specs.Plain.{if_else}
use Rattle.bmap.specs.Limits.{most_payload, frame_size}
use Rattle.bmap.specs.Refusal.{Answer, got, refused, then}
use Rattle.bmap.specs.Line.{Line, Frame, line_feed, lines_of, decode, stored, hex, line_for}
use Rattle.bmap.specs.Buffer.{over}
use Rattle.line.specs.declared.read.FirstFrame.{FirstFrame}
use Rattle.line.specs.Read.{first_of, line_read, bytes_read, spelt}
use Rattle.line.specs.Within.{Begins, Whole}
use Rattle.line.proofs.Digits.{spelt_most}
use Rattle.line.proofs.Spelling.{spelt_all}
use Rattle.line.proofs.Lines.{after, first_line, front, lines_nonempty, text_first}
use Rattle.line.proofs.FirstLaws.{decoded, first_is, size_in}
use Rattle.line.proofs.WholeLaws.{spelt_full, whole_spelt, whole_said}
use Rattle.line.proofs.HexLaws.{hex_bytes, length_hex}
use Rattle.line.proofs.Answers.{then_got_inv, then_refused}
-- the first line, and a frame's line there and back, for callers that cite this module
pub use Rattle.line.proofs.Lines.{lines_first}
pub use Rattle.line.proofs.HexLaws.{Decodes, decodes, decode_line, line_decoded, lines_line, text_line}

-- room for a frame, or refusal 10
read_in_room : (text out : List ℕ) → frame_size ≤ length out → line_read text out ≡ first_of (lines_of text)
unfolding line_read
read_in_room text out h = simp (le-leb frame_size (length out) h)

-- the bytes left where there is room
bytes_in_room : (text out : List ℕ) → frame_size ≤ length out → bytes_read text out ≡ over (spelt frame_size text) out
unfolding bytes_read
bytes_in_room text out h = simp (le-leb frame_size (length out) h)

pub read_no_room : (text out : List ℕ) → length out < frame_size → (some (refused 10) ≡ line_read text out) × (out ≡ bytes_read text out)
unfolding line_read bytes_read
read_no_room text out h = simp (lt-leb frame_size (length out) h) (refl, refl)

pub read_nothing : (text out : List ℕ) → frame_size ≤ length out → length text ≡ 0 → (none ≡ line_read text out) × (out ≡ bytes_read text out)
unfolding lines_of spelt
read_nothing [] out h e = (sym (read_in_room [] out h), sym (bytes_in_room [] out h))
read_nothing (c ∷ s) out h e = absurd (omega arith)

module _ (text out p : List ℕ) (n : ℕ) (room : frame_size ≤ length out) (count : n ≡ length (spelt (length (take frame_size out)) text))
    (left : p ≡ over (spelt (length (take frame_size out)) text) (take frame_size out)) where
  spelt_size : spelt (length (take frame_size out)) text ≡ spelt frame_size text
  spelt_size = ap (λ (k : ℕ). spelt k text) (length-take-le frame_size out room)

  at_front : p ++ drop frame_size out ≡ over (spelt frame_size text) out
  at_front =
      let sp = spelt frame_size text in
      let l : length (take frame_size out) ≡ frame_size = length-take-le frame_size out room in
      rw (left, spelt_size, append_assoc sp (drop (length sp) (take frame_size out)) (drop frame_size out))
      (ap (λ (x : List ℕ). sp ++ x)
      (sym (drop-append-le (length sp) (take frame_size out) (drop frame_size out) (omega (arith, spelt_most frame_size text))) ∙ ap (drop (length sp)) (take-append-drop frame_size out)))

  pub read_begins : 0 < length text → Begins text n (get_or (p ++ drop frame_size out) 1 0)
  read_begins h = record {
    some = h;
    pairs = count ∙ ap length spelt_size;
    second = λ k.
        ap (λ (x : List ℕ). get_or x 1 0) at_front
        ∙ get_or-append (spelt frame_size text) (drop (length (spelt frame_size text)) out) 0 1 (omega (arith, count, ap length spelt_size));
  }

  pub read_done : (answer : Option (Answer FirstFrame)) → answer ≡ first_of (lines_of text)
      → (answer ≡ line_read text out) × (p ++ drop frame_size out ≡ bytes_read text out)
  read_done answer e = (e ∙ sym (read_in_room text out room), at_front ∙ sym (bytes_in_room text out room))

-- a line that was seen to be whole and right
pub read_whole : (text out p : List ℕ) (n : ℕ) → frame_size ≤ length out → Whole text n → p ≡ spelt (length (take n out)) text
    → (some (got (record { bytes = n; characters = 2 * n + 1 })) ≡ line_read text out) × (p ++ drop n out ≡ bytes_read text out)
read_whole text out p n room w e =
    let l : length (take n out) ≡ n = length-take-le n out (omega (arith, w.size)) in
    let q : p ≡ spelt frame_size text = e ∙ ap (λ (k : ℕ). spelt k text) l ∙ sym (whole_spelt text n w) in
    let m : length (spelt frame_size text) ≡ n = ap length (whole_spelt text n w) ∙ spelt_full n text w.spells in (
      whole_said text n w ∙ sym (read_in_room text out room),
      rw q (ap (λ (k : ℕ). spelt frame_size text ++ drop k out) (sym m)) ∙ sym (bytes_in_room text out room),
    )

first_nothing : (s : List ℕ) → first_of (lines_of s) ≡ none → s ≡ []
unfolding lines_of
first_nothing [] e = refl
first_nothing (c ∷ s) e = absurd (let h = ap first_of (lines_first c s) in let z : ◌≡◌ {A = ℕ} 0 1 = cc in omega arith)

-- there is no line
pub line_nothing : (text out : List ℕ) → none ≡ line_read text out → text ≡ []
unfolding line_read
line_nothing text out e = go (leb frame_size (length out)) e
  where
    go : (b : Bool) → none ≡ if_else b (first_of (lines_of text)) (some (refused 10)) → text ≡ []
    go true q = first_nothing text (sym q)
    go false q = absurd (let z : ◌≡◌ {A = ℕ} 0 1 = cc in omega arith)

-- the first line is refused
pub record Refuses (text : List ℕ) (number : ℕ) : Type 0 where
  pub line : Line
  pub rest : List Line
  pub lines : lines_of text ≡ line ∷ rest
  pub decodes : decode line ≡ refused number

pub line_refused : (text out : List ℕ) (n : ℕ) → frame_size ≤ length out → some (refused n) ≡ line_read text out → Refuses text n
line_refused text out n h e = go text (e ∙ read_in_room text out h)
  where
    go : (s : List ℕ) → some (refused n) ≡ first_of (lines_of s) → Refuses s n
    go [] q = absurd (unfold lines_of in let z : ◌≡◌ {A = ℕ} 0 1 = cc in omega arith)
    go (c ∷ s) q =
        let k = q ∙ ap first_of (lines_first c s) in
        let j : then (decode (first_line (c ∷ s))) (λ f. got (size_in (c ∷ s) f)) ≡ refused n = cc in
        record { line = first_line (c ∷ s); rest = lines_of (after (c ∷ s)); lines = lines_first c s; decodes = then_refused (decode (first_line (c ∷ s))) (size_in (c ∷ s)) n j }

-- the first line is a frame's: so many bytes, and so many characters with the LF
pub record Takes (text out exit : List ℕ) (n k : ℕ) : Type 0 where
  pub frame : Frame
  pub line : Line
  pub lines : lines_of text ≡ line ∷ lines_of (drop k text)
  pub decodes : decode line ≡ got frame
  pub text_is : text ≡ line_for frame ++ drop k text
  pub size : n ≡ length (stored frame)
  pub most : length frame.payload ≤ most_payload
  pub characters : k ≡ 2 * n + 1
  pub within : k ≤ length text
  pub spells : spelt frame_size text ≡ stored frame
  pub left : exit ≡ over (stored frame) out

pub took : (s out exit : List ℕ) (n k : ℕ) → 0 < length s → some (got (record { bytes = n; characters = k })) ≡ first_of (lines_of s) → exit ≡ over (spelt frame_size s) out
    → Takes s out exit n k
unfolding decode line_for
took s out exit n k h e x =
    let j : then (decoded s) (λ f. got (size_in s f)) ≡ got (record { bytes = n; characters = k }) = cc (first_is s h) in
    let (f, ef, et) = then_got_inv (decoded s) (λ f. got (size_in s f)) (record { bytes = n; characters = k }) j in
    let q : size_in s f ≡ record { bytes = n; characters = k } = cc in
    let en : length (stored f) ≡ n = ap (λ (t : FirstFrame). t.bytes) q in
    let ek : suc (length (front s)) ≡ k = ap (λ (t : FirstFrame). t.characters) q in
    let d = decodes (first_line s) f ef in
    let fr : front s ≡ hex (stored f) = hex_bytes (front s) (stored f) d.spells in
    let lf : length (front s) ≡ 2 * n = ap length fr ∙ length_hex (stored f) ∙ omega arith in
    let whole : s ≡ front s ++ (line_feed ∷ after s) = text_first s d.ended in
    let whole' : s ≡ (front s ++ (line_feed ∷ [])) ++ after s = whole ∙ sym (append_assoc (front s) (line_feed ∷ []) (after s)) in
    let ls : length s ≡ length (front s) + suc (length (after s)) = ap length whole ∙ length-append (front s) (line_feed ∷ after s) in
    let sp : spelt frame_size s ≡ stored f = spelt_all frame_size s (stored f) d.ended d.spells (omega (arith, d.most)) in
    let dr : drop k s ≡ after s = ap (drop k) whole' ∙ drop_at (front s ++ (line_feed ∷ [])) (after s) k (length-append (front s) (line_feed ∷ []) ∙ omega arith) in
    record {
      frame = f;
      line = first_line s;
      lines = lines_nonempty s h ∙ ap (λ (y : List ℕ). first_line s ∷ lines_of y) (sym dr);
      decodes = ef;
      text_is = whole' ∙ ap (λ (y : List ℕ). (y ++ (line_feed ∷ [])) ++ after s) fr ∙ ap (λ (y : List ℕ). (hex (stored f) ++ (line_feed ∷ [])) ++ y) (sym dr);
      size = sym en;
      most = d.most;
      characters = omega arith;
      within = omega arith;
      spells = sp;
      left = x ∙ ap (λ (y : List ℕ). over y out) sp;
    }

pub line_taken : (text out exit : List ℕ) (n k : ℕ) → frame_size ≤ length out → some (got (record { bytes = n; characters = k })) ≡ line_read text out → exit ≡ bytes_read text out
    → Takes text out exit n k
line_taken text out exit n k h e x = took text out exit n k (some_text text (e ∙ read_in_room text out h)) (e ∙ read_in_room text out h) (x ∙ bytes_in_room text out h)
  where
    some_text : (s : List ℕ) → some (got (record { bytes = n; characters = k })) ≡ first_of (lines_of s) → 0 < length s
    some_text [] q = absurd (unfold lines_of in let z : ◌≡◌ {A = ℕ} 0 1 = cc in omega arith)
    some_text (c ∷ s) q = omega arith

-- Lines into a store: what a reader of lines does whatever it makes of the frames. Assumes nothing.
use Prim.Native.Nat.{ℕ, ◌+◌, ◌-◌, ◌≤◌}
use native.Mathlib.Omega.{arith}
use mathlib.Core.Path.{◌≡◌, sym, ap, subst, ◌∙◌}
use mathlib.Core.List.{List, [], ◌∷◌, ◌++◌, append_assoc, append-nil, map}
use mathlib.Core.Option.{Option, none, some}
use lib.ListN.{length, get_or, take, drop, length-append, length-drop}
use lib.Seq.{length-take-le, take_at, drop_at, get_or_at}
use Rattle.bmap.specs.Plain.{flat}
use Rattle.bmap.specs.Refusal.{Answer, got, refused, number_of, Reading, read, refused_at, afterwards}
use Rattle.bmap.specs.Line.{Frame, stored, lines_of, decode}
use Rattle.bmap.specs.Buffer.{padded, Filled, fill}
use Rattle.bmap.specs.Store.{frames_of, stored_of}
use Rattle.bmap.specs.declared.refusal.Refusal.{Refusal}
use Rattle.bmap.specs.declared.refusal.ReadError.{ReadError}
use Rattle.std.specs.Prelude.{Option as Maybe, None, Some, Result, Ok, Err}
use Rattle.line.specs.declared.read.FirstFrame.{FirstFrame}
use Rattle.line.specs.Read.{said, line_read, bytes_read}
use Rattle.line.proofs.Lists.{part_to_end}
use Rattle.line.proofs.LineLaws.{line_nothing, Refuses, line_refused, Takes, line_taken}
use Rattle.domain.specs.Read.{reading_of, bytes_in, Front}
use Rattle.domain.proofs.Held.{cut}

-- ---- a text, by its first line

module _ (text : List ℕ) where
  no_bytes : text ≡ [] → bytes_in text ≡ []
  unfolding bytes_in lines_of flat
  no_bytes e = rw e

  no_frame : text ≡ [] → frames_of text ≡ []
  unfolding lines_of
  no_frame e = rw e

  first_refused : (m : ℕ) (r : Refuses text m) → frames_of text ≡ refused m ∷ map decode r.rest
  first_refused m r = ap (map decode) r.lines ∙ ap (λ a. a ∷ map decode r.rest) r.decodes

  module _ {out exit : List ℕ} {n k : ℕ} (t : Takes text out exit n k) where
    first_frame : frames_of text ≡ got t.frame ∷ frames_of (drop k text)
    first_frame = ap (map decode) t.lines ∙ ap (λ a. a ∷ frames_of (drop k text)) t.decodes

    first_bytes : bytes_in text ≡ stored t.frame ++ bytes_in (drop k text)
    unfolding bytes_in flat
    first_bytes = ap (λ l. flat (map stored_of l)) first_frame

-- ---- a store with a part written anew from a place on

-- what is lent of it
abbrev pub lent : List ℕ → ℕ → List ℕ
lent store used = take (length store - used) (drop used store)

abbrev pub renewed : List ℕ → ℕ → List ℕ → List ℕ
renewed store used p = take used store ++ (p ++ drop (length store - used) (drop used store))

module _ (store : List ℕ) (used : ℕ) (inside : used ≤ length store) where
  pub front_kept : (p : List ℕ) → take used (renewed store used p) ≡ take used store
  front_kept p = take_at (take used store) (p ++ drop (length store - used) (drop used store)) used (length-take-le used store inside)

  pub lent_length : length (lent store used) ≡ length store - used
  lent_length = length-take-le (length store - used) (drop used store) (omega (arith, length-drop used store))

  -- the frame that begins it
  module _ (f : Frame) (p q : List ℕ) (n : ℕ) (e : p ≡ stored f ++ q) (m : n ≡ length (stored f)) where
    tail : List ℕ
    tail = q ++ drop (length store - used) (drop used store)

    whole : renewed store used p ≡ take used store ++ (stored f ++ tail)
    unfolding tail
    whole =
        ap (λ l. take used store ++ (l ++ drop (length store - used) (drop used store))) e
        ∙ ap (λ l. take used store ++ l) (append_assoc (stored f) q (drop (length store - used) (drop used store)))

    front_longer : take (used + n) (renewed store used p) ≡ take used store ++ stored f
    front_longer =
        ap (take (used + n)) (whole ∙ sym (append_assoc (take used store) (stored f) tail))
        ∙ take_at (take used store ++ stored f) tail (used + n) (length-append (take used store) (stored f) ∙ omega (arith, length-take-le used store inside))

    cut_is : cut (renewed store used p) used n ≡ f
    cut_is =
        let l = length-take-le used store inside in
        let k : get_or (renewed store used p) used 0 ≡ f.kind = ap (λ l. get_or l used 0) whole ∙ get_or_at (take used store) f.kind (length f.payload ∷ (f.payload ++ tail)) 0 used l in
        let d : drop (used + 2) (renewed store used p) ≡ f.payload ++ tail
        = ap (drop (used + 2)) (whole ∙ sym (append_assoc (take used store) (f.kind ∷ length f.payload ∷ []) (f.payload ++ tail)))
        ∙ drop_at (take used store ++ (f.kind ∷ length f.payload ∷ [])) (f.payload ++ tail) (used + 2) (length-append (take used store) (f.kind ∷ length f.payload ∷ []) ∙ omega arith) in
        let c : length f.payload ≡ used + n - (used + 2) = omega arith in
        ap (λ (x : ℕ). record { kind = x; payload = take (used + n - (used + 2)) (drop (used + 2) (renewed store used p)) }) k
        ∙ ap (λ (x : List ℕ). record { kind = f.kind; payload = x }) (ap (take (used + n - (used + 2))) d ∙ take_at f.payload tail (used + n - (used + 2)) c)

-- ---- the lines so far

-- a line's frame, as the code has it
pub first_is : {r : Result (Maybe FirstFrame) Refusal} {o : Maybe FirstFrame} {f : FirstFrame} {a : Option (Answer FirstFrame)} → r ≡ Ok o → o ≡ Some f → said r ≡ a
    → some (got f) ≡ a
first_is e s a = sym (ap said (e ∙ ap Ok s)) ∙ a

pub first_none : {r : Result (Maybe FirstFrame) Refusal} {o : Maybe FirstFrame} {a : Option (Answer FirstFrame)} → r ≡ Ok o → o ≡ None → said r ≡ a → none ≡ a
first_none e s a = sym (ap said (e ∙ ap Ok s)) ∙ a

-- a line's frame and its characters
pub record Sizes (rest : List ℕ) (size k : ℕ) : Type 0 where
  pub two : 2 ≤ size
  pub most : size ≤ 122
  pub characters : k ≤ length rest
  pub some_characters : 1 ≤ k

-- the bytes used are their frames, and there is room for one frame more
pub record Decoded (text store rest : List ℕ) (used : ℕ) : Type 0 where
  pub room : used + 122 ≤ length store
  pub bytes : bytes_in text ≡ take used store ++ bytes_in rest

module _ {text store rest : List ℕ} {used : ℕ} (h : Decoded text store rest used) where
  inside : used ≤ length store
  inside = omega (arith, h.room)

  room_lent : 122 ≤ length (lent store used)
  room_lent = omega (arith, lent_length store used inside, h.room)

  -- no line is left
  module _ (e : none ≡ line_read rest (lent store used)) where
    pub none_left : frames_of rest ≡ []
    none_left = no_frame rest (line_nothing rest (lent store used) e)

    all_bytes : take used store ≡ bytes_in text
    all_bytes = sym (h.bytes ∙ ap (λ l. take used store ++ l) (no_bytes rest (line_nothing rest (lent store used) e)) ∙ append-nil (take used store))

    pub all_used : length (bytes_in text) ≡ used
    all_used = ap length (sym all_bytes) ∙ length-take-le used store inside

    pub all_stand : (p : List ℕ) → take used (renewed store used p) ≡ bytes_in text
    all_stand p = front_kept store used inside p ∙ all_bytes

  -- a line that is refused
  pub bad_line : (m : ℕ) → some (refused m) ≡ line_read rest (lent store used) → (l : List (Answer Frame)) × (frames_of rest ≡ refused m ∷ l)
  bad_line m e = let r = line_refused rest (lent store used) m room_lent e in (map decode r.rest, first_refused rest m r)

  -- a line that is a frame's
  module _ (size k : ℕ) (p : List ℕ) (e : some (got (record { bytes = size; characters = k })) ≡ line_read rest (lent store used)) (b : p ≡ bytes_read rest (lent store used)) where
    takes : Takes rest (lent store used) p size k
    takes = line_taken rest (lent store used) p size k room_lent e b

    frame_is : cut (renewed store used p) used size ≡ takes.frame
    frame_is = cut_is store used inside takes.frame p (drop (length (stored takes.frame)) (lent store used)) size takes.left takes.size

    pub line_sizes : Sizes rest size k
    line_sizes = record {
      two = omega (arith, takes.size);
      most = omega (arith, takes.size, takes.most);
      characters = takes.within;
      some_characters = omega (arith, takes.characters);
    }

    pub frames_on : frames_of rest ≡ got (cut (renewed store used p) used size) ∷ frames_of (drop k rest)
    frames_on = first_frame rest takes ∙ ap (λ f. got f ∷ frames_of (drop k rest)) (sym frame_is)

    pub frame_size_lem : length (stored (cut (renewed store used p) used size)) ≡ size
    frame_size_lem = ap (λ (f : Frame). length (stored f)) frame_is ∙ sym takes.size

    pub bytes_on : bytes_in text ≡ take (used + size) (renewed store used p) ++ bytes_in (lent rest k)
    bytes_on =
        h.bytes ∙ ap (λ l. take used store ++ l) (first_bytes rest takes)
        ∙ sym (append_assoc (take used store) (stored takes.frame) (bytes_in (drop k rest)))
        ∙ ap (λ l. l ++ bytes_in (drop k rest)) (sym (front_longer store used inside takes.frame p (drop (length (stored takes.frame)) (lent store used)) size takes.left takes.size))
        ∙ ap (λ l. take (used + size) (renewed store used p) ++ bytes_in l) (sym (part_to_end rest k))

-- ---- the reader around them

abbrev pub Fills : {A : Type 0} → Reading A → List ℕ → ℕ → Filled → Type 0
Fills r bytes size f = f ≡ fill size (afterwards r (λ a. read (record { count = length bytes; bytes = bytes })))

module _ {A : Type 0} (bytes : List ℕ) (size : ℕ) (f : Filled) where
  fill_read : (r : Reading A) → Fills r bytes size f → (used : ℕ) → read used ≡ afterwards r (λ a. read (length bytes)) → f ≡ record { answer = read used; buffer = padded size bytes }
  fill_read (read a) is used e = is ∙ ap (λ a. record { answer = a; buffer = padded size bytes }) (sym e)
  fill_read (refused_at m l) is used e = absurd (let z : ◌≡◌ {A = ℕ} 0 1 = cc in omega arith)

  fill_refused : (r : Reading A) → Fills r bytes size f → (m l : ℕ) → refused_at m l ≡ afterwards r (λ a. read (length bytes)) → f ≡ record { answer = refused_at m l; buffer = padded size [] }
  fill_refused (read a) is m l e = absurd (let z : ◌≡◌ {A = ℕ} 0 1 = cc in omega arith)
  fill_refused (refused_at k j) is m l e = is ∙ ap (λ a. record { answer = a; buffer = padded size [] }) (sym e)

  pub fill_left : (r : Reading A) → Fills r bytes size f → (a : A) → r ≡ read a → f.buffer ≡ padded size bytes
  fill_left r is a e = ap (λ (y : Filled). y.buffer) is ∙ ap (λ (q : Reading A). (fill size (afterwards q (λ a. read (record { count = length bytes; bytes = bytes })))).buffer) e

-- what is read stands at the front, zeros after; "Any other refusal of a reader zeroes its whole buffer"
module _ {A : Type 0} (r : Reading A) (bytes : List ℕ) (f : Filled) (after : List ℕ) (is : Fills r bytes (length after) f)
    (x : Result ℕ ReadError) (e : (reading_of x ≡ afterwards r (λ a. read (length bytes))) × Front bytes (reading_of x) after) (exit : List ℕ) where
  pub fill_ends : (used : ℕ) → x ≡ Ok used → exit ≡ padded (length after) (take used after) → (read used ≡ f.answer) × (exit ≡ f.buffer)
  fill_ends used k z =
      let q = fill_read bytes (length after) f r is used (sym (ap reading_of k) ∙ e.0) in
      let front : take used after ≡ bytes = subst (λ (y : Result ℕ ReadError). Front bytes (reading_of y) after) k e.1 in
      (sym (ap (λ (y : Filled). y.answer) q), z ∙ ap (padded (length after)) front ∙ sym (ap (λ (y : Filled). y.buffer) q))

  pub fill_stops : (why : ReadError) → x ≡ Err why → exit ≡ padded (length after) (take 0 after) → (reading_of x ≡ f.answer) × (exit ≡ f.buffer)
  fill_stops why k z =
      let q = fill_refused bytes (length after) f r is (number_of why.refusal) why.line (sym (ap reading_of k) ∙ e.0) in
      (ap reading_of k ∙ sym (ap (λ (y : Filled). y.answer) q), z ∙ sym (ap (λ (y : Filled). y.buffer) q))

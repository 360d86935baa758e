-- There and back. Accepted lines, read and written again, are the same lines; an accepted store, written and read again, is the same bytes
-- with zeros after. Assumes nothing.
use Prim.Native.Nat.{ℕ, zero, suc, ◌+◌, ◌-◌, ◌≤◌, ◌<◌}
use native.Mathlib.Omega.{arith}
use mathlib.Core.Path.{◌≡◌, refl, sym, ap, subst, ◌∙◌}
use mathlib.Core.Bool.{Bool, true, false}
use mathlib.Core.List.{List, [], ◌∷◌, ◌++◌, append_assoc, map}
use mathlib.Core.Option.{Option, none, some}
use Rattle.std.specs.Prelude.{None}
use lib.Dec.{leb}
use lib.ListN.{length, get_or, take, drop, replicate, length-append, length-replicate, take-append-drop}
use lib.Seq.{take-append_seam, drop-append_seam, drop-append-add, get_or-append_seam, get_or-append-add, drop-cons, drop-drop}
use borrow.Author.Tests.{leb-true, leb-false, le-leb, ne_eqb}
use Rattle.bmap.specs.Plain.{if_else, maybe, flat}
use Rattle.bmap.specs.Refusal.{Answer, got, refused, known, then, Reading, read, refused_at, afterwards}
use Rattle.bmap.specs.Line.{Frame, Line, stored, lines_of, decode, line_for}
use Rattle.bmap.specs.Domain.{Domain}
use Rattle.bmap.specs.Payload.{Item}
use Rattle.bmap.specs.Accept.{Partial, nothing, counts_of, accept, taken_from, taken, checked}
use Rattle.bmap.specs.Buffer.{padded, over, Filled, fill, Written, written}
use Rattle.bmap.specs.Store.{frames_of, stored_of, reading, stands_at, frame_at, zeros, frames_from, frames_in, what_was_read, domain_in, text_of, read_domain, write_domain}
use Rattle.bmap.proofs.PlainLaws.{both_false}
use Rattle.line.proofs.Lists.{zeros_replicate, zeros_are}
use Rattle.line.proofs.Lists.{Bytes, bytes_take, bytes_drop}
use Rattle.line.proofs.Answers.{then_got_inv, at_line_read}
use Rattle.line.proofs.LineLaws.{lines_first, decodes, decode_line, lines_line, text_line}
use Rattle.domain.specs.Check.{refused_in}
use Rattle.domain.specs.Found.{law_places, found_of, found_in}
use Rattle.domain.specs.Read.{bytes_in, frames_among, places_from, found_reading, found_after}
use Rattle.domain.proofs.Passed.{Case, is_agents, is_fluent, is_knowledge, is_entry, is_law_lem, passed}
use Rattle.domain.proofs.Stands.{Here, here, with, accept_is}
use Rattle.domain.proofs.Accepted.{domained}
use Rattle.domain.proofs.IntoStore.{fill_left}
use Rattle.domain.proofs.ReaderLaws.{read_in_room, read_short}

-- ---- frames that a store can hold

pub record Fine (f : Frame) : Type 0 where
  pub some_kind : f.kind ≡ 0 → ⊥
  pub most : length f.payload ≤ 120

pub data Fines : List Frame → Type 0 where
  no_frames : Fines []
  and_frame : {f : Frame} {fs : List Frame} → Fine f → Fines fs → Fines (f ∷ fs)

-- ---- the frames of a text that is read

-- every line is a frame's
kinds : List Frame → Type 0
kinds [] = Unit {0}
kinds (f ∷ fs) = (f.kind ≡ 0 → ⊥) × kinds fs

-- of a reading that goes well: its first line is a frame's, and it goes on
pub record First {S : Type 0} (Goes : S → List (Answer Frame) → Type 0) (a : Answer Frame) (l : List (Answer Frame)) : Type 0 where
  pub frame : Frame
  pub is : a ≡ got frame
  pub some_kind : frame.kind ≡ 0 → ⊥
  pub next : S
  pub goes_on : Goes next l

all_got : {S : Type 0} (Goes : S → List (Answer Frame) → Type 0) → ((s : S) (a : Answer Frame) (l : List (Answer Frame)) → Goes s (a ∷ l) → First Goes a l)
    → (s : S) (l : List (Answer Frame)) → Goes s l → (fs : List Frame) × ((l ≡ map got fs) × kinds fs)
unfolding kinds
all_got Goes first s [] g = ([], (refl, tt))
all_got Goes first s (a ∷ l) g =
    let f = first s a l g in
    let r = all_got Goes first f.next l f.goes_on in
    (f.frame ∷ r.0, (ap (λ x. x ∷ l) f.is ∙ ap (λ k. got f.frame ∷ k) r.1.0, (f.some_kind, r.1.1)))

-- a text whose lines are frames' is their lines
text_back : (fs : List Frame) (text : List ℕ) → frames_of text ≡ map got fs → kinds fs → (text ≡ flat (map line_for fs)) × Fines fs
unfolding flat kinds
text_back [] text e k = (go text e, no_frames)
  where
    go : (t : List ℕ) → frames_of t ≡ [] → t ≡ []
    go [] q = refl
    go (c ∷ t) q = absurd (let h = sym (ap (map decode) (lines_first c t)) ∙ q in let z : ◌≡◌ {A = ℕ} 0 1 = cc in omega arith)
text_back (f ∷ fs) text e k = go (lines_of text) refl e (λ r q. text_back fs r q k.1)
  where
    go : (ls : List Line) → lines_of text ≡ ls → map decode ls ≡ got f ∷ map got fs
        → ((r : List ℕ) → frames_of r ≡ map got fs → (r ≡ flat (map line_for fs)) × Fines fs)
        → (text ≡ line_for f ++ flat (map line_for fs)) × Fines (f ∷ fs)
    go [] q w rec = absurd (let z : ◌≡◌ {A = ℕ} 0 1 = cc in omega arith)
    go (l ∷ ls) q w rec =
        let d : decode l ≡ got f = cc in
        let m : map decode ls ≡ map got fs = cc in
        let t = text_line text l ls f q d in
        let r = rec t.0 (sym (ap (map decode) t.2) ∙ m) in
        (t.1 ∙ ap (λ x. line_for f ++ x) r.0, and_frame (record { some_kind = k.0; most = (decodes l f d).most }) r.1)

-- ---- the frames of a store that is filled

frame_there : (done t : List ℕ) (f : Frame) → Fine f → frame_at (done ++ (stored f ++ t)) (length done) ≡ some f
unfolding frame_at stands_at
frame_there done t f g =
    let s = done ++ (stored f ++ t) in
    let at = length done in
    let n = length f.payload in
    let k : get_or s at 0 ≡ f.kind = get_or-append_seam done f.kind (n ∷ (f.payload ++ t)) 0 in
    let c : get_or s (at + 1) 0 ≡ n = get_or-append-add done (stored f ++ t) 1 0 in
    let l : length s ≡ at + (2 + n + length t) = length-append done (stored f ++ t) ∙ ap (λ (x : ℕ). at + x) (let y = length-append f.payload t in omega (arith, y)) in
    let p : take n (drop (at + 2) s) ≡ f.payload = ap (take n) (drop-append-add done (stored f ++ t) 2) ∙ take-append_seam f.payload t in
    rw (
      c,
      k,
      le-leb (at + 2) (length s) (omega (arith, l)),
      ne_eqb f.kind 0 g.some_kind,
      le-leb n 120 g.most,
      le-leb (at + 2 + n) (length s) (omega (arith, l)),
      p,
    )

first_zero : (k : ℕ) → ◌≡◌ {A = ℕ} (get_or (replicate k 0) 0 0) 0
first_zero zero = refl
first_zero (suc k) = refl

no_frame_there : (done : List ℕ) (k : ℕ) → frame_at (done ++ replicate k 0) (length done) ≡ none
unfolding frame_at stands_at
no_frame_there done k =
    let s = done ++ replicate k 0 in
    let z : get_or s (length done) 0 ≡ 0 = (let e : length done + 0 ≡ length done = omega arith in ap (λ (i : ℕ). get_or s i 0) (sym e)) ∙ get_or-append-add done (replicate k 0) 0 0 ∙ first_zero k in
    rw (z, both_false (leb (length done + 2) (length s)))

frames_there : (looks : ℕ) (fs : List Frame) (done : List ℕ) (k : ℕ) → Fines fs → length fs < looks
    → frames_from looks (done ++ (flat (map stored fs) ++ replicate k 0)) (length done) ≡ some fs
unfolding frames_from flat
frames_there zero fs done k g h = absurd (omega arith)
frames_there (suc looks) [] done k no_frames h = rw (no_frame_there done k, drop-append_seam done (replicate k 0), zeros_replicate k)
frames_there (suc looks) (f ∷ fs) done k (and_frame g gs) h =
    let t = flat (map stored fs) ++ replicate k 0 in
    let s = done ++ ((stored f ++ flat (map stored fs)) ++ replicate k 0) in
    let s1 : s ≡ done ++ (stored f ++ t) = ap (λ l. done ++ l) (append_assoc (stored f) (flat (map stored fs)) (replicate k 0)) in
    let s2 : s ≡ (done ++ stored f) ++ t = s1 ∙ sym (append_assoc done (stored f) t) in
    let e : frame_at s (length done) ≡ some f = ap (λ l. frame_at l (length done)) s1 ∙ frame_there done t f g in
    let r : frames_from looks s (length done + length (stored f)) ≡ some fs
    = ap (λ l. frames_from looks l (length done + length (stored f))) s2 ∙ ap (frames_from looks ((done ++ stored f) ++ t)) (sym (length-append done (stored f)))
    ∙ frames_there looks fs (done ++ stored f) k gs (omega arith) in
    rw (e, r)

few_looks : (fs : List Frame) → length fs ≤ length (flat (map stored fs))
unfolding flat
few_looks [] = omega arith
few_looks (f ∷ fs) = omega (arith, few_looks fs, length-append (stored f) (flat (map stored fs)))

pub frames_back : (fs : List Frame) (k : ℕ) → Fines fs → frames_in (flat (map stored fs) ++ replicate k 0) ≡ some fs
frames_back fs k g =
    let s = flat (map stored fs) ++ replicate k 0 in
    frames_there (suc (length s)) fs [] k g (omega (arith, few_looks fs, length-append (flat (map stored fs)) (replicate k 0)))

stored_got : (fs : List Frame) → map stored_of (map got fs) ≡ map stored fs
stored_got [] = refl
stored_got (f ∷ fs) = ap (λ l. stored f ∷ l) (stored_got fs)

frames_bytes : (text : List ℕ) (fs : List Frame) → frames_of text ≡ map got fs → bytes_in text ≡ flat (map stored fs)
unfolding bytes_in
frames_bytes text fs e = ap (λ l. flat (map stored_of l)) e ∙ ap flat (stored_got fs)

-- a text that is read is the lines of its frames
pub record TextFrames (text : List ℕ) : Type 0 where
  pub frames : List Frame
  pub are : frames_of text ≡ map got frames
  pub fine : Fines frames
  pub lines : text ≡ flat (map line_for frames)
  pub bytes : bytes_in text ≡ flat (map stored frames)

pub text_frames : {S : Type 0} (Goes : S → List (Answer Frame) → Type 0) → ((s : S) (a : Answer Frame) (l : List (Answer Frame)) → Goes s (a ∷ l) → First Goes a l)
    → (s : S) (text : List ℕ) → Goes s (frames_of text) → TextFrames text
text_frames Goes first s text g =
    let a = all_got Goes first s (frames_of text) g in
    let t = text_back a.0 text a.1.0 a.1.1 in
    record { frames = a.0; are = a.1.0; fine = t.1; lines = t.0; bytes = frames_bytes text a.0 a.1.0 }

-- the store that they fill has them, and their lines
pub frames_again : (text : List ℕ) (t : TextFrames text) (size : ℕ) → frames_in (padded size (bytes_in text)) ≡ some t.frames
frames_again text t size = ap (λ l. frames_in (padded size l)) t.bytes ∙ frames_back t.frames (size - length (flat (map stored t.frames))) t.fine

pub text_again : (text : List ℕ) (t : TextFrames text) (size : ℕ) → text_of (padded size (bytes_in text)) ≡ text
text_again text t size = ap (λ o. maybe o [] (λ fs. flat (map line_for fs))) (frames_again text t size) ∙ sym t.lines

-- ---- ACCEPTED LINES, READ AND WRITTEN AGAIN, ARE THE SAME LINES

-- a kind that is taken is none of the unknown
taken_kind : (p : Partial) (f : Frame) (q : Partial) → accept p f ≡ got q → f.kind ≡ 0 → ⊥
taken_kind p f q e z = go (checked p.latest (counts_of p.domain) p.domain.entries f) refl (sym (accept_is p f) ∙ e)
  where
    by : {i : Item} → Case (counts_of p.domain) f.kind f.payload i → ⊥
    by (is_agents k lo hi x) = omega arith
    by (is_fluent k x) = omega arith
    by (is_knowledge k x) = omega arith
    by (is_entry k x) = omega arith
    by (is_law_lem k l w x) = omega arith

    go : (a : Answer Item) → checked p.latest (counts_of p.domain) p.domain.entries f ≡ a → then a (λ i. got (with p f i)) ≡ got q → ⊥
    go (refused n) c t = let y : ◌≡◌ {A = ℕ} 0 1 = cc in omega arith
    go (got i) c t = by (passed p.latest (counts_of p.domain) p.domain.entries f (sym (ap refused_in c))).case

taken_first : (d : Domain) (s : ℕ × Partial) (a : Answer Frame) (l : List (Answer Frame)) → taken_from s.0 s.1 (a ∷ l) ≡ read d
    → First (λ (q : ℕ × Partial) l. taken_from q.0 q.1 l ≡ read d) a l
unfolding taken_from
taken_first d s a l e =
    let (q, y, t) = at_line_read (suc s.0) (then a (accept s.1)) (λ q. taken_from (suc s.0) q l) d e in
    let (f, is, g) = then_got_inv a (accept s.1) q y in
    record { frame = f; is = is; some_kind = taken_kind s.1 f q g; next = (suc s.0, q); goes_on = t }

-- what was read
record Got (text store : List ℕ) (n : ℕ) : Type 0 where
  domain : Domain
  frames : TextFrames text
  reads : reading text ≡ read domain
  left : (read_domain text store).buffer ≡ padded (length store) (bytes_in text)

was_got : (text store : List ℕ) (n : ℕ) → (read_domain text store).answer ≡ read n → Got text store n
was_got text store n e = room (leb 36_000 (length store)) refl
  where
    by : (r : Reading Domain) → reading text ≡ r → 36_000 ≤ length store → Got text store n
    by (refused_at m l) r h = absurd (let k = ap (λ (x : Filled). x.answer) (read_in_room text store h) in let q = ap (λ (x : Reading Domain). (fill (length store) (afterwards x (λ d. read (record { count = length (bytes_in text); bytes = bytes_in text })))).answer) r in let z : ◌≡◌ {A = ℕ} 0 1 = cc in omega arith)
    by (read d) r h = record {
      domain = d;
      frames = text_frames (λ (q : ℕ × Partial) l. taken_from q.0 q.1 l ≡ read d) (taken_first d) (0, nothing) text r;
      reads = r;
      left = fill_left (bytes_in text) (length store) (read_domain text store) (reading text) (read_in_room text store h) d r;
    }

    room : (b : Bool) → leb 36_000 (length store) ≡ b → Got text store n
    room true q = by (reading text) refl (leb-true 36_000 (length store) q)
    room false q = absurd (let k = (read_short text store (leb-false 36_000 (length store) q)).0 in let z : ◌≡◌ {A = ℕ} 0 1 = cc in omega arith)

-- the store that the reader leaves is the domain that it read
left_domain : (text store : List ℕ) (n : ℕ) (g : Got text store n) → domain_in (read_domain text store).buffer ≡ got g.domain
unfolding domain_in
left_domain text store n g = rw (g.left, frames_again text g.frames (length store)) (ap (λ (r : Reading Domain). known 15 (what_was_read r)) (ap taken (sym g.frames.are) ∙ g.reads))

-- and what was found on the way is what is found in it
all_among : (fs : List Frame) → frames_among (map got fs) ≡ fs
all_among [] = refl
all_among (f ∷ fs) = ap (λ l. f ∷ l) (all_among fs)

pub found_after_lem : (text store : List ℕ) → 36_000 ≤ length store → found_reading (places_from 0 text) (reading text) ≡ found_after (read_domain text store).answer (read_domain text store).buffer
unfolding found_in
found_after_lem text store h = go (read_domain text store).answer refl
  where
    none_read : (m line : ℕ) (r : Reading Domain) → reading text ≡ r → (read_domain text store).answer ≡ refused_at m line → found_reading (places_from 0 text) r ≡ None
    none_read m line (refused_at k l) q e = refl
    none_read m line (read d) q e =
        absurd (let k = ap (λ (x : Filled). x.answer) (read_in_room text store h) in let a = ap (λ (x : Reading Domain). (fill (length store) (afterwards x (λ d. read (record { count = length (bytes_in text); bytes = bytes_in text })))).answer) q in let z : ◌≡◌ {A = ℕ} 0 1 = cc in omega arith)

    go : (a : Reading ℕ) → (read_domain text store).answer ≡ a → found_reading (places_from 0 text) (reading text) ≡ found_after a (read_domain text store).buffer
    go (read n) e =
        let g = was_got text store n e in
        let places : places_from 0 text ≡ law_places 0 g.frames.frames = ap (λ l. law_places 0 (frames_among l)) g.frames.are ∙ ap (law_places 0) (all_among g.frames.frames) in
        ap (found_reading (places_from 0 text)) g.reads ∙ ap (λ l. found_reading l (read g.domain)) places
        ∙ sym (ap (λ a. found_of (maybe (frames_in (read_domain text store).buffer) [] (law_places 0)) a) (left_domain text store n g)
        ∙ ap (λ o. found_of (maybe o [] (law_places 0)) (got g.domain)) (ap frames_in g.left ∙ frames_again text g.frames (length store)))
    go (refused_at m line) e = none_read m line (reading text) refl e

pub written_again : (s out : List ℕ) (d : Domain) → domain_in s ≡ got d → length (text_of s) ≤ length out
    → write_domain s out ≡ record { answer = got (length (text_of s)); buffer = over (text_of s) out }
unfolding write_domain
written_again s out d e h =
    ap (λ a. written out (then a (λ d. got (text_of s)))) e
    ∙ ap (λ b. if_else b (record { answer = got (length (text_of s)); buffer = over (text_of s) out }) (record { answer = refused 10; buffer = out })) (le-leb (length (text_of s)) (length out) h)

pub lines_again : (text store out : List ℕ) (n : ℕ) → (read_domain text store).answer ≡ read n → length text ≤ length out
    → write_domain (read_domain text store).buffer out ≡ record { answer = got (length text); buffer = over text out }
lines_again text store out n e h =
    let g = was_got text store n e in
    let t : text_of (read_domain text store).buffer ≡ text = ap text_of g.left ∙ text_again text g.frames (length store) in
    written_again (read_domain text store).buffer out g.domain (left_domain text store n g) (omega (arith, h, ap length t))
    ∙ ap (λ l. record { answer = got (length l); buffer = over l out }) t

-- ---- AN ACCEPTED STORE, WRITTEN AND READ AGAIN, IS THE SAME BYTES, ZEROS AFTER

-- a frame whose numbers are bytes
pub record Spelt (f : Frame) : Type 0 where
  pub kind : f.kind < 256
  pub payload : Bytes f.payload
  pub most : length f.payload ≤ 120

pub data Spells : List Frame → Type 0 where
  none_spelt : Spells []
  and_spelt : {f : Frame} {fs : List Frame} → Spelt f → Spells fs → Spells (f ∷ fs)

-- a frame's bytes stand from its place on
pub frame_off : (s : List ℕ) (at : ℕ) (f : Frame) → Here s at f → drop at s ≡ stored f ++ drop (at + length (stored f)) s
frame_off s at f h =
    let n = length f.payload in
    let one : drop at s ≡ get_or s at 0 ∷ drop (suc at) s = drop-cons s at 0 (omega (arith, h.within)) in
    let two : drop (suc at) s ≡ get_or s (suc at) 0 ∷ drop (suc (suc at)) s = drop-cons s (suc at) 0 (omega (arith, h.within)) in
    let a1 : suc at ≡ at + 1 = omega arith in
    let a2 : suc (suc at) ≡ at + 2 = omega arith in
    let a3 : at + 2 + n ≡ at + length (stored f) = omega arith in
    let c : get_or s (suc at) 0 ≡ n = ap (λ (i : ℕ). get_or s i 0) a1 ∙ sym h.count in
    let p : drop (at + 2) s ≡ f.payload ++ drop (at + length (stored f)) s
    = sym (take-append-drop n (drop (at + 2) s))
    ∙ ap (λ l. l ++ drop n (drop (at + 2) s)) (ap (λ (i : ℕ). take i (drop (at + 2) s)) h.count ∙ sym h.payload)
    ∙ ap (λ l. f.payload ++ l) (drop-drop n (at + 2) s ∙ ap (λ (i : ℕ). drop i s) a3) in
    one ∙ ap (λ (x : ℕ). x ∷ drop (suc at) s) (sym h.kind)
    ∙ ap (λ l. f.kind ∷ l) (two ∙ ap (λ (x : ℕ). x ∷ drop (suc (suc at)) s) c ∙ ap (λ l. n ∷ l) (ap (λ (i : ℕ). drop i s) a2 ∙ p))

-- the frames of a store are its bytes, zeros after
pub record Holds (s : List ℕ) (at : ℕ) (fs : List Frame) : Type 0 where
  pub zeros_after : ℕ
  pub bytes : drop at s ≡ flat (map stored fs) ++ replicate zeros_after 0
  pub spelt : Spells fs

holds : (looks : ℕ) (s : List ℕ) (at : ℕ) (fs : List Frame) → Bytes s → frames_from looks s at ≡ some fs → Holds s at fs
unfolding frames_from flat
holds zero s at fs b e = absurd (let z : ◌≡◌ {A = ℕ} 0 1 = cc in omega arith)
holds (suc looks) s at fs b e = step (frame_at s at) refl e (λ f rest q. holds looks s (at + length (stored f)) rest b q)
  where
    last : (t : Bool) → zeros (drop at s) ≡ t → if_else t (some []) none ≡ some fs → Holds s at fs
    last true z q =
        let n : fs ≡ [] = cc in
        subst (Holds s at) (sym n) (record { zeros_after = length (drop at s); bytes = zeros_are (drop at s) z; spelt = none_spelt })
    last false z q = absurd (let y : ◌≡◌ {A = ℕ} 0 1 = cc in omega arith)

    more : (f : Frame) → frame_at s at ≡ some f → (o : Option (List Frame)) → frames_from looks s (at + length (stored f)) ≡ o
        → maybe o none (λ rest. some (f ∷ rest)) ≡ some fs
        → ((rest : List Frame) → frames_from looks s (at + length (stored f)) ≡ some rest → Holds s (at + length (stored f)) rest) → Holds s at fs
    more f fe none re q rec = absurd (let y : ◌≡◌ {A = ℕ} 0 1 = cc in omega arith)
    more f fe (some rest) re q rec =
        let n : fs ≡ f ∷ rest = cc in
        let h = here s at f fe in
        let r = rec rest re in
        subst (Holds s at) (sym n)
        (record {
          zeros_after = r.zeros_after;
          bytes = frame_off s at f h ∙ ap (λ l. stored f ++ l) r.bytes ∙ sym (append_assoc (stored f) (flat (map stored rest)) (replicate r.zeros_after 0));
          spelt = and_spelt
              (record {
                kind = subst (λ (x : ℕ). x < 256) (sym h.kind) (b at);
                payload = subst Bytes (sym h.payload) (bytes_take (get_or s (at + 1) 0) (drop (at + 2) s) (bytes_drop (at + 2) s b));
                most = h.most;
              })
              r.spelt;
        })

    step : (o : Option Frame) → frame_at s at ≡ o
        → maybe o (if_else (zeros (drop at s)) (some []) none) (λ f. maybe (frames_from looks s (at + length (stored f))) none (λ rest. some (f ∷ rest))) ≡ some fs
        → ((f : Frame) (rest : List Frame) → frames_from looks s (at + length (stored f)) ≡ some rest → Holds s (at + length (stored f)) rest) → Holds s at fs
    step none o q rec = last (zeros (drop at s)) refl q
    step (some f) o q rec = more f o (frames_from looks s (at + length (stored f))) refl q (rec f)

-- their lines are read as them
lines_back : (fs : List Frame) → Spells fs → frames_of (flat (map line_for fs)) ≡ map got fs
unfolding flat lines_of
lines_back [] none_spelt = refl
lines_back (f ∷ fs) (and_spelt g gs) =
    ap (map decode) (lines_line f (flat (map line_for fs)))
    ∙ ap (λ a. a ∷ frames_of (flat (map line_for fs))) (decode_line f g.kind g.payload g.most)
    ∙ ap (λ l. got f ∷ l) (lines_back fs gs)

read_again : (text buffer : List ℕ) (fs : List Frame) (d : Domain) → frames_of text ≡ map got fs → taken (map got fs) ≡ read d → 36_000 ≤ length buffer
    → read_domain text buffer ≡ record { answer = read (length (flat (map stored fs))); buffer = padded (length buffer) (flat (map stored fs)) }
read_again text buffer fs d e k r =
    read_in_room text buffer r
    ∙ ap (λ (x : Reading Domain). fill (length buffer) (afterwards x (λ d. read (record { count = length (bytes_in text); bytes = bytes_in text })))) (ap taken e ∙ k)
    ∙ ap (λ l. record { answer = read (length l); buffer = padded (length buffer) l }) (frames_bytes text fs e)

-- the bytes used, and what the two calls leave
pub record Again (s out buffer : List ℕ) : Type 0 where
  pub used : ℕ
  pub within : used ≤ length s
  pub whole : s ≡ padded (length s) (take used s)
  pub characters : ℕ
  pub writes : (write_domain s out).answer ≡ got characters
  pub reads : read_domain (take characters (write_domain s out).buffer) buffer ≡ record { answer = read used; buffer = padded (length buffer) (take used s) }

pub store_again : (s out buffer : List ℕ) (d : Domain) → Bytes s → domain_in s ≡ got d → length (text_of s) ≤ length out → 36_000 ≤ length buffer → Again s out buffer
store_again s out buffer d b e h r =
    let m = domained s d e in
    let fs = m.frames in
    let k = holds (suc (length s)) s 0 fs b m.are in
    let bytes = flat (map stored fs) in
    let text : text_of s ≡ flat (map line_for fs) = ap (λ o. maybe o [] (λ fs. flat (map line_for fs))) m.are in
    let front : take (length bytes) s ≡ bytes = ap (take (length bytes)) k.bytes ∙ take-append_seam bytes (replicate k.zeros_after 0) in
    let long : length s - length bytes ≡ k.zeros_after = omega (arith, ap length k.bytes, length-append bytes (replicate k.zeros_after 0), length-replicate k.zeros_after (zero)) in
    let lines : frames_of (text_of s) ≡ map got fs = ap frames_of text ∙ lines_back fs k.spelt in
    let w : write_domain s out ≡ record { answer = got (length (text_of s)); buffer = over (text_of s) out } = written_again s out d e h in
    record {
      used = length bytes;
      within = omega (arith, ap length k.bytes, length-append bytes (replicate k.zeros_after 0));
      whole =
          k.bytes ∙ ap (λ (i : ℕ). bytes ++ replicate i 0) (sym long)
          ∙ ap (padded (length s)) (sym front);
      characters = length (text_of s);
      writes = ap (λ (w : Written). w.answer) w;
      reads =
          ap (λ l. read_domain l buffer) (ap (λ (w : Written). take (length (text_of s)) w.buffer) w ∙ take-append_seam (text_of s) (drop (length (text_of s)) out))
          ∙ read_again (text_of s) buffer fs d lines m.read_as r ∙ ap (λ l. record { answer = read (length bytes); buffer = padded (length buffer) l }) (sym front);
    }

-- ---- THE STORE THAT THE READER LEAVES HOLDS THE DOMAIN THAT IT READ

pub record Kept (text store : List ℕ) : Type 0 where
  pub domain : Domain
  pub reads : reading text ≡ read domain
  pub holds : domain_in (read_domain text store).buffer ≡ got domain

pub kept : (text store : List ℕ) (n : ℕ) → (read_domain text store).answer ≡ read n → Kept text store
kept text store n e = let g = was_got text store n e in record { domain = g.domain; reads = g.reads; holds = left_domain text store n g }

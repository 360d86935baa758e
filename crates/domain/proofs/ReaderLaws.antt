-- The reader, line by line. Assumes nothing.
use Prim.Native.Nat.{ℕ, suc, ◌+◌, ◌-◌, ◌*◌, ◌≤◌, ◌<◌}
use native.Mathlib.Numerals.{add-one}
use native.Mathlib.Omega.{arith}
use mathlib.Core.Path.{◌≡◌, refl, sym, ap, ◌∙◌}
use mathlib.Core.Bool.{Bool, true, false}
use mathlib.Core.List.{List, [], ◌∷◌, ◌++◌, append_assoc, append-nil}
use mathlib.Core.Option.{none, some}
use Rattle.std.specs.Prelude.{Result, Ok, Err, IfOk}
use lib.Dec.{leb}
use lib.ListN.{length, take, drop}
use borrow.Author.Tests.{le-leb, lt-leb}
use Rattle.bmap.specs.Plain.{if_else}
use Rattle.bmap.specs.Refusal.{number_of, got, refused, need, read, refused_at, at_line, afterwards}
use Rattle.bmap.specs.Line.{Frame, stored}
use Rattle.bmap.specs.Accept.{Partial, nothing, accept, taken_from}
use Rattle.bmap.specs.Buffer.{padded}
use Rattle.bmap.specs.Store.{frames_of, reading, read_domain}
use Rattle.bmap.specs.declared.refusal.Refusal.{Refusal}
use Rattle.bmap.specs.declared.refusal.ReadError.{ReadError}
use Rattle.line.specs.Read.{line_read, bytes_read}
use Rattle.line.proofs.Lists.{part_to_end, length_back}
use Rattle.domain.specs.Check.{refused_in}
use Rattle.domain.specs.declared.progress.Progress.{Progress}
use Rattle.domain.specs.Found.{law_places}
use Rattle.domain.specs.Progress.{progress_of, checked_in, noted, complete_in}
use Rattle.domain.specs.declared.reader.ReadFound.{ReadFound}
use Rattle.domain.specs.Read.{reading_of, on_line, used_of, kept_of, bytes_in, used_in, frames_among, places_from, found_reading, LinesRead}
use Rattle.domain.proofs.Stands.{frames, few_frames, more, with, places_with, accept_passed}
use Rattle.domain.proofs.Held.{cut, Holds, holds_first, holds_few, holds_complete, holds_refused, holds_pass, holds_next}
use Rattle.domain.proofs.IntoStore.{lent, renewed, Sizes, Decoded, none_left, all_used, all_stand, bad_line, line_sizes, frames_on, frame_size_lem, bytes_on, Fills, fill_ends, fill_stops}

-- a refusal
pub refusing : (text after : List ℕ) (why : ReadError) → reading text ≡ refused_at (number_of why.refusal) why.line → LinesRead text (Err why) after
unfolding used_in
refusing text after why q = record {
  used = sym (ap (λ r. afterwards r (λ d. read (length (bytes_in text)))) q);
  front = tt;
  found = sym (ap (found_reading (places_from 0 text)) q);
}

-- ---- what a line answers

module _ {A : Type 0} (r : Result A Refusal) (line : ℕ) {q : Result A ReadError} (e : q ≡ on_line r line) where
  pub line_ok : {a : A} → q ≡ Ok a → r ≡ Ok a
  line_ok k = go r (sym e ∙ k)
    where
      go : {a : A} (r : Result A Refusal) → on_line r line ≡ Ok a → r ≡ Ok a
      go (Ok b) z = cc
      go (Err why) z = cc

  line_err : {w : ReadError} → q ≡ Err w → (r ≡ Err w.refusal) × (w.line ≡ line)
  line_err k = go r (sym e ∙ k)
    where
      go : {w : ReadError} (r : Result A Refusal) → on_line r line ≡ Err w → (r ≡ Err w.refusal) × (w.line ≡ line)
      go (Ok b) z = absurd (let y : ◌≡◌ {A = ℕ} 0 1 = cc in omega arith)
      go {w} (Err why) z =
          let same : ◌≡◌ {A = ReadError} (record { refusal = why; line = line }) w = cc in
          (ap (λ (x : ReadError). Err x.refusal) same, sym (ap (λ (x : ReadError). x.line) same))

  -- the reader refuses what the line does
  pub line_refused : {text after : List ℕ} {w : ReadError} {out : Result ReadFound ReadError} → q ≡ Err w → out ≡ Err w
      → ((why : Refusal) → r ≡ Err why → reading text ≡ refused_at (number_of why) line) → LinesRead text out after
  line_refused {text} {after} {w} k o h =
      let t = line_err k in
      rw o (refusing text after w (h w.refusal t.0 ∙ ap (refused_at (number_of w.refusal)) (sym t.1)))

pub took : {A B : Type 0} {P : Type 0} {a : A} (r : Result A B) → r ≡ Ok a → IfOk r (λ x. P) → P
took (Ok b) e p = p
took (Err w) e p = absurd (let y : ◌≡◌ {A = ℕ} 0 1 = cc in omega arith)

-- ---- the lines so far

pub record Reads (text store rest : List ℕ) (x : Progress) (used lines : ℕ) : Type 0 where
  pub so_far : Partial
  pub places : List ℕ
  pub holds : Holds so_far places x
  pub used_most : used ≤ 122 * frames so_far.domain
  pub lines_most : lines ≤ frames so_far.domain
  pub enough : 36_000 ≤ length store
  pub run : reading text ≡ taken_from lines so_far (frames_of rest)
  pub bytes : bytes_in text ≡ take used store ++ bytes_in rest
  pub stand : places_from 0 text ≡ places ++ places_from used rest

pub reads_first : (text store : List ℕ) (x : Progress) → x ≡ progress_of nothing [] → 36_000 ≤ length store → Reads text store text x 0 0
reads_first text store x e h = record {
  so_far = nothing;
  places = [];
  holds = holds_first x e;
  used_most = omega arith;
  lines_most = omega arith;
  enough = h;
  run = refl;
  bytes = refl;
  stand = refl;
}

module _ {text store rest : List ℕ} {x : Progress} {used lines : ℕ} (h : Reads text store rest x used lines) where
  pub reads_used : used ≤ 35_258
  reads_used = omega (arith, h.used_most, few_frames h.so_far.domain h.holds.few)

  pub reads_lines : lines ≤ 289
  reads_lines = omega (arith, h.lines_most, few_frames h.so_far.domain h.holds.few)

  pub reads_few : x.index.counts.entries ≤ 64
  reads_few = holds_few h.holds

  so_read : Decoded text store rest used
  so_read = record { room = omega (arith, reads_used, h.enough); bytes = h.bytes }

  -- ---- no line is left

  module _ (e : none ≡ line_read rest (lent store used)) where
    ends_as : (b : Bool) → b ≡ complete_in x → reading text ≡ at_line lines (need b 7 (got h.so_far.domain)) read
    unfolding taken_from
    ends_as b c = h.run ∙ ap (taken_from lines h.so_far) (none_left so_read e) ∙ ap (λ b. at_line lines (need b 7 (got h.so_far.domain)) read) (sym (c ∙ holds_complete h.holds))

    pub reads_done : (p : List ℕ) → true ≡ complete_in x → LinesRead text (Ok (record { used = used; index = x.index })) (renewed store used p)
    unfolding used_in law_places progress_of
    reads_done p c =
        let all : places_from 0 text ≡ h.places = h.stand ∙ ap (λ l. h.places ++ law_places used (frames_among l)) (none_left so_read e) ∙ append-nil h.places in
        record {
          used = sym (ap (λ r. afterwards r (λ d. read (length (bytes_in text)))) (ends_as true c) ∙ ap read (all_used so_read e));
          front = all_stand so_read e p;
          found = sym (ap (found_reading (places_from 0 text)) (ends_as true c) ∙ ap (λ l. found_reading l (read h.so_far.domain)) all ∙ rw h.holds.is);
        }

    pub reads_missing : false ≡ complete_in x → reading text ≡ refused_at 7 lines
    reads_missing c = ends_as false c

  -- ---- a line that is refused

  pub reads_bad : (m : ℕ) → some (refused m) ≡ line_read rest (lent store used) → reading text ≡ refused_at m (lines + 1)
  unfolding taken_from
  reads_bad m e = h.run ∙ ap (taken_from lines h.so_far) (bad_line so_read m e).1 ∙ ap (refused_at m) (sym (add-one lines))

  -- ---- a line that is a frame's

  module _ (size k : ℕ) (p : List ℕ) (e : some (got (record { bytes = size; characters = k })) ≡ line_read rest (lent store used)) (b : p ≡ bytes_read rest (lent store used)) where
    pub reads_sizes : Sizes rest size k
    reads_sizes = line_sizes so_read size k p e b

    -- the frame stands within the store
    pub reads_within : length p ≡ length (lent store used) → used + size ≤ length (renewed store used p)
    reads_within same = omega (arith, reads_sizes.most, reads_used, h.enough, length_back store p used (omega (arith, reads_used, h.enough)) same)

    abbrev frame : Frame
    frame = cut (renewed store used p) used size

    run_on : reading text ≡ at_line (suc lines) (accept h.so_far frame) (λ q. taken_from (suc lines) q (frames_of (drop k rest)))
    unfolding taken_from
    run_on = h.run ∙ ap (taken_from lines h.so_far) (frames_on so_read size k p e b)

    pub reads_refused : (m : ℕ) → some m ≡ refused_in (checked_in x frame) → reading text ≡ refused_at m (lines + 1)
    reads_refused m q =
        run_on ∙ ap (λ a. at_line (suc lines) a (λ q. taken_from (suc lines) q (frames_of (drop k rest)))) (holds_refused h.holds frame m q) ∙ ap (refused_at m) (sym (add-one lines))

    -- a law's place is put at the end
    places_on : places_from 0 text ≡ places_with h.places used frame ++ places_from (used + size) (take (length rest - k) (drop k rest))
    unfolding law_places
    places_on =
        h.stand ∙ ap (λ l. h.places ++ law_places used (frames_among l)) (frames_on so_read size k p e b)
        ∙ go (leb 0xA5 frame.kind)
        ∙ ap (λ (i : ℕ). places_with h.places used frame ++ places_from (used + i) (drop k rest)) (frame_size_lem so_read size k p e b)
        ∙ ap (λ l. places_with h.places used frame ++ places_from (used + size) l) (sym (part_to_end rest k))
      where
        go : (t : Bool) → (let more = law_places (used + length (stored frame)) (frames_among (frames_of (drop k rest))) in
            h.places ++ if_else t (used ∷ more) more ≡ if_else t (h.places ++ (used ∷ [])) h.places ++ more)
        go true = sym (append_assoc h.places (used ∷ []) _)
        go false = refl

    pub reads_next : none ≡ refused_in (checked_in x frame) → (y : Progress) → y ≡ noted x used frame → length (renewed store used p) ≡ length store
        → Reads text (renewed store used p) (take (length rest - k) (drop k rest)) y (used + size) (lines + 1)
    reads_next q y n same =
        let p0 = h.so_far in
        let v = holds_pass h.holds frame q in
        let one_more = (more p0.latest p0.domain p0.domain.entries frame v).one_more in
        record {
          so_far = with p0 frame v.item;
          places = places_with h.places used frame;
          holds = holds_next h.holds frame q used y n;
          used_most = omega (arith, h.used_most, reads_sizes.most, one_more);
          lines_most = omega (arith, h.lines_most, one_more);
          enough = omega (arith, h.enough, same);
          run =
              run_on
              ∙ ap (λ a. at_line (suc lines) a (λ q. taken_from (suc lines) q (frames_of (drop k rest)))) (accept_passed p0 frame v)
              ∙ ap (λ l. taken_from l (with p0 frame v.item) (frames_of (drop k rest))) (sym (add-one lines))
              ∙ ap (λ l. taken_from (lines + 1) (with p0 frame v.item) (frames_of l)) (sym (part_to_end rest k));
          bytes = bytes_on so_read size k p e b;
          stand = places_on;
        }

-- ---- the reader around them

module _ (text store : List ℕ) where
  pub read_short : length store < 36_000 → (refused_at 10 0 ≡ (read_domain text store).answer) × (store ≡ (read_domain text store).buffer)
  unfolding read_domain
  read_short h = rw (lt-leb 36_000 (length store) h) (refl, refl)

  module _ (h : 36_000 ≤ length store) where
    pub read_in_room : Fills (reading text) (bytes_in text) (length store) (read_domain text store)
    unfolding read_domain bytes_in
    read_in_room = rw (le-leb 36_000 (length store) h)

    -- so many bytes stand, zeros after: none where it is refused
    module _ (after : List ℕ) (same : length after ≡ length store) (r : Result ReadFound ReadError) (e : LinesRead text r after) (exit : List ℕ) where
      pub read_ends : exit ≡ padded (length after) (take (kept_of r) after) → (reading_of (used_of r) ≡ (read_domain text store).answer) × (exit ≡ (read_domain text store).buffer)
      unfolding used_in
      read_ends z = go r refl
        where
          fills : Fills (reading text) (bytes_in text) (length after) (read_domain text store)
          fills = rw same read_in_room

          go : (q : Result ReadFound ReadError) → r ≡ q → (reading_of (used_of r) ≡ (read_domain text store).answer) × (exit ≡ (read_domain text store).buffer)
          go (Ok f) k =
              let t = fill_ends (reading text) (bytes_in text) (read_domain text store) after fills (used_of r) (e.used, e.front) exit f.used (ap used_of k) (z ∙ ap (λ q. padded (length after) (take (kept_of q) after)) k) in
              (ap (λ q. reading_of (used_of q)) k ∙ t.0, t.1)
          go (Err why) k = fill_stops (reading text) (bytes_in text) (read_domain text store) after fills (used_of r) (e.used, e.front) exit why (ap used_of k) (z ∙ ap (λ q. padded (length after) (take (kept_of q) after)) k)

-- The reader, line by line. Assumes nothing.
use Prim.Native.Nat.{ℕ, suc, ◌+◌, ◌≤◌, ◌<◌}
use native.Mathlib.Numerals.{add-one}
use native.Mathlib.Omega.{arith}
use mathlib.Core.Path.{◌≡◌, refl, sym, ap, subst, ◌∙◌}
use mathlib.Core.Bool.{true}
use mathlib.Core.List.{List, [], ◌∷◌, ◌++◌}
use mathlib.Core.Option.{none, some}
use lib.ListN.{length, set, take, drop, replicate}
use borrow.Author.Tests.{le-leb, lt-leb}
use Rattle.bmap.specs.Refusal.{Answer, got, refused, read, refused_at, number_of, at_line, afterwards}
use Rattle.bmap.specs.Line.{Frame}
use Rattle.bmap.specs.Domain.{Domain}
use Rattle.bmap.specs.Buffer.{padded}
use Rattle.bmap.specs.Store.{frames_of, domain_in}
use Rattle.bmap.specs.Supplement.{Replacement, replaces, replacement_in, supplement_from, read_supplement}
use Rattle.bmap.specs.declared.refusal.Refusal.{Refusal}
use Rattle.bmap.specs.declared.refusal.ReadError.{ReadError}
use Rattle.std.specs.Prelude.{Result, Ok, Err}
use Rattle.line.specs.Read.{line_read, bytes_read}
use Rattle.line.proofs.Answers.{then_got_inv, then_refused}
use Rattle.line.proofs.Lists.{part_to_end}
use Rattle.domain.specs.Read.{reading_of, bytes_in, Front}
use Rattle.domain.proofs.Rows.{length_snoc}
use Rattle.domain.proofs.Held.{cut}
use Rattle.domain.proofs.IntoStore.{lent, renewed, Sizes, Decoded, none_left, all_used, all_stand, bad_line, line_sizes, frames_on, frame_size_lem, bytes_on, Fills, fill_ends, fill_stops}
use Rattle.supplement.specs.Check.{noted_at}
use Rattle.supplement.specs.Read.{used_under, under_reading, LinesUnder}
use Rattle.supplement.specs.declared.under.Under.{Under}
use Rattle.supplement.proofs.OverLaws.{Over, over_first, over_most}
use Rattle.supplement.proofs.Passes.{passes, over_passed}
use Rattle.supplement.proofs.UnderLaws.{made}

-- ---- the lines so far

pub record Reads (d : Domain) (text buffer rest over : List ℕ) (used lines : ℕ) : Type 0 where
  pub so_far : List Replacement
  pub stand : Over so_far over used
  pub each : lines ≡ length so_far
  pub enough : 16_000 ≤ length buffer
  pub run : supplement_from d [] (frames_of text) ≡ supplement_from d so_far (frames_of rest)
  pub bytes : bytes_in text ≡ take used buffer ++ bytes_in rest

pub reads_first : (d : Domain) (text buffer : List ℕ) → 16_000 ≤ length buffer → Reads d text buffer text (replicate 128 0) 0 0
reads_first d text buffer h = record { so_far = []; stand = over_first; each = refl; enough = h; run = refl; bytes = refl }

module _ {d : Domain} {text buffer rest over : List ℕ} {used lines : ℕ} (h : Reads d text buffer rest over used lines) where
  pub reads_used : used ≤ 15_616
  reads_used = over_most h.stand

  pub reads_lines : lines ≤ 128
  reads_lines = omega (arith, h.each, h.stand.rest)

  so_read : Decoded text buffer rest used
  so_read = record { room = omega (arith, reads_used, h.enough); bytes = h.bytes }

  -- no line is left
  pub reads_done : none ≡ line_read rest (lent buffer used) → (p : List ℕ) (u u' : Under) → u'.ok ≡ true → u'.index ≡ u.index → u'.over ≡ over → LinesUnder d u text (Ok used) u' (renewed buffer used p)
  unfolding used_under supplement_from
  reads_done e p u u' ok index places =
      let all : supplement_from d [] (frames_of text) ≡ read h.so_far = h.run ∙ ap (supplement_from d h.so_far) (none_left so_read e) in
      record {
        used = sym (ap (λ r. afterwards r (λ s. read (length (bytes_in text)))) all ∙ ap read (all_used so_read e));
        front = all_stand so_read e p;
        index = index;
        under = λ n k. made u' ok index (places ∙ h.stand.places) ∙ sym (ap (under_reading u.index) all);
      }

  -- a line that is refused
  at_next : (m : ℕ) → supplement_from d [] (frames_of text) ≡ refused_at m (suc (length h.so_far)) → supplement_from d [] (frames_of text) ≡ refused_at m (lines + 1)
  at_next m e = e ∙ ap (refused_at m) (sym (add-one lines ∙ ap suc h.each))

  pub reads_bad : (m : ℕ) → some (refused m) ≡ line_read rest (lent buffer used) → supplement_from d [] (frames_of text) ≡ refused_at m (lines + 1)
  unfolding supplement_from
  reads_bad m e = at_next m (h.run ∙ ap (supplement_from d h.so_far) (bad_line so_read m e).1)

  -- a line that is a frame's
  module _ (size k : ℕ) (p : List ℕ) (e : some (got (record { bytes = size; characters = k })) ≡ line_read rest (lent buffer used)) (b : p ≡ bytes_read rest (lent buffer used)) where
    abbrev frame : Frame
    frame = cut (renewed buffer used p) used size

    pub reads_sizes : Sizes rest size k
    reads_sizes = line_sizes so_read size k p e b

    run_on : supplement_from d [] (frames_of text)
        ≡ at_line (suc (length h.so_far)) (replacement_in d h.so_far frame) (λ r. supplement_from d (h.so_far ++ (r ∷ [])) (frames_of (drop k rest)))
    unfolding supplement_from
    run_on = h.run ∙ ap (supplement_from d h.so_far) (frames_on so_read size k p e b)

    pub reads_refused : (m : ℕ) → replacement_in d h.so_far frame ≡ refused m → supplement_from d [] (frames_of text) ≡ refused_at m (lines + 1)
    reads_refused m q =
        at_next m (run_on ∙ ap (λ a. at_line (suc (length h.so_far)) a (λ r. supplement_from d (h.so_far ++ (r ∷ [])) (frames_of (drop k rest)))) q)

    pub reads_next : (r : Replacement) → replacement_in d h.so_far frame ≡ got r → length d.laws ≤ 128 → length (renewed buffer used p) ≡ length buffer
        → Reads d text (renewed buffer used p) (lent rest k) (set over (replaces r) (used + 1)) (used + size) (lines + 1)
    reads_next r q few same =
        let here = frame_size_lem so_read size k p e b in
        record {
          so_far = h.so_far ++ (r ∷ []);
          stand =
              subst (λ (i : ℕ). Over (h.so_far ++ (r ∷ [])) (set over (replaces r) (used + 1)) (used + i)) here
              (over_passed h.stand (passes d h.so_far frame r q) few (omega (arith, here, reads_sizes.most)));
          each = omega (arith, h.each, length_snoc h.so_far r);
          enough = omega (arith, h.enough, same);
          run =
              run_on ∙ ap (λ a. at_line (suc (length h.so_far)) a (λ r. supplement_from d (h.so_far ++ (r ∷ [])) (frames_of (drop k rest)))) q
              ∙ ap (λ l. supplement_from d (h.so_far ++ (r ∷ [])) (frames_of l)) (sym (part_to_end rest k));
          bytes = bytes_on so_read size k p e b;
        }

    -- by what noting the frame answers
    module _ (a : Answer Replacement) (is : a ≡ replacement_in d h.so_far frame) where
      pub reads_not : (m : ℕ) → refused m ≡ noted_at over used a → supplement_from d [] (frames_of text) ≡ refused_at m (lines + 1)
      reads_not m q = reads_refused m (sym is ∙ then_refused a (λ r. set over (replaces r) (used + 1)) m (sym q))

      pub reads_taken : length d.laws ≤ 128 → length (renewed buffer used p) ≡ length buffer → (o : List ℕ) → got o ≡ noted_at over used a → Reads d text (renewed buffer used p) (lent rest k) o (used + size) (lines + 1)
      reads_taken few same o q =
          let (r, there, z) = then_got_inv a (λ r. got (set over (replaces r) (used + 1))) o (sym q) in
          let left : set over (replaces r) (used + 1) ≡ o = cc in
          subst (λ (l : List ℕ). Reads d text (renewed buffer used p) (lent rest k) l (used + size) (lines + 1)) left (reads_next r (sym is ∙ there) few same)

-- a refusal
pub refusing : (d : Domain) (u : Under) (text after : List ℕ) (why : Refusal) (line : ℕ) (u' : Under) → u'.index ≡ u.index → supplement_from d [] (frames_of text) ≡ refused_at (number_of why) line → LinesUnder d u text (Err (record { refusal = why; line = line })) u' after
unfolding used_under
refusing d u text after why line u' index e = record {
  used = sym (ap (λ r. afterwards r (λ s. read (length (bytes_in text)))) e);
  front = tt;
  index = index;
  under = λ used z. absurd cc;
}

-- ---- the reader around them

module _ (store text buffer : List ℕ) where
  pub read_short : length buffer < 16_000 → (refused_at 10 0 ≡ (read_supplement store text buffer).answer) × (buffer ≡ (read_supplement store text buffer).buffer)
  unfolding read_supplement
  read_short h = rw (lt-leb 16_000 (length buffer) h) (refl, refl)

  module _ (h : 16_000 ≤ length buffer) where
    -- 15: the domain is not accepted
    pub read_15 : domain_in store ≡ refused 15 → (exit : List ℕ) → exit ≡ padded (length buffer) (take 0 buffer)
        → (refused_at 15 0 ≡ (read_supplement store text buffer).answer) × (exit ≡ (read_supplement store text buffer).buffer)
    unfolding read_supplement
    read_15 e exit z = rw (le-leb 16_000 (length buffer) h, e) (refl, z)

    module _ (d : Domain) (g : domain_in store ≡ got d) where
      pub read_in_room : Fills (supplement_from d [] (frames_of text)) (bytes_in text) (length buffer) (read_supplement store text buffer)
      unfolding read_supplement bytes_in
      read_in_room = rw (le-leb 16_000 (length buffer) h, g)

      module _ (after : List ℕ) (same : length after ≡ length buffer) (r : Result ℕ ReadError) (e : (reading_of r ≡ used_under d text) × Front (bytes_in text) (reading_of r) after) (exit : List ℕ) where
        fills : Fills (supplement_from d [] (frames_of text)) (bytes_in text) (length after) (read_supplement store text buffer)
        fills = rw same read_in_room

        pub read_ends : (used : ℕ) → r ≡ Ok used → exit ≡ padded (length after) (take used after)
            → (read used ≡ (read_supplement store text buffer).answer) × (exit ≡ (read_supplement store text buffer).buffer)
        unfolding used_under
        read_ends = fill_ends (supplement_from d [] (frames_of text)) (bytes_in text) (read_supplement store text buffer) after fills r e exit

        pub read_stops : (why : ReadError) → r ≡ Err why → exit ≡ padded (length after) (take 0 after)
            → (reading_of r ≡ (read_supplement store text buffer).answer) × (exit ≡ (read_supplement store text buffer).buffer)
        unfolding used_under
        read_stops = fill_stops (supplement_from d [] (frames_of text)) (bytes_in text) (read_supplement store text buffer) after fills r e exit

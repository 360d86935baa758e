-- The writer, frame by frame. Assumes nothing.
use Prim.Native.Nat.{ℕ, zero, suc, ◌+◌, ◌-◌, ◌*◌, ◌≤◌, ◌<◌}
use native.Mathlib.Decide.{dec_le}
use native.Mathlib.Omega.{arith}
use mathlib.Core.Path.{◌≡◌, refl, sym, ap, ◌∙◌}
use mathlib.Core.Bool.{true, false}
use mathlib.Core.List.{List, [], ◌∷◌, ◌++◌, map}
use mathlib.Core.Option.{Option, none, some}
use lib.Dec.{leb}
use lib.ListN.{length, get_or, take, drop, length-append}
use borrow.Author.Tests.{le-leb, lt-leb}
use Rattle.bmap.specs.Plain.{if_else, maybe, flat}
use Rattle.bmap.specs.Refusal.{Answer, got, refused, then, is_got}
use Rattle.bmap.specs.Line.{Frame, stored, line_for}
use Rattle.bmap.specs.Domain.{Domain}
use Rattle.bmap.specs.Buffer.{over, written}
use Rattle.bmap.specs.Store.{frame_at, zeros, frames_from, text_of, domain_in, write_domain}
use Rattle.line.specs.Write.{line_written}
use Rattle.line.proofs.WriteLaws.{length_line}
use Rattle.std.specs.Option.{is_some}
use Rattle.domain.specs.Write.{lines_from, lines_in}
use Rattle.domain.specs.Found.{found_in}
use Rattle.domain.proofs.Stands.{no_more}
use Rattle.domain.proofs.Held.{cut, Framed}
use Rattle.domain.proofs.Accepted.{domained, refused_15, found_got, found_not}
use Rattle.domain.proofs.IntoStore.{lent, renewed, lent_length}
use Rattle.domain.proofs.FrontLaws.{Fronts, fronts_first, fronts_done, fronts_room, fronts_next}

-- ---- acceptance

pub accepted_is : (s : List ℕ) → is_some (found_in s) ≡ is_got (domain_in s)
accepted_is s = go (domain_in s) refl
  where
    go : (a : Answer Domain) → domain_in s ≡ a → is_some (found_in s) ≡ is_got (domain_in s)
    go (got d) e = ap is_some (found_got s d e) ∙ sym (ap is_got e)
    go (refused n) e = ap is_some (found_not s n e) ∙ sym (ap is_got e)

-- ---- the lines of the frames are the domain's

lines_are : (looks : ℕ) (s : List ℕ) (at : ℕ) (fs : List Frame) → frames_from looks s at ≡ some fs → flat (map line_for fs) ≡ lines_from looks s at
unfolding frames_from lines_from flat
lines_are zero s at fs e = absurd (let z : ◌≡◌ {A = ℕ} 0 1 = cc in omega arith)
lines_are (suc looks) s at fs e = step (frame_at s at) (λ f rest. lines_are looks s (at + length (stored f)) rest) e
  where
    more : (f : Frame) (o : Option (List Frame)) → ((rest : List Frame) → o ≡ some rest → flat (map line_for rest) ≡ lines_from looks s (at + length (stored f)))
        → maybe o none (λ rest. some (f ∷ rest)) ≡ some fs → flat (map line_for fs) ≡ line_for f ++ lines_from looks s (at + length (stored f))
    more f none rec q = absurd (let z : ◌≡◌ {A = ℕ} 0 1 = cc in omega arith)
    more f (some rest) rec q = let z : fs ≡ f ∷ rest = cc in ap (λ l. flat (map line_for l)) z ∙ ap (λ l. line_for f ++ l) (rec rest refl)

    step : (o : Option Frame) → ((f : Frame) (rest : List Frame) → frames_from looks s (at + length (stored f)) ≡ some rest → flat (map line_for rest) ≡ lines_from looks s (at + length (stored f)))
        → maybe o (if_else (zeros (drop at s)) (some []) none) (λ f. maybe (frames_from looks s (at + length (stored f))) none (λ rest. some (f ∷ rest))) ≡ some fs
        → flat (map line_for fs) ≡ maybe o [] (λ f. line_for f ++ lines_from looks s (at + length (stored f)))
    step none rec q = ap (λ l. flat (map line_for l)) (no_more (zeros (drop at s)) q)
    step (some f) rec q = more f (frames_from looks s (at + length (stored f))) (rec f) q

pub text_is : (s : List ℕ) (d : Domain) → domain_in s ≡ got d → text_of s ≡ lines_in s
unfolding lines_in
text_is s d e =
    let m = domained s d e in
    ap (λ o. maybe o [] (λ fs. flat (map line_for fs))) m.are ∙ lines_are (suc (length s)) s 0 m.frames m.are

-- ---- the lines from a place on

abbrev pub Enough : List ℕ → ℕ → ℕ → Type 0
Enough s at looks = (at ≤ length s) × (length s < at + looks)

module _ (s : List ℕ) (at looks : ℕ) (h : Enough s at looks) where
  a_look : (k : ℕ) × (looks ≡ suc k)
  a_look = go looks refl
    where
      go : (k : ℕ) → looks ≡ k → (j : ℕ) × (looks ≡ suc j)
      go zero e = absurd (omega (arith, h.0, h.1))
      go (suc k) e = (k, e)

  pub lines_end : frame_at s at ≡ none → lines_from looks s at ≡ []
  unfolding lines_from
  lines_end e = ap (λ k. lines_from k s at) a_look.1 ∙ rw e

  module _ (size : ℕ) (f : Framed s at size) where
    pub lines_more : lines_from looks s at ≡ line_for (cut s at size) ++ lines_from (looks - 1) s (at + size)
    unfolding lines_from
    lines_more =
        let k : a_look.0 ≡ looks - 1 = omega (arith, a_look.1) in
        ap (λ k. lines_from k s at) a_look.1 ∙ rw f.stands (ap (λ l. line_for (cut s at size) ++ l) (ap (λ j. lines_from j s (at + length (stored (cut s at size)))) k ∙ ap (λ j. lines_from (looks - 1) s (at + j)) (sym f.is)))

    pub enough_more : Enough s (at + size) (looks - 1)
    enough_more = (f.within, omega (arith, h.0, h.1, f.two))

    pub line_length : length (line_for (cut s at size)) ≡ 2 * size + 1
    line_length = length_line (get_or s at 0) (take (at + size - (at + 2)) (drop (at + 2) s)) ∙ omega (arith, f.is)

-- ---- whether they fit

pub fits_start : (s : List ℕ) → Enough s 0 (suc (length s))
fits_start s = (omega arith, omega arith)

module _ (s : List ℕ) (at looks left : ℕ) (h : Enough s at looks) where
  pub fits_end : frame_at s at ≡ none → true ≡ leb (length (lines_from looks s at)) left
  fits_end e = sym (ap (λ l. leb (length l) left) (lines_end s at looks h e) ∙ le-leb 0 left (omega arith))

  module _ (size : ℕ) (f : Framed s at size) where
    whole : length (lines_from looks s at) ≡ 2 * size + 1 + length (lines_from (looks - 1) s (at + size))
    whole =
        ap length (lines_more s at looks h size f) ∙ length-append (line_for (cut s at size)) (lines_from (looks - 1) s (at + size))
        ∙ ap (λ k. k + length (lines_from (looks - 1) s (at + size))) (line_length s at looks h size f)

    pub fits_not : left < 2 * size + 1 → false ≡ leb (length (lines_from looks s at)) left
    fits_not l = sym (lt-leb (length (lines_from looks s at)) left (omega (arith, whole)))

    pub fits_more : 2 * size + 1 ≤ left → leb (length (lines_from looks s at)) left ≡ leb (length (lines_from (looks - 1) s (at + size))) (left - (2 * size + 1))
    fits_more l = elim (dec_le (length (lines_from looks s at)) left) [
      | yes k ↦ le-leb (length (lines_from looks s at)) left k ∙ sym (le-leb (length (lines_from (looks - 1) s (at + size))) (left - (2 * size + 1)) (omega (arith, whole)))
      | no k ↦ lt-leb (length (lines_from looks s at)) left (omega arith) ∙ sym (lt-leb (length (lines_from (looks - 1) s (at + size))) (left - (2 * size + 1)) (omega (arith, whole)))
    ]

-- ---- the lines written so far

pub record Writes (s text₀ text : List ℕ) (at used : ℕ) : Type 0 where
  pub looks : ℕ
  pub enough : Enough s at looks
  pub front : Fronts (lines_in s) text₀ text used (lines_from looks s at)

pub writes_first : (s text : List ℕ) → length (lines_in s) ≤ length text → Writes s text text 0 0
unfolding lines_in
writes_first s text h = record { looks = suc (length s); enough = fits_start s; front = fronts_first (lines_in s) text h }

module _ {s text₀ text : List ℕ} {at used : ℕ} (w : Writes s text₀ text at used) where
  -- the end
  pub writes_done : frame_at s at ≡ none → (used ≡ length (lines_in s)) × (text ≡ over (lines_in s) text₀)
  writes_done e = fronts_done w.front (lines_end s at w.looks w.enough e)

  module _ (size : ℕ) (f : Framed s at size) where
    abbrev line : List ℕ
    line = line_for (cut s at size)

    long : length line ≡ 2 * size + 1
    long = line_length s at w.looks w.enough size f

    abbrev after : List ℕ
    after = lines_from (w.looks - 1) s (at + size)

    -- there is room for the line
    pub writes_room : used + (2 * size + 1) ≤ length text
    writes_room = fronts_room w.front line after (2 * size + 1) long (lines_more s at w.looks w.enough size f)

    module _ (p : List ℕ) (e : p ≡ (line_written (get_or s at 0) (take (at + size - (at + 2)) (drop (at + 2) s)) (lent text used)).buffer) where
      put : p ≡ over line (lent text used)
      unfolding line_written
      put =
          e
          ∙ rw (
            le-leb (length (take (at + size - (at + 2)) (drop (at + 2) s))) 120 (omega (arith, f.is, f.most)),
            le-leb (length line) (length (lent text used)) (omega (arith, long, writes_room, lent_length text used w.front.inside)),
          )

      pub writes_next : length (renewed text used p) ≡ length text → Writes s text₀ (renewed text used p) (at + size) (used + (2 * size + 1))
      writes_next same = record {
        looks = w.looks - 1;
        enough = enough_more s at w.looks w.enough size f;
        front = fronts_next w.front line after (2 * size + 1) long (lines_more s at w.looks w.enough size f) p put same;
      }

-- ---- the writer around them

module _ (s text : List ℕ) where
  pub write_15 : false ≡ is_got (domain_in s) → (refused 15 ≡ (write_domain s text).answer) × (text ≡ (write_domain s text).buffer)
  unfolding write_domain
  write_15 e = go (domain_in s) refl e
    where
      go : (a : Answer Domain) → domain_in s ≡ a → false ≡ is_got a → (refused 15 ≡ (written text (then a (λ d. got (text_of s)))).answer) × (text ≡ (written text (then a (λ d. got (text_of s)))).buffer)
      go (got d) g q = absurd (let z : ◌≡◌ {A = ℕ} 0 1 = cc in omega arith)
      go (refused n) g q = (ap refused (sym (refused_15 s n g)), refl)

  module _ (e : true ≡ is_got (domain_in s)) where
    write_is : write_domain s text ≡ written text (got (lines_in s))
    unfolding write_domain
    write_is = go (domain_in s) refl e
      where
        go : (a : Answer Domain) → domain_in s ≡ a → true ≡ is_got a → written text (then a (λ d. got (text_of s))) ≡ written text (got (lines_in s))
        go (got d) g q = ap (λ l. written text (got l)) (text_is s d g)
        go (refused n) g q = absurd (let z : ◌≡◌ {A = ℕ} 0 1 = cc in omega arith)

    pub write_10 : false ≡ leb (length (lines_in s)) (length text) → (refused 10 ≡ (write_domain s text).answer) × (text ≡ (write_domain s text).buffer)
    write_10 q = rw (write_is, ← q) (refl, refl)

    pub write_text : true ≡ leb (length (lines_in s)) (length text) → (n : ℕ) (exit : List ℕ) → (n ≡ length (lines_in s)) × (exit ≡ over (lines_in s) text)
        → (got n ≡ (write_domain s text).answer) × (exit ≡ (write_domain s text).buffer)
    write_text q n exit r = rw (write_is, ← q) (ap got r.0, r.1)

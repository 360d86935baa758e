-- The pass over a supplement's store: what the code holds after some frames, and one frame more. Assumes nothing.
use Prim.Native.Nat.{ℕ, zero, suc, ◌+◌, ◌≤◌, ◌<◌}
use native.Mathlib.Omega.{arith}
use mathlib.Core.Path.{◌≡◌, refl, sym, ap, subst, ◌∙◌}
use mathlib.Core.Bool.{Bool, true, false}
use mathlib.Core.List.{List, [], ◌∷◌, ◌++◌, map}
use mathlib.Core.Option.{Option, none, some}
use Rattle.std.specs.Prelude.{Option as Maybe, None, Some, ok_or}
use lib.ListN.{length, set, drop, replicate}
use Rattle.bmap.specs.Plain.{maybe}
use Rattle.bmap.specs.Refusal.{Answer, got, refused, known, then}
use Rattle.bmap.specs.Line.{Frame, stored}
use Rattle.bmap.specs.Domain.{Domain}
use Rattle.bmap.specs.Store.{frame_at, zeros, frames_from, what_was_read, domain_in}
use Rattle.bmap.specs.Supplement.{Replacement, replaces, replacement_in, supplement_from, supplement_in}
use Rattle.line.proofs.Answers.{then_got_inv, then_refused}
use Rattle.index.specs.Index.{domain_of}
use Rattle.index.specs.declared.Index.{Index}
use Rattle.domain.specs.Found.{found_in}
use Rattle.domain.proofs.Stands.{here}
use Rattle.domain.proofs.Held.{Framed}
use Rattle.domain.proofs.Accepted.{found_ok, found_none}
use Rattle.supplement.specs.Check.{over_of, frame_there, noted_at}
use Rattle.supplement.specs.declared.under.Under.{Under}
use Rattle.supplement.specs.Under.{no_index, index_found, under_of, under_in, under_alone}
use Rattle.supplement.proofs.EmptyLaws.{zeros_accepted}
use Rattle.supplement.proofs.OverLaws.{Over, over_first, over_most}
use Rattle.supplement.proofs.Passes.{passes, over_passed}

-- what is found, part by part
pub made : (u : Under) {ok : Bool} {x : Index} {over : List ℕ} → u.ok ≡ ok → u.index ≡ x → u.over ≡ over → u ≡ record { ok = ok; index = x; over = over }
made u {ok} {x} {over} e f g =
    ap (λ (b : Bool). record { ok = b; index = u.index; over = u.over }) e ∙ ap (λ (y : Index). record { ok = ok; index = y; over = u.over }) f
    ∙ ap (λ (o : List ℕ). record { ok = ok; index = x; over = o }) g

-- what the frames from a place on make, after some replacements
abbrev run : ℕ → Domain → List Replacement → List ℕ → ℕ → Option (List Replacement)
run looks d earlier s at = maybe (frames_from looks s at) none (λ frames. what_was_read (supplement_from d earlier (map got frames)))

-- one look
module _ (looks : ℕ) (d : Domain) (earlier : List Replacement) (s : List ℕ) (at : ℕ) where
  run_junk : frame_at s at ≡ none → zeros (drop at s) ≡ false → run (suc looks) d earlier s at ≡ none
  unfolding frames_from
  run_junk e z = rw (e, z)

  run_ends : frame_at s at ≡ none → zeros (drop at s) ≡ true → run (suc looks) d earlier s at ≡ some earlier
  unfolding frames_from supplement_from
  run_ends e z = rw (e, z)

  module _ (f : Frame) (e : frame_at s at ≡ some f) where
    run_first : run (suc looks) d earlier s at
        ≡ maybe (frames_from looks s (at + length (stored f))) none (λ frames. what_was_read (supplement_from d earlier (got f ∷ map got frames)))
    unfolding frames_from
    run_first = rw e (go (frames_from looks s (at + length (stored f))))
      where
        go : (o : Option (List Frame)) → maybe (maybe o none (λ frames. some (f ∷ frames))) none (λ frames. what_was_read (supplement_from d earlier (map got frames)))
            ≡ maybe o none (λ frames. what_was_read (supplement_from d earlier (got f ∷ map got frames)))
        go none = refl
        go (some frames) = refl

    run_refused : (m : ℕ) → replacement_in d earlier f ≡ refused m → run (suc looks) d earlier s at ≡ none
    unfolding supplement_from
    run_refused m a = run_first ∙ go (frames_from looks s (at + length (stored f)))
      where
        go : (o : Option (List Frame)) → maybe o none (λ frames. what_was_read (supplement_from d earlier (got f ∷ map got frames))) ≡ none
        go none = refl
        go (some frames) = rw a

    run_next : (r : Replacement) → replacement_in d earlier f ≡ got r → run (suc looks) d earlier s at ≡ run looks d (earlier ++ (r ∷ [])) s (at + length (stored f))
    unfolding supplement_from
    run_next r a = run_first ∙ go (frames_from looks s (at + length (stored f)))
      where
        go : (o : Option (List Frame)) → maybe o none (λ frames. what_was_read (supplement_from d earlier (got f ∷ map got frames)))
            ≡ maybe o none (λ frames. what_was_read (supplement_from d (earlier ++ (r ∷ [])) (map got frames)))
        go none = refl
        go (some frames) = rw a

-- ---- after some frames

pub record Passing (d : Domain) (s over : List ℕ) (at : ℕ) : Type 0 where
  pub earlier : List Replacement
  pub looks : ℕ
  pub stand : Over earlier over at
  pub inside : at ≤ length s
  pub enough : length s < at + looks
  pub runs : supplement_in d s ≡ known 15 (run looks d earlier s at)

pub passing_first : (d : Domain) (s : List ℕ) → Passing d s (replicate 128 0) 0
unfolding supplement_in
passing_first d s = record { earlier = []; looks = suc (length s); stand = over_first; inside = omega arith; enough = omega arith; runs = refl }

module _ {d : Domain} {s over : List ℕ} {at : ℕ} (h : Passing d s over at) where
  some_look : (looks : ℕ) × (h.looks ≡ suc looks)
  some_look = go h.looks refl
    where
      go : (k : ℕ) → h.looks ≡ k → (looks : ℕ) × (h.looks ≡ suc looks)
      go zero e = absurd (omega (arith, h.inside, h.enough))
      go (suc k) e = (k, e)

  run_on : supplement_in d s ≡ known 15 (run (suc some_look.0) d h.earlier s at)
  run_on = h.runs ∙ ap (λ (k : ℕ). known 15 (run k d h.earlier s at)) some_look.1

  pub passing_most : at ≤ 15_616
  passing_most = over_most h.stand

  pub passing_over : over ≡ over_of h.earlier
  passing_over = h.stand.places

  -- ---- the end

  module _ (e : frame_at s at ≡ none) where
    pub passing_junk : false ≡ zeros (drop at s) → supplement_in d s ≡ refused 15
    passing_junk z = run_on ∙ ap (known 15) (run_junk some_look.0 d h.earlier s at e (sym z))

    pub passing_done : true ≡ zeros (drop at s) → supplement_in d s ≡ got h.earlier
    passing_done z = run_on ∙ ap (known 15) (run_ends some_look.0 d h.earlier s at e (sym z))

  -- ---- a frame

  module _ (f : Frame) (e : frame_at s at ≡ some f) where
    pub passing_refused : (m : ℕ) → replacement_in d h.earlier f ≡ refused m → supplement_in d s ≡ refused 15
    passing_refused m q = run_on ∙ ap (known 15) (run_refused some_look.0 d h.earlier s at f e m q)

    pub passing_next : (r : Replacement) → replacement_in d h.earlier f ≡ got r → length d.laws ≤ 128 → (next : ℕ) → next ≡ at + length (stored f) → Passing d s (set over (replaces r) (at + 1)) next
    passing_next r q few next ex =
        let there = here s at f e in
        record {
          earlier = h.earlier ++ (r ∷ []);
          looks = some_look.0;
          stand =
              subst (λ (k : ℕ). Over (h.earlier ++ (r ∷ [])) (set over (replaces r) (at + 1)) k) (sym ex) (over_passed h.stand (passes d h.earlier f r q) few there.most);
          inside = omega (arith, there.within);
          enough = omega (arith, h.enough, some_look.1);
          runs = run_on ∙ ap (known 15) (run_next some_look.0 d h.earlier s at f e r q) ∙ ap (λ (k : ℕ). known 15 (run some_look.0 d (h.earlier ++ (r ∷ [])) s k)) (sym ex);
        }

  -- by what noting a frame answers
  module _ {size : ℕ} (g : Framed s at size) (a : Answer Replacement) (is : a ≡ replacement_in d h.earlier (frame_there s at size)) where
    pub passing_taken : length d.laws ≤ 128 → (o : List ℕ) → got o ≡ noted_at over at a → Passing d s o (at + size)
    passing_taken few o e =
        let (r, q, z) = then_got_inv a (λ r. got (set over (replaces r) (at + 1))) o (sym e) in
        let same : set over (replaces r) (at + 1) ≡ o = cc in
        subst (λ (l : List ℕ). Passing d s l (at + size)) same (passing_next (frame_there s at size) g.stands r (sym is ∙ q) few (at + size) (ap (λ (n : ℕ). at + n) g.is))

    pub passing_not : (m : ℕ) → refused m ≡ noted_at over at a → supplement_in d s ≡ refused 15
    passing_not m e = passing_refused (frame_there s at size) g.stands m (sym is ∙ then_refused a (λ r. set over (replaces r) (at + 1)) m (sym e))

-- ---- around the pass

module _ (store supplement : List ℕ) where
  pub under_by : (x : Index) → found_in store ≡ Some x → under_of x (supplement_in (domain_of store x) supplement) ≡ under_in store supplement
  unfolding under_in
  under_by x e =
      ap (λ (o : Maybe Index). under_of (index_found o) (supplement_in (domain_of store x) supplement)) (sym e)
      ∙ ap (λ a. under_of (index_found (found_in store)) (then a (λ d. supplement_in d supplement))) (sym (found_ok store x e).domain)

  pub under_not : found_in store ≡ None → under_of no_index (refused 15) ≡ under_in store supplement
  unfolding under_in
  under_not e =
      ap (λ (o : Maybe Index). under_of (index_found o) (refused 15)) (sym e)
      ∙ ap (λ a. under_of (index_found (found_in store)) (then a (λ d. supplement_in d supplement))) (sym (found_none store e))

-- what is found of a store, as `alone` takes it
abbrev pub alone_in : Maybe Index → Under
alone_in o = under_alone (ok_or o no_index)

-- an empty supplement, which is accepted for every domain: nothing more is found
pub alone_is : (store : List ℕ) → under_alone (ok_or (found_in store) no_index) ≡ under_in store []
alone_is store = go (found_in store) refl
  where
    go : (o : Maybe Index) → found_in store ≡ o → alone_in o ≡ under_in store []
    go (Some x) e =
        ap (λ (o : List ℕ). record { ok = true; index = x; over = o }) over_first.places
        ∙ sym (ap (under_of x) (zeros_accepted (domain_of store x) 0)) ∙ under_by store [] x e
    go None e = under_not store [] e

-- the counts are the domain's, whatever the supplement is
pub under_counts : (store supplement : List ℕ) → (under_in store supplement).index.counts ≡ (index_found (found_in store)).counts
unfolding under_in
under_counts store supplement = go (then (domain_in store) (λ d. supplement_in d supplement))
  where
    go : (a : Answer (List Replacement)) → (under_of (index_found (found_in store)) a).index.counts ≡ (index_found (found_in store)).counts
    go (got s) = refl
    go (refused n) = refl

-- ---- a domain alone, by what was found

pub alone_index : (o : Maybe Index) → (alone_in o).index ≡ index_found o
alone_index None = refl
alone_index (Some x) = refl

pub alone_some : (o : Maybe Index) → (alone_in o).ok ≡ true → o ≡ Some (alone_in o).index
alone_some None e = absurd cc
alone_some (Some x) e = refl

pub alone_none : (o : Maybe Index) → (alone_in o).ok ≡ false → o ≡ None
alone_none None e = refl
alone_none (Some x) e = absurd cc

pub alone_over : (o : Maybe Index) → (alone_in o).over ≡ replicate 128 0
alone_over None = refl
alone_over (Some x) = refl

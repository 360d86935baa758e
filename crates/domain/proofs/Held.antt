-- The pass over a store: what the code holds after some frames, and one frame more. Assumes nothing.
use Prim.Native.Nat.{ℕ, zero, suc, ◌+◌, ◌-◌, ◌*◌, ◌≤◌, ◌<◌}
use native.Mathlib.Omega.{arith}
use mathlib.Core.Path.{◌≡◌, refl, sym, ap, ◌∙◌}
use mathlib.Core.Bool.{Bool, true, false}
use mathlib.Core.List.{List, []}
use mathlib.Core.Option.{Option, none, some}
use Rattle.std.specs.Prelude.{None, Some, Result, Ok, Err, IfOk}
use Rattle.std.specs.Bool.{then_some}
use Rattle.std.specs.Result.{result_ok}
use lib.ListN.{length, get_or, take, drop}
use Rattle.bmap.specs.Plain.{both, if_else, maybe}
use Rattle.bmap.specs.Line.{Frame, stored}
use Rattle.bmap.specs.Refusal.{got, refused, need, number_of}
use Rattle.bmap.specs.declared.refusal.Refusal.{Refusal}
use Rattle.bmap.specs.Accept.{Partial, nothing, counts_of, accept, complete, checked}
use Rattle.bmap.specs.Store.{frame_at, zeros}
use Rattle.line.specs.Frame.{frame_size_at}
use Rattle.domain.specs.Check.{refusal_of, refused_in}
use Rattle.domain.specs.declared.progress.Progress.{Progress}
use Rattle.domain.specs.Found.{index_with, found_of, found_in}
use Rattle.domain.specs.Progress.{progress_of, checked_in, noted, complete_in}
use Rattle.domain.proofs.Passed.{Passed, passed}
use Rattle.domain.proofs.Stands.{here, frames, Few, few_first, few_frames, more, with, places_with, accept_refused, accept_passed}
use Rattle.domain.proofs.ProgressLaws.{check_same, complete_same, noted_same, laws_counted}
use Rattle.domain.proofs.FoundLaws.{found_from, found_start, found_refused, found_next}

-- ---- what the code holds, of the frames that make p, whose laws stand at these places

pub record Holds (p : Partial) (places : List ℕ) (x : Progress) : Type 0 where
  pub is : x ≡ progress_of p places
  pub few : Few p.domain
  pub of_laws : length places ≡ length p.domain.laws

pub holds_first : (x : Progress) → x ≡ progress_of nothing [] → Holds nothing [] x
holds_first x e = record { is = e; few = few_first; of_laws = refl }

module _ {p : Partial} {places : List ℕ} {x : Progress} (h : Holds p places x) where
  pub holds_few : x.index.counts.entries ≤ 64
  unfolding progress_of index_with
  holds_few = let e = ap (λ (y : Progress). y.index.counts.entries) h.is in omega (arith, e, h.few.entries)

  pub holds_complete : complete_in x ≡ complete p.domain
  holds_complete = ap complete_in h.is ∙ complete_same p places h.few.entries

  module _ (f : Frame) where
    pub holds_check : checked_in x f ≡ checked p.latest (counts_of p.domain) p.domain.entries f
    holds_check = ap (λ y. checked_in y f) h.is ∙ check_same p places f

    pub holds_refused : (m : ℕ) → some m ≡ refused_in (checked_in x f) → accept p f ≡ refused m
    holds_refused m q = accept_refused p f m (q ∙ ap refused_in holds_check)

    module _ (q : none ≡ refused_in (checked_in x f)) where
      pub holds_pass : Passed p.latest (counts_of p.domain) p.domain.entries f
      holds_pass = passed p.latest (counts_of p.domain) p.domain.entries f (q ∙ ap refused_in holds_check)

      pub holds_next : (at : ℕ) (y : Progress) → y ≡ noted x at f → Holds (with p f holds_pass.item) (places_with places at f) y
      holds_next at y e = record {
        is = e ∙ ap (λ z. noted z at f) h.is ∙ noted_same p places f holds_pass at h.few.entries h.of_laws;
        few = (more p.latest p.domain p.domain.entries f holds_pass).few h.few;
        of_laws = laws_counted p f holds_pass places at h.of_laws;
      }

-- ---- a frame, or none

size_none : (o : Option Frame) → None ≡ maybe o None (λ f. Some (length (stored f))) → o ≡ none
size_none none e = refl
size_none (some f) e = absurd (let z : ◌≡◌ {A = ℕ} 0 1 = cc in omega arith)

pub no_frame : (s : List ℕ) (at : ℕ) → None ≡ frame_size_at s at → frame_at s at ≡ none
unfolding frame_size_at
no_frame s at e = size_none (frame_at s at) e

-- the frame of so many bytes at a place, as the code cuts it out
abbrev pub cut : List ℕ → ℕ → ℕ → Frame
cut s at size = record { kind = get_or s at 0; payload = take (at + size - (at + 2)) (drop (at + 2) s) }

pub record Framed (s : List ℕ) (at size : ℕ) : Type 0 where
  pub stands : frame_at s at ≡ some (cut s at size)
  pub is : size ≡ length (stored (cut s at size))
  pub two : 2 ≤ size
  pub most : size ≤ 122
  pub within : at + size ≤ length s

size_some : (s : List ℕ) (at size : ℕ) (o : Option Frame) → frame_at s at ≡ o → Some size ≡ maybe o None (λ f. Some (length (stored f))) → Framed s at size
size_some s at size none q e = absurd (let z : ◌≡◌ {A = ℕ} 0 1 = cc in omega arith)
size_some s at size (some f) q e =
    let h = here s at f q in
    let n : size ≡ length (stored f) = cc in
    let k : at + size - (at + 2) ≡ get_or s (at + 1) 0 = omega (arith, h.count) in
    let same : f ≡ cut s at size
    = ap (λ (x : ℕ). record { kind = x; payload = f.payload }) h.kind
    ∙ ap (λ (x : List ℕ). record { kind = get_or s at 0; payload = x }) (h.payload ∙ ap (λ (i : ℕ). take i (drop (at + 2) s)) (sym k)) in
    record {
      stands = q ∙ ap some same;
      is = n ∙ ap (λ (x : Frame). length (stored x)) same;
      two = omega arith;
      most = omega (arith, h.most);
      within = omega (arith, h.within);
    }

pub framed : (s : List ℕ) (at size : ℕ) → Some size ≡ frame_size_at s at → Framed s at size
unfolding frame_size_at
framed s at size e = size_some s at size (frame_at s at) refl e

-- the frame's size, for bounds
module _ (s : List ℕ) (at size : ℕ) (e : Some size ≡ frame_size_at s at) where
  pub frame_two : 2 ≤ size
  frame_two = (framed s at size e).two

  pub frame_most : size ≤ 122
  frame_most = (framed s at size e).most

  pub frame_within : at + size ≤ length s
  frame_within = (framed s at size e).within

pub ruleset frame_bounds = (frame_two, frame_most, frame_within)

-- ---- the pass

pub record Held (s : List ℕ) (x : Progress) (at : ℕ) : Type 0 where
  pub so_far : Partial
  pub places : List ℕ
  pub looks : ℕ
  pub holds : Holds so_far places x
  pub before : at ≤ 122 * frames so_far.domain
  pub inside : at ≤ length s
  pub enough : length s < at + looks
  pub run : found_in s ≡ found_from looks so_far places s at

pub held_first : (s : List ℕ) (x : Progress) → x ≡ progress_of nothing [] → Held s x 0
held_first s x e = record {
  so_far = nothing;
  places = [];
  looks = suc (length s);
  holds = holds_first x e;
  before = omega arith;
  inside = omega arith;
  enough = omega arith;
  run = found_start s;
}

module _ {s : List ℕ} {x : Progress} {at : ℕ} (h : Held s x at) where
  some_look : (looks : ℕ) × (h.looks ≡ suc looks)
  some_look = go h.looks refl
    where
      go : (k : ℕ) → h.looks ≡ k → (looks : ℕ) × (h.looks ≡ suc looks)
      go zero e = absurd (omega (arith, h.inside, h.enough))
      go (suc k) e = (k, e)

  run_on : found_in s ≡ found_from (suc some_look.0) h.so_far h.places s at
  run_on = h.run ∙ ap (λ (k : ℕ). found_from k h.so_far h.places s at) some_look.1

  pub held_few : x.index.counts.entries ≤ 64
  held_few = holds_few h.holds

  pub held_place : at ≤ 35_258
  held_place = omega (arith, h.before, few_frames h.so_far.domain h.holds.few)

  -- the end
  pub held_end : frame_at s at ≡ none → (b : Bool) → b ≡ both (zeros (drop at s)) (complete_in x) → found_in s ≡ then_some b x.index
  unfolding found_from progress_of
  held_end e b q =
      run_on ∙ rw (e, q, holds_complete h.holds, h.holds.is) (go (zeros (drop at s)) (complete h.so_far.domain))
    where
      go : (z c : Bool) → if_else z (found_of h.places (need c 7 (got h.so_far.domain))) None ≡ then_some (both z c) (index_with h.so_far.domain h.places)
      go true true = refl
      go true false = refl
      go false c = refl

  -- a frame
  module _ (f : Frame) (e : frame_at s at ≡ some f) where
    held_refused : (m : ℕ) → some m ≡ refused_in (checked_in x f) → found_in s ≡ None
    held_refused m q = run_on ∙ found_refused some_look.0 h.so_far h.places s at f e m (holds_refused h.holds f m q)

    held_next : none ≡ refused_in (checked_in x f) → (y : Progress) → y ≡ noted x at f → (next : ℕ) → next ≡ at + length (stored f) → Held s y next
    held_next q y n next ex =
        let p = h.so_far in
        let v = holds_pass h.holds f q in
        let here-is = here s at f e in
        record {
          so_far = with p f v.item;
          places = places_with h.places at f;
          looks = some_look.0;
          holds = holds_next h.holds f q at y n;
          before = omega (arith, h.before, here-is.most, (more p.latest p.domain p.domain.entries f v).one_more);
          inside = omega (arith, here-is.within);
          enough = omega (arith, h.enough, some_look.1);
          run =
              run_on ∙ found_next some_look.0 p h.places s at f e (with p f v.item) (accept_passed p f v)
              ∙ ap (found_from some_look.0 (with p f v.item) (places_with h.places at f) s) (sym ex);
        }

    -- by what `take` answers
    pub held_stops : (r : Result (Unit {0}) Refusal) → refusal_of r ≡ refused_in (checked_in x f) → None ≡ result_ok r → found_in s ≡ None
    held_stops (Ok u) q k = absurd (let z : ◌≡◌ {A = ℕ} 0 1 = cc in omega arith)
    held_stops (Err why) q k = held_refused (number_of why) q

    pub held_goes : (r : Result (Unit {0}) Refusal) (u : Unit {0}) → refusal_of r ≡ refused_in (checked_in x f) → Some u ≡ result_ok r
        → (y : Progress) → IfOk r (λ u. y ≡ noted x at f) → (next : ℕ) → next ≡ at + length (stored f) → Held s y next
    held_goes (Ok v) u q k y n next ex = held_next q y n next ex
    held_goes (Err why) u q k y n next ex = absurd (let z : ◌≡◌ {A = ℕ} 0 1 = cc in omega arith)

-- A program's function, and what its callers know of it: what is put is what it answers, what is counted of the buffer is the output, and an
-- input that is one byte too long is answered as any longer one. Assumes nothing.
use Rattle.std.proofs.Common.{◌≡◌, ℕ, ◌+◌, ◌≤◌, ◌<◌, List, ◌++◌, length, take, drop, refl, ap, sym, ◌∙◌, arith, take_all, le_refl, length-append, length-take-le}
use Rattle.std.specs.Prelude.{Bool, true, false, leb, Result, Ok, Err, OnErr}
use Rattle.std.proofs.lemmas.Bool.{le-leb, lt-leb}
use Rattle.std.proofs.lemmas.List.Edits.{sets, sets-eq}
use Rattle.std.proofs.Math.Nat.{zero-add}
use Rattle.std.proofs.Math.Decide.{dec_lt}
use lib.Seq.{take-append-le}
use Rattle.bmap.specs.Buffer.{over}
use Rattle.bmap.specs.Limits.{most_input}
use Rattle.bmap.specs.Program.{refused_text}
use Rattle.bmap.specs.declared.refusal.ReadError.{ReadError}
use Rattle.answer.specs.declared.print.Text.{Text}
use Rattle.answer.specs.Put.{Put, PutOr, HasRoom}
use Rattle.answer.specs.Room.{output_size, refused_room}
use Rattle.answer.specs.Answer.{Answered, answered}

-- ---- within the function

pub no_room : (output out : List ℕ) → length out < output_size → ◌≡◌ {A = Answered} (record { count = 0; buffer = out }) (answered output out)
unfolding answered
no_room output out h = simp (lt-leb output_size (length out) h)

-- what is put from the front of a buffer on is the program's answer
pub answered_put : (text out : List ℕ) {start end : Text} {n : ℕ} → output_size ≤ length out → start.at ≡ 0 → start.out.now ≡ out → Put start text end → n ≡ end.at
    → ◌≡◌ {A = Answered} (record { count = n; buffer = end.out.now }) (answered text out)
unfolding answered
answered_put text out {start} {end} {n} room front is put e =
    let count : n ≡ length text = omega (arith, e, put.place, front) in
    let within : 0 + length text ≤ length out = omega (arith, put.place, put.fits, put.size, front, ap length is) in
    let buffer : end.out.now ≡ over text out = put.bytes ∙ ap (λ (l : List ℕ). sets l start.at text) is ∙ ap (λ (k : ℕ). sets out k text) front ∙ sets-eq text out 0 within ∙ ap (λ (k : ℕ). text ++ drop k out) (zero-add (length text)) in
    simp (le-leb output_size (length out) room) (ap (λ (k : ℕ). record { count = k; buffer = end.out.now }) count ∙ ap (λ (l : List ℕ). record { count = length text; buffer = l }) buffer)

-- where a text is refused, there is room for the line that says so
pub room_left : (start left : Text) (text : List ℕ) (r : Result (Unit {0}) ReadError) → HasRoom start output_size → PutOr start text r left → OnErr r (HasRoom left refused_room)
room_left start left text (Ok u) h p = tt
room_left start left text (Err e) h p = omega (arith, h, p.1.size, p.1.place)

-- ---- for its callers

module _ (output out : List ℕ) {n : ℕ} {new : List ℕ} (e : ◌≡◌ {A = Answered} (record { count = n; buffer = new }) (answered output out)) where
  pub count_within : n ≤ length new
  unfolding answered
  count_within = go (leb output_size (length out)) refl
    where
      go : (b : Bool) → leb output_size (length out) ≡ b → n ≤ length new
      go true q =
          let x : ◌≡◌ {A = Answered} (record { count = n; buffer = new }) (record { count = length output; buffer = over output out }) = e ∙ simp q in
          omega (arith, ap (λ (a : Answered). a.count) x, ap (λ (a : Answered). length a.buffer) x, length-append output (drop (length output) out))
      go false q =
          let x : ◌≡◌ {A = Answered} (record { count = n; buffer = new }) (record { count = 0; buffer = out }) = e ∙ simp q in
          omega (arith, ap (λ (a : Answered). a.count) x)

  -- of a buffer with room
  pub counted_whole : output_size ≤ length out → take n new ≡ output
  unfolding answered
  counted_whole room =
      let x : ◌≡◌ {A = Answered} (record { count = n; buffer = new }) (record { count = length output; buffer = over output out }) = e ∙ simp (le-leb output_size (length out) room) in
      ap (λ (a : Answered). take a.count a.buffer) x ∙ take-append-le (length output) output (drop (length output) out) (omega arith) ∙ take_all (length output) output (le_refl _)

-- what is refused by 18 whatever follows is decided by the bytes of the limit and one more
pub long_unread : (f : List ℕ → List ℕ) → ((input : List ℕ) → most_input < length input → f input ≡ refused_text 18 0) → (input : List ℕ) → f (take (most_input + 1) input) ≡ f input
long_unread f long input = elim (dec_lt (most_input + 1) (length input)) [
  | yes h ↦ long (take (most_input + 1) input) (omega (arith, length-take-le (most_input + 1) input (omega arith))) ∙ sym (long input (omega arith))
  | no h ↦ ap f (take_all (most_input + 1) input (omega arith))
]

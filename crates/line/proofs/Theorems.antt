-- An answer is the only one that keeps its promise.
use Prim.Native.Nat.{ℕ}
use mathlib.Core.Path.{◌≡◌, refl, sym, ap, ◌∙◌}
use mathlib.Core.Bool.{Bool}
use mathlib.Core.List.{List}
use Rattle.std.specs.Prelude.{Option, None, Some, Result, Ok, Err}
use Rattle.bmap.specs.Refusal.{number_of}
use Rattle.bmap.specs.declared.refusal.Refusal.{Refusal}
use Rattle.bmap.specs.declared.refusal.ReadError.{ReadError}
use Rattle.bmap.proofs.RefusalLaws.{same_refusal}
use Rattle.line.specs.Read.{said, reading_of, PayloadRead}
use Rattle.line.specs.Write.{answer_of}
use Rattle.line.specs.declared.read.FirstFrame.{FirstFrame}

pub same_line : (a b : Result (Option FirstFrame) Refusal) → said a ≡ said b → a ≡ b
same_line (Ok None) (Ok None) e = refl
same_line (Ok None) (Err r) e = cc
same_line (Ok None) (Ok (Some f)) e = cc
same_line (Err r) (Ok None) e = cc
same_line (Err r) (Err q) e = let n : number_of r ≡ number_of q = cc in ap Err (same_refusal r q n)
same_line (Err r) (Ok (Some f)) e = cc
same_line (Ok (Some f)) (Ok None) e = cc
same_line (Ok (Some f)) (Err r) e = cc
same_line (Ok (Some f)) (Ok (Some g)) e =
    let t : f ≡ g = cc in ap (λ x. Ok (Some x)) t

-- what readers of lines answer: `sheet`'s
pub same_reading : (a b : Result ℕ ReadError) → reading_of a ≡ reading_of b → a ≡ b
same_reading (Ok n) (Ok m) e = cc
same_reading (Ok n) (Err d) e = cc
same_reading (Err c) (Ok n) e = cc
same_reading (Err c) (Err d) e =
    let n : number_of c.refusal ≡ number_of d.refusal = cc in
    let t : c.refusal ≡ d.refusal = same_refusal c.refusal d.refusal n in
    let s : c.line ≡ d.line = cc in
    λ i. Err (record { refusal = t i; line = s i })

-- of `read_payload` the answer and the bytes that it leaves
pub same_payload : (kind : ℕ) (text entry s t : List ℕ) (a b : Bool) → PayloadRead kind text entry s a → PayloadRead kind text entry t b → (a ≡ b) × (s ≡ t)
same_payload kind text entry s t a b p q = (p.answer ∙ sym q.answer, p.left ∙ sym q.left)

pub same_frame : {size : Option ℕ} (a b : Option ℕ) → a ≡ size → b ≡ size → a ≡ b
same_frame a b p q = p ∙ sym q

pub same_written : (a b : Result ℕ Refusal) → answer_of a ≡ answer_of b → a ≡ b
same_written (Ok n) (Ok m) e = cc
same_written (Ok n) (Err r) e = cc
same_written (Err r) (Ok n) e = cc
same_written (Err r) (Err q) e = let n : number_of r ≡ number_of q = cc in ap Err (same_refusal r q n)

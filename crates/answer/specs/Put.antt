-- What a function that writes text at its place of a buffer leaves, and what room it asks for.
use Rattle.std.specs.Prelude.{ℕ, ◌+◌, ◌≤◌, ◌≡◌, List, [], length, Result, Ok, Err}
use Rattle.std.proofs.lemmas.List.Edits.{sets}
use Rattle.bmap.specs.declared.refusal.ReadError.{ReadError}
use Rattle.bmap.specs.Refusal.{number_of}
use Rattle.bmap.specs.Program.{refused_text}
use Rattle.answer.specs.declared.print.Text.{Text}

-- so many bytes from the place on
abbrev pub HasRoom : Text → ℕ → Type 0
HasRoom t size = t.at + size ≤ length t.out.now

-- the text from the old place on, the place after it within the buffer, and every other byte of the same buffer as it was
pub record Put (old : Text) (text : List ℕ) (new : Text) : Type 0 where
  pub same : new.out.ghost_name ≡ old.out.ghost_name
  pub size : length new.out.now ≡ length old.out.now
  pub place : new.at ≡ old.at + length text
  pub fits : new.at ≤ length new.out.now
  pub bytes : new.out.now ≡ sets old.out.now old.at text

-- the text, or nothing as yet where it is the line of a refusal
abbrev pub PutOr : Text → List ℕ → Result (Unit {0}) ReadError → Text → Type 0
PutOr old text (Ok u) new = Put old text new
PutOr old text (Err e) new = (text ≡ refused_text (number_of e.refusal) e.line) × Put old [] new

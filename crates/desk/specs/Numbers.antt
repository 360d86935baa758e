-- The numbers by which the calls for C and Rust answer, in the paper's terms, and what a caller reads from them.
use Rattle.std.specs.Prelude.{◌≡◌, ℕ, ◌+◌, ◌*◌, ◌/◌, ◌%◌, ◌^◌, Option, None, Some}
use Rattle.bmap.specs.Refusal.{Answer, got, refused, Reading, read, refused_at}
use Rattle.bmap.specs.Buffer.{bytes_written}
use Rattle.bmap.specs.Domain.{Domain}
use Rattle.bmap.specs.Accept.{counts_of}
use Rattle.bmap.specs.Judge.{Verdict, accepted, broken}
use Rattle.bmap.specs.Supplement.{Where, in_domain, in_supplement}
use Rattle.bmap.specs.Session.{Changed}
use Rattle.bmap.specs.declared.limits.Counts.{Counts}
use Rattle.bmap.specs.declared.session.Session.{Session}
use Rattle.supplement.specs.Force.{Stretch}

-- ---- an answer, 64 bits

-- where nothing is refused: what was found, in the lower 31
abbrev pub found_number : ℕ → ℕ
found_number n = n % 2 ^ 31

-- where something is refused: its number in the upper 32, bit 31, and what goes with it below: a line, or the number again. So the lower 32 alone tell the two apart
abbrev pub refused_number : ℕ → ℕ → ℕ
refused_number number with = number * 2 ^ 32 + (2 ^ 31 + with % 2 ^ 31)

-- ---- the answers

-- what a reader answers: the count, or the refusal and its line
abbrev pub read_number : Reading ℕ → ℕ
read_number (read count) = found_number count
read_number (refused_at number line) = refused_number number line

-- what a writer answers: "the bytes written, 0 if refused"
abbrev pub written_number : Answer ℕ → ℕ
written_number (got count) = found_number (bytes_written (got count))
written_number (refused number) = refused_number number (bytes_written (refused number))

-- 8 bits of a judgement: a fault's kind, or one of two numbers that are none
abbrev pub accepted_kind : ℕ
accepted_kind = 128

abbrev pub refused_kind : ℕ
refused_kind = 255

-- 8 bits each for kind, step and number
abbrev pub verdict_number : Verdict → ℕ
verdict_number accepted = accepted_kind * 2 ^ 16
verdict_number (broken kind step number) = kind * 2 ^ 16 + (step % 2 ^ 8 * 2 ^ 8 + number % 2 ^ 8)

-- what the judge answers: above the verdict, 7 bits for the number of states written; a refusal's number stands where a fault's would
abbrev pub judged_number : ℕ → Answer Verdict → ℕ
judged_number states (got verdict) = states % 2 ^ 7 * 2 ^ 24 + verdict_number verdict
judged_number states (refused number) = refused_number number (refused_kind * 2 ^ 16 + number)

-- how many agents, fluents, entries and laws, 8 bits each
abbrev pub four_bytes : Counts → ℕ
four_bytes n = n.agents * 2 ^ 24 + (n.fluents * 2 ^ 16 + (n.entries * 2 ^ 8 + n.laws))

-- a domain's counts
abbrev pub counts_number : Answer Domain → ℕ
counts_number (got d) = four_bytes (counts_of d)
counts_number (refused number) = refused_number number number

-- where a law's payload stands: a bit for the supplement, 16 for the place, 8 for the size
abbrev pub stands_number : Where → ℕ
stands_number (in_domain at) = at % 2 ^ 16 * 2 ^ 8
stands_number (in_supplement at) = 2 ^ 24 + at % 2 ^ 16 * 2 ^ 8

abbrev pub law_place_number : Answer Stretch → ℕ
law_place_number (got x) = stands_number x.stands + x.size % 2 ^ 8
law_place_number (refused number) = refused_number number number

-- a frame's size, 0 where there is none
abbrev pub size_number : Option ℕ → ℕ
size_number None = 0
size_number (Some size) = size

-- what a call on a session answers: 0, or the refusal
abbrev pub done_number : Answer (Unit {0}) → ℕ
done_number (got done) = 0
done_number (refused number) = refused_number number number

-- a lent session's call answers that number and leaves that session
abbrev pub answers : ℕ → Session → Changed → Type 0
answers number s changed = (number ≡ done_number changed.answer) × (s ≡ changed.session)

-- ---- what a caller reads, as include/waroth.h does

-- 0 where nothing is refused
abbrev pub refusal_in : ℕ → ℕ
refusal_in answer = answer / 2 ^ 32

-- what is left to a caller who keeps 32 bits, and its first bit: 1 in a refusal alone
abbrev pub lower_half : ℕ → ℕ
lower_half answer = answer % 2 ^ 32

abbrev pub mark_in : ℕ → ℕ
mark_in answer = answer / 2 ^ 31 % 2

-- a count, of what is not refused; a line, of what is
abbrev pub count_in : ℕ → ℕ
count_in answer = answer % 2 ^ 31

abbrev pub line_in : ℕ → ℕ
line_in answer = answer % 2 ^ 31

-- of a judgement

abbrev pub states_in : ℕ → ℕ
states_in answer = answer / 2 ^ 24 % 2 ^ 7

abbrev pub kind_in : ℕ → ℕ
kind_in answer = answer / 2 ^ 16 % 2 ^ 8

abbrev pub step_in : ℕ → ℕ
step_in answer = answer / 2 ^ 8 % 2 ^ 8

abbrev pub number_in : ℕ → ℕ
number_in answer = answer % 2 ^ 8

-- of a law in force: whether it stands in the supplement, its place and its size

pub record StretchIn (answer which at bytes : ℕ) : Type 0 where
  pub supplement : answer / 2 ^ 24 % 2 ≡ which
  pub place : answer / 2 ^ 8 % 2 ^ 16 ≡ at
  pub size : answer % 2 ^ 8 ≡ bytes

-- of a store's counts
pub record CountsIn (answer : ℕ) (n : Counts) : Type 0 where
  pub agents : answer / 2 ^ 24 % 2 ^ 8 ≡ n.agents
  pub fluents : answer / 2 ^ 16 % 2 ^ 8 ≡ n.fluents
  pub entries : answer / 2 ^ 8 % 2 ^ 8 ≡ n.entries
  pub laws : answer % 2 ^ 8 ≡ n.laws

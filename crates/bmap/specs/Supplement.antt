-- Document 02, K7: supplements, the laws that stand in for a domain's, and the law in force.
use Rattle.std.specs.Prelude.{ℕ, suc, ◌+◌, Bool, false, not, List, [], ◌∷◌, ◌++◌, map, eqb, leb, ltb, ℤ, length, get_or, take, drop}
use Rattle.std.proofs.Math.Option.{Option, none, some}
use Rattle.bmap.specs.Plain.{both, if_else, maybe, any, flat}
use Rattle.bmap.specs.Limits.{supplement_size, levels_size}
use Rattle.bmap.specs.Refusal.{Answer, got, need, known, then, Reading, read, at_line, afterwards}
use Rattle.bmap.specs.Line.{Frame, stored, executable_kind, effect_kind, supplement_kind}
use Rattle.bmap.specs.Domain.{Domain, Law, executable, effect, must}
use Rattle.bmap.specs.Payload.{byte, scope_kind, law_in}
use Rattle.bmap.specs.Accept.{counts_of}
use Rattle.bmap.specs.Buffer.{Filled, filled}
use Rattle.bmap.specs.Store.{frames_of, frames_in, stored_of, what_was_read, domain_in}
use Rattle.bmap.specs.Sheet.{sheet_of}
use Rattle.bmap.specs.Judge.{Judged, judge}
use Rattle.bmap.specs.Verdict.{Judgement, judgement}

-- ---- a supplement

-- "lines of kind AF, payload a law number, then the kind byte and payload of the law that stands in for it"
abbrev pub number_in : Frame → ℕ
number_in f = byte f.payload 0

abbrev pub kind_in : Frame → ℕ
kind_in f = byte f.payload 1

abbrev pub payload_in : Frame → List ℕ
payload_in f = drop 2 f.payload

-- such a line's frame, and the law that it says
pub record Replacement : Type 0 where
  pub frame : Frame
  pub law : Law

-- the number of the law that it replaces
abbrev pub replaces : Replacement → ℕ
replaces r = number_in r.frame

-- the replacement of a law number, where it has one
unfoldable pub replacement_of : List Replacement → ℕ → Option Replacement
replacement_of [] n = none
replacement_of (r ∷ rest) n = if_else (eqb (replaces r) n) (some r) (replacement_of rest n)

-- ---- the laws in force

-- the laws from number n on, each or what stands in for it
unfoldable pub in_force_from : List Replacement → ℕ → List Law → List Law
in_force_from s n [] = []
in_force_from s n (l ∷ laws) = maybe (replacement_of s n) l (λ r. r.law) ∷ in_force_from s (suc n) laws

-- "the domain with those laws replaced"
unfoldable pub replaced : List Replacement → Domain → Domain
replaced s d = record { agents = d.agents; fluents = d.fluents; knowledge = d.knowledge; entries = d.entries; laws = in_force_from s 0 d.laws }

-- ---- the reader

-- the law of a number, where the domain has it
abbrev pub law_numbered : Domain → ℕ → Option Law
law_numbered d n = get_or (map some d.laws) n none

-- "The new law has the same kind and, for A5 and A6, the same entry": an entry is the first byte of their payloads
abbrev pub stands_for : Frame → Law → Bool
stands_for f (executable e c) = both (eqb (kind_in f) executable_kind) (eqb (byte (payload_in f) 0) e)
stands_for f (effect e c g x) = both (eqb (kind_in f) effect_kind) (eqb (byte (payload_in f) 0) e)
stands_for f (must s c) = eqb (kind_in f) (scope_kind s)

-- "line by line 1, 2, 3 (any kind but AF), 20, 4", of which 1 and 2 are the line's own; "a payload under 3 bytes is 4, not 20". "20 is for
-- a law number not in the domain, a kind or entry that differs, or a law number given twice"
unfoldable pub replacement_in : Domain → List Replacement → Frame → Answer Replacement
replacement_in d earlier f =
    need (eqb f.kind supplement_kind) 3
    (need (leb 3 (length f.payload)) 4
    (need (maybe (law_numbered d (number_in f)) false (stands_for f)) 20
    (need (not (any (λ r. eqb (replaces r) (number_in f)) earlier)) 20
    (then (known 4 (law_in (counts_of d) (kind_in f) (payload_in f))) (λ l. got (record { frame = f; law = l }))))))

-- the replacements so far, and the lines after them: each line is one replacement
unfoldable pub supplement_from : Domain → List Replacement → List (Answer Frame) → Reading (List Replacement)
supplement_from d earlier [] = read earlier
supplement_from d earlier (f ∷ frames) =
    at_line (suc (length earlier)) (then f (replacement_in d earlier)) (λ r. supplement_from d (earlier ++ (r ∷ [])) frames)

-- "A supplement is read against an accepted domain into a store of at least 16,000 bytes, zeros after; the bytes used are returned.
-- Refusals: 10, then 15 for the domain (line 0), then line by line"
unfoldable pub read_supplement : List ℕ → List ℕ → List ℕ → Filled
read_supplement store text buffer =
    let bytes : List ℕ = flat (map stored_of (frames_of text)) in
    filled supplement_size buffer
    (at_line 0 (domain_in store) (λ d.
    afterwards (supplement_from d [] (frames_of text)) (λ s. read (record { count = length bytes; bytes = bytes }))))

-- 15: "also for a supplement store not accepted for this domain, zeros after"
unfoldable pub supplement_in : Domain → List ℕ → Answer (List Replacement)
supplement_in d s = known 15 (maybe (frames_in s) none (λ frames. what_was_read (supplement_from d [] (map got frames))))

-- ---- judging

-- "Judging with a supplement equals judging the domain with those laws replaced"; as a judge's, "10, 15, 8, 9"
abbrev pub sheet_judged_under : List ℕ → List ℕ → List ℕ → List ℤ → Answer Judged
sheet_judged_under store supplement sheet levels =
    need (leb levels_size (length levels)) 10
    (then (domain_in store) (λ d.
    then (supplement_in d supplement) (λ s.
    then (sheet_of d.agents sheet) (λ steps. got (judge (replaced s d) steps)))))

-- what that answers, and leaves in the levels buffer
unfoldable pub judge_under : List ℕ → List ℕ → List ℕ → List ℤ → Judgement
judge_under store supplement sheet levels = judgement levels (sheet_judged_under store supplement sheet levels)

-- ---- asking

-- "the bytes where they already stand … in domain or supplement": in which store, and at which place
pub data Where : Type 0 where
  in_domain : ℕ → Where
  in_supplement : ℕ → Where

pub record Part : Type 0 where
  pub stands : Where
  pub bytes : List ℕ

-- so many bytes that stand there
abbrev pub bytes_there : Where → ℕ → List ℕ → List ℕ → List ℕ
bytes_there (in_domain at) size store supplement = take size (drop at store)
bytes_there (in_supplement at) size store supplement = take size (drop at supplement)

-- "its payload alone": in a domain's frame after kind and count
abbrev pub is_law : Frame → Bool
is_law f = leb executable_kind f.kind

unfoldable pub law_parts : ℕ → List Frame → List Part
law_parts at [] = []
law_parts at (f ∷ frames) =
    let rest : List Part = law_parts (at + length (stored f)) frames in
    if_else (is_law f) (record { stands = in_domain (at + 2); bytes = f.payload } ∷ rest) rest

-- in a supplement's frame after kind, count, law number and kind
unfoldable pub replacement_part : ℕ → List Replacement → ℕ → Option Part
replacement_part at [] n = none
replacement_part at (r ∷ rest) n =
    if_else (eqb (replaces r) n) (some (record { stands = in_supplement (at + 4); bytes = payload_in r.frame }))
    (replacement_part (at + length (stored r.frame)) rest n)

-- a part that is no law's
abbrev pub no_part : Part
no_part = record { stands = in_domain 0; bytes = [] }

-- "For any law number, the law in force is handed out as the bytes where they already stand"; "15, before 20", which is also "for a law
-- asked for that the domain lacks"
unfoldable pub law_in_force : List ℕ → List ℕ → ℕ → Answer Part
law_in_force store supplement n =
    then (domain_in store) (λ d.
    then (supplement_in d supplement) (λ s.
    need (ltb n (length d.laws)) 20
    (got (maybe (replacement_part 0 s n) (get_or (maybe (frames_in store) [] (law_parts 0)) n no_part) (λ part. part)))))

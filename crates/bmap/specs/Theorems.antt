-- What is to be shown of the definitions: lines round-trip exactly, no text that is written is longer than the limits allow, 17 is exact, a session's sheet and verdict are those of its standing edits, and what document 02 asks for. Each is proved in the crate that it is about.
use Rattle.std.specs.Prelude.{ℕ, suc, ◌≤◌, ◌<◌, ◌+◌, ◌*◌, ◌/◌, ◌≡◌, ◌↔◌, ◌⊎◌, Bool, true, false, List, [], map, T, leb, ltb, ℤ, pos, nat_abs, ◌+ℤ◌, ◌-ℤ◌, ◌*ℤ◌, length, get_or, take, replicate}
use Rattle.std.proofs.Math.Option.{none, some}
use Rattle.std.specs.Int.Signed.{non_neg, le_z}
use Rattle.bmap.specs.Plain.{if_else, all, flat, maybe}
use Rattle.bmap.specs.Limits.{most_agents, most_fluents, most_knowledge, most_entries, most_laws, most_payload, most_change, most_steps, store_size, sheet_size, levels_size, supplement_size, report_input}
use Rattle.bmap.specs.Number.{Valued, value, no_value, in_bounds, bounded, operate}
use Rattle.bmap.specs.Tree.{Con, look_back}
use Rattle.bmap.specs.Meaning.{History, eval_c}
use Rattle.bmap.specs.Refusal.{got, refused, need, then, read}
use Rattle.bmap.specs.Line.{lines_of, line_size}
use Rattle.bmap.specs.Domain.{Domain, Fluent, Names, State, Law}
use Rattle.bmap.specs.Payload.{fluent_in, fluent_fits, kind_of, law_in}
use Rattle.bmap.specs.Accept.{counts_of}
use Rattle.bmap.specs.Buffer.{padded, over}
use Rattle.bmap.specs.Store.{frames_of, frames_in, reading, read_domain, text_of, write_domain, domain_in}
use Rattle.bmap.specs.Sheet.{steps_in, read_sheet, agents_known, sheet_of, step_line, write_sheet}
use Rattle.bmap.specs.Judge.{Judged, unless, in_range, fits, judge}
use Rattle.bmap.specs.Verdict.{judgement, judge_sheet}
use Rattle.bmap.specs.Supplement.{Replacement, replaces, replacement_of, replaced, law_numbered, supplement_from, read_supplement, supplement_in, judge_under, Part, bytes_there, law_parts, no_part, law_in_force}
use Rattle.bmap.specs.Laying.{ordered, winning, laid, bytes_of, lay_supplements, order_supplement}
use Rattle.bmap.specs.Program.{split, sheet_mark, supplemented, output, low_water}
use Rattle.bmap.specs.Report.{report}
use Rattle.bmap.specs.Session.{is_open, CouldBeLeft, Call, opened, after, replies, standing_sheet, replayed, layout, open_session, verdict_of}
use Rattle.bmap.specs.Series.{session_after, replies_of}
use Rattle.bmap.specs.declared.Reason.{Reason}
use Rattle.bmap.specs.declared.Reason.TheVariants.{ZeroDivisor}
use Rattle.bmap.specs.declared.Operation.TheVariants.{Quotient, Remainder}
use Rattle.bmap.specs.declared.Junction.{Junction}
use Rattle.bmap.specs.declared.Junction.TheVariants.{And, Or}
use Rattle.bmap.specs.declared.session.Session.{Session}

-- what a lent buffer of bytes holds
abbrev pub AreBytes : List ℕ → Type 0
AreBytes l = T (all (λ x. ltb x 256) l)

-- accepted lines, read and written again, are the same lines
abbrev pub DomainLinesReturn : Type 0
DomainLinesReturn =
    (lines store text : List ℕ) (d : Domain) →
    reading lines ≡ read d → store_size ≤ length store → length lines ≤ length text →
    write_domain (read_domain lines store).buffer text ≡ record { answer = got (length lines); buffer = over lines text }

-- an accepted domain, written and read again, is the same bytes, zeros after
abbrev pub DomainReturns : Type 0
DomainReturns =
    (store text new : List ℕ) (n : ℕ) → AreBytes store → (write_domain store text).answer ≡ got n → store_size ≤ length new →
    (bytes : List ℕ) × (store ≡ padded (length store) bytes)
    × (read_domain (take n (write_domain store text).buffer) new ≡ record { answer = read (length bytes); buffer = padded (length new) bytes })

abbrev pub SheetLinesReturn : Type 0
SheetLinesReturn =
    (agents : ℕ) (lines buffer text : List ℕ) (steps : List Names) →
    steps_in agents lines ≡ read steps → sheet_size ≤ length buffer → length lines ≤ length text →
    write_sheet (take (length steps * agents) (read_sheet agents lines buffer).buffer) agents text
    ≡ record { answer = got (length lines); buffer = over lines text }

abbrev pub SheetReturns : Type 0
SheetReturns =
    (agents : ℕ) (sheet text buffer : List ℕ) (n : ℕ) →
    AreBytes sheet → (write_sheet sheet agents text).answer ≡ got n → sheet_size ≤ length buffer →
    read_sheet agents (take n (write_sheet sheet agents text).buffer) buffer
    ≡ record { answer = read (length sheet / agents); buffer = padded (length buffer) sheet }

-- one A1 of 1 byte, and the most A2 of 8 (K6), A3 of 3, A4 of 3 and laws of the most bytes that a payload has
abbrev pub longest_domain : ℕ
longest_domain = line_size 1 + most_fluents * line_size 8 + most_knowledge * line_size 3 + most_entries * line_size 3 + most_laws * line_size most_payload

-- no text of an accepted domain is longer, so a buffer of that length is never refused by 10: the writer writes, or refuses by 15
pub record DomainTextFits : Type 0 where
  pub most : (store : List ℕ) (d : Domain) → domain_in store ≡ got d → length (text_of store) ≤ longest_domain
  pub room : (store text : List ℕ) (n : ℕ) → longest_domain ≤ length text → (write_domain store text).answer ≡ refused n → n ≡ 15

-- the most steps of the most agents
abbrev pub longest_sheet : ℕ
longest_sheet = most_steps * line_size most_agents

-- no text of a sheet is longer, so a buffer of that length is never refused by 10: the writer writes, or refuses by 4, 8 or 9
pub record SheetTextFits : Type 0 where
  pub most : (agents : ℕ) (sheet : List ℕ) (steps : List Names) → agents_known agents (sheet_of agents sheet) ≡ got steps → length (flat (map step_line steps)) ≤ longest_sheet
  pub room : (agents : ℕ) (sheet text : List ℕ) (n : ℕ) → longest_sheet ≤ length text → (write_sheet sheet agents text).answer ≡ refused n → (n ≡ 4) ⊎ (n ≡ 8) ⊎ (n ≡ 9)

-- the test for 17 decides what an accepted opening and calls after it could leave
abbrev pub OpenExactly : Type 0
OpenExactly = (s : Session) → (is_open s ≡ true) ↔ CouldBeLeft s

-- demand 3 in words: the session's sheet is what an empty sheet becomes when the standing edits are done in order, and its verdict
-- is the judge's, after any accepted opening and any calls, refused ones among them
pub record SheetStands (store : List ℕ) (d : Domain) (calls : List Call) : Type 0 where
  -- the session that they leave, their replies, and its sheet
  pub opens : (open_session store).answer ≡ got tt
  pub leaves : session_after calls (open_session store).session ≡ layout (after calls (opened d))
  pub answers : replies_of calls (open_session store).session ≡ replies calls (opened d)
  pub sheet : replayed d.agents (after calls (opened d)).standing [] ≡ got (standing_sheet (after calls (opened d)))
  -- every verdict of it
  pub verdicts : (other : List ℕ) (e : Domain) (levels : List ℤ) → domain_in other ≡ got e → e.agents ≡ d.agents → levels_size ≤ length levels
      → verdict_of (session_after calls (open_session store).session) other levels ≡ judgement levels (got (judge e (standing_sheet (after calls (opened d)))))

abbrev pub SheetsStand : Type 0
SheetsStand = (store : List ℕ) (d : Domain) (calls : List Call) → domain_in store ≡ got d → SheetStands store d calls

-- ---- K1

-- what is read decides: the bytes after so many change no report
abbrev pub RestUnread : Type 0
RestUnread = (input : List ℕ) → report (take report_input input) ≡ report input

-- ---- K3

-- "gives": a by b, as quotient and remainder
pub record Gives (a b : ℤ) (q r : Valued ℤ) : Type 0 where
  pub quotient : operate Quotient a b ≡ q
  pub remainder : operate Remainder a b ≡ r

-- "Dividend equals quotient × divisor + remainder wherever both have values"
abbrev pub DivisionReturns : Type 0
DivisionReturns = (a b q r : ℤ) → Gives a b (value q) (value r) → a ≡ q *ℤ b +ℤ r

-- what a divisor b may leave: "the remainder takes the divisor's sign or is 0", and it is smaller in size than the divisor
pub record Leaves (b r : ℤ) : Type 0 where
  pub signed : (non_neg r ≡ non_neg b) ⊎ (r ≡ pos 0)
  pub smaller : nat_abs r < nat_abs b

abbrev pub RemainderLeft : Type 0
RemainderLeft = (a b r : ℤ) → operate Remainder a b ≡ value r → Leaves b r

-- together they fix both: two numbers for which they hold are the quotient and the remainder, without value where beyond the range
abbrev pub DivisionFixed : Type 0
DivisionFixed = (a b q r : ℤ) → a ≡ q *ℤ b +ℤ r → Leaves b r → Gives a b (bounded q) (bounded r)

-- n is at most a by b, multiplied out: a negative divisor turns it round
abbrev pub not_above : ℤ → ℤ → ℤ → Bool
not_above n a b = if_else (non_neg b) (le_z (n *ℤ b) a) (le_z a (n *ℤ b))

-- "The quotient is to be rounded down": it is the greatest whole number that is not above dividend by divisor
abbrev pub QuotientDown : Type 0
QuotientDown = (a b q : ℤ) → operate Quotient a b ≡ value q → (n : ℤ) → le_z n q ≡ not_above n a b

-- "wherever both have values": of two numbers in the range, unless the divisor is 0
pub record DivisionValued : Type 0 where
  pub values : (a b : ℤ) → in_bounds a ≡ true → in_bounds b ≡ true → (b ≡ pos 0 → ⊥) → (q : ℤ) × (r : ℤ) × Gives a b (value q) (value r)
  pub none : (a : ℤ) → Gives a (pos 0) (no_value ZeroDivisor) (no_value ZeroDivisor)

-- ---- K4

-- what a constraint gives "at every position from 0 to the present one", j
abbrev pub AtEvery : Con → History → ℕ → Bool → Type 0
AtEvery c h j b = (i : ℕ) → i ≤ j → eval_c c h i ≡ value b

-- what it gives "at one or more of them", where each of them has a value
pub record AtOneOrMore (c : Con) (h : History) (j : ℕ) (b : Bool) : Type 0 where
  pub position : ℕ
  pub so_far : position ≤ j
  pub gives : eval_c c h position ≡ value b
  pub values : (i : ℕ) → i ≤ j → (a : Bool) × (eval_c c h i ≡ value a)

-- "the earliest position's": a position without value for this reason, and those before it have values
pub record Earliest (c : Con) (h : History) (j : ℕ) (why : Reason) : Type 0 where
  pub position : ℕ
  pub so_far : position ≤ j
  pub lacks : eval_c c h position ≡ no_value why
  pub before : (i : ℕ) → i < position → (a : Bool) × (eval_c c h i ≡ value a)

-- K4's sentences, of a constraint at any position of any history
pub record LooksBack (c : Con) (h : History) (j : ℕ) : Type 0 where
  -- "2B, its constraint held at every position from 0 to the present one"; false where each has a value and one or more is false
  pub every : (eval_c (look_back And c) h j ≡ value true) ↔ AtEvery c h j true
  pub not_every : (eval_c (look_back And c) h j ≡ value false) ↔ AtOneOrMore c h j false
  -- "and 2C, at one or more of them"; false where each is false
  pub one_or_more : (eval_c (look_back Or c) h j ≡ value true) ↔ AtOneOrMore c h j true
  pub none : (eval_c (look_back Or c) h j ≡ value false) ↔ AtEvery c h j false
  -- "Every position is read, so one without a value leaves the whole without value"
  pub without : (o : Junction) (i : ℕ) (why : Reason) → i ≤ j → eval_c c h i ≡ no_value why → (r : Reason) × (eval_c (look_back o c) h j ≡ no_value r)
  -- "where K2's two reasons occur, the earliest position's is given"
  pub lacks : (o : Junction) (why : Reason) → (eval_c (look_back o c) h j ≡ no_value why) ↔ Earliest c h j why

abbrev pub LookBackRead : Type 0
LookBackRead = (c : Con) (h : History) (j : ℕ) → LooksBack c h j

-- ---- K6

-- of a sheet judged, the level of fluent f in state k
abbrev pub level_in : Judged → ℕ → ℕ → ℤ
level_in r k f = get_or (get_or r.states k []) f (pos 0)

-- "frames of 6 bytes stay valid and mean no such limit"; "8 payload bytes, the last two being the largest change allowed in one step,
-- 1 to 32,767"
abbrev pub LimitIs : List ℕ → Type 0
LimitIs p = ((length p ≡ 6) × ((fluent_in p).limit ≡ 0)) ⊎ ((length p ≡ 8) × ((1 ≤ (fluent_in p).limit) × ((fluent_in p).limit ≤ most_change)))

pub record ChangesKept : Type 0 where
  -- of every A2 that is taken
  pub lengths : (p : List ℕ) → fluent_fits p ≡ true → LimitIs p
  -- where fluent f has a limit, it changes by no more from any state that a judgement writes to the next, "in either direction"
  pub steps : (d : Domain) (sheet : List Names) (k f : ℕ) (x : Fluent) → suc k < length (judge d sheet).states → f < length d.fluents → 1 ≤ (get_or d.fluents f x).limit
      → nat_abs (level_in (judge d sheet) (suc k) f -ℤ level_in (judge d sheet) k f) ≤ (get_or d.fluents f x).limit
  -- where it has none, nothing but its range is asked
  pub unlimited : (old new : State) (f : ℕ) (x : Fluent) → x.limit ≡ 0 → fits old new f x ≡ unless 5 f (in_range x (get_or new f (pos 0)))

-- ---- K7

-- "an empty supplement changes nothing": no replacement, no bytes, or only zeros
pub record EmptyChangesNothing : Type 0 where
  pub laws : (d : Domain) → replaced [] d ≡ d
  pub accepted : (d : Domain) (zeros : ℕ) → supplement_in d (replicate zeros 0) ≡ got []
  pub judged : (store sheet : List ℕ) (levels : List ℤ) (zeros : ℕ) → judge_under store (replicate zeros 0) sheet levels ≡ judge_sheet store sheet levels
  -- the law asked for is the domain's own
  pub asked : (store : List ℕ) (zeros n : ℕ)
      → law_in_force store (replicate zeros 0) n ≡ then (domain_in store) (λ d. need (ltb n (length d.laws)) 20 (got (get_or (maybe (frames_in store) [] (law_parts 0)) n no_part)))

-- what was read is accepted: the supplement that the lines are
abbrev pub SupplementStands : Type 0
SupplementStands =
    (store text buffer : List ℕ) (d : Domain) (s : List Replacement) →
    domain_in store ≡ got d → supplement_from d [] (frames_of text) ≡ read s → supplement_size ≤ length buffer →
    supplement_in d (read_supplement store text buffer).buffer ≡ got s

-- its frames written as lines are the same lines, which read again are the same bytes
abbrev pub SupplementLinesReturn : Type 0
SupplementLinesReturn =
    (store text buffer : List ℕ) (d : Domain) (s : List Replacement) →
    domain_in store ≡ got d → supplement_from d [] (frames_of text) ≡ read s → supplement_size ≤ length buffer →
    text_of (read_supplement store text buffer).buffer ≡ text

-- the law in force that is handed out is the one by which a sheet is judged, never without bytes, and it stands where it is said to
pub record JudgedBy (store supplement : List ℕ) (d : Domain) (s : List Replacement) (n : ℕ) (part : Part) (l : Law) : Type 0 where
  pub law : law_numbered (replaced s d) n ≡ some l
  pub says : law_in (counts_of d) (kind_of l) part.bytes ≡ some l
  pub some_bytes : 0 < length part.bytes
  pub there : bytes_there part.stands (length part.bytes) store supplement ≡ part.bytes

abbrev pub InForceJudged : Type 0
InForceJudged =
    (store supplement : List ℕ) (d : Domain) (s : List Replacement) (n : ℕ) (part : Part) →
    domain_in store ≡ got d → supplement_in d supplement ≡ got s → law_in_force store supplement n ≡ got part →
    (l : Law) × JudgedBy store supplement d s n part l

-- `low_water` prints as `waroth` does where no line before the sheet starts "AF"
abbrev pub LowWaterAlike : Type 0
LowWaterAlike = (input : List ℕ) → (supplemented (split sheet_mark (lines_of input))).from ≡ [] → low_water input ≡ output input

-- ---- K8

-- two supplements that one domain accepts
pub record Supplements (store lower upper : List ℕ) (d : Domain) (l u : List Replacement) : Type 0 where
  pub domain : domain_in store ≡ got d
  pub below : supplement_in d lower ≡ got l
  pub above : supplement_in d upper ≡ got u

-- "ordered by law number": each number is lower than those after it, so that none is there twice
abbrev pub Rising : List Replacement → Type 0
Rising s = (i j : ℕ) → i < j → j < length s → get_or (map replaces s) i 0 < get_or (map replaces s) j 0

-- "keeps each law number of either, the upper one winning; the result is ordered by law number"
pub record Lays (l u r : List Replacement) : Type 0 where
  pub keeps : (n : ℕ) → replacement_of r n ≡ winning l u n
  pub rising : Rising r

-- the result is again a supplement that the domain accepts, in the whole buffer and in the bytes used alone; it always fits
pub record LaidAgain (store lower upper result : List ℕ) (d : Domain) (l u : List Replacement) : Type 0 where
  -- the two sentences fix it
  pub lays : Lays l u (laid l u)
  pub fixed : (r : List Replacement) → Lays l u r → r ≡ laid l u
  pub fits : length (bytes_of (laid l u)) ≤ supplement_size
  pub answer : (lay_supplements store lower upper result).answer ≡ got (length (bytes_of (laid l u)))
  pub whole : supplement_in d (lay_supplements store lower upper result).buffer ≡ got (laid l u)
  pub used : supplement_in d (take (length (bytes_of (laid l u))) (lay_supplements store lower upper result).buffer) ≡ got (laid l u)

abbrev pub LaidAccepted : Type 0
LaidAccepted =
    (store lower upper result : List ℕ) (d : Domain) (l u : List Replacement) →
    Supplements store lower upper d l u → supplement_size ≤ length result → LaidAgain store lower upper result d l u

-- what ordering is: the same replacement of each number, the numbers rising, and what is ordered stays as it is; and that it changes no
-- law in force, neither the law that is handed out nor a judgement
pub record Orders (store supplement result : List ℕ) (d : Domain) (s : List Replacement) : Type 0 where
  pub same : (n : ℕ) → replacement_of (ordered s) n ≡ replacement_of s n
  pub rising : Rising (ordered s)
  pub stays : Rising s → ordered s ≡ s
  pub laws : replaced (ordered s) d ≡ replaced s d
  pub whole : supplement_in d (order_supplement store supplement result).buffer ≡ got (ordered s)
  pub asked : (n : ℕ) → then (law_in_force store (order_supplement store supplement result).buffer n) (λ p. got p.bytes) ≡ then (law_in_force store supplement n) (λ p. got p.bytes)
  pub judged : (sheet : List ℕ) (levels : List ℤ) → judge_under store (order_supplement store supplement result).buffer sheet levels ≡ judge_under store supplement sheet levels

abbrev pub OrderedOrders : Type 0
OrderedOrders =
    (store supplement result : List ℕ) (d : Domain) (s : List Replacement) →
    domain_in store ≡ got d → supplement_in d supplement ≡ got s → supplement_size ≤ length result → Orders store supplement result d s

-- "laying three gives the same whichever pair is laid first": of supplements, and of the calls, every byte and the answer, wherever
-- both pairs are laid
pub record LayingAssociates : Type 0 where
  pub supplements : (a b c : List Replacement) → laid (laid a b) c ≡ laid a (laid b c)
  pub calls : (store a b c first second result : List ℕ) (m n : ℕ)
      → (lay_supplements store a b first).answer ≡ got m → (lay_supplements store b c second).answer ≡ got n
      → lay_supplements store (lay_supplements store a b first).buffer c result ≡ lay_supplements store a (lay_supplements store b c second).buffer result

-- "laying the empty one over or under another only orders it": for a refusal too
pub record EmptyOnlyOrders : Type 0 where
  pub supplements : (s : List Replacement) → (laid s [] ≡ ordered s) × (laid [] s ≡ ordered s)
  pub over : (store supplement result : List ℕ) (zeros : ℕ) → lay_supplements store supplement (replicate zeros 0) result ≡ order_supplement store supplement result
  pub under : (store supplement result : List ℕ) (zeros : ℕ) → lay_supplements store (replicate zeros 0) supplement result ≡ order_supplement store supplement result

-- "one laid over itself is itself once ordered"
pub record OverItself : Type 0 where
  pub supplements : (s : List Replacement) → laid s s ≡ ordered s
  pub calls : (store supplement result : List ℕ) → lay_supplements store supplement supplement result ≡ order_supplement store supplement result

-- "it does not matter which of two without a common number is the upper"
abbrev pub Apart : List Replacement → List Replacement → Type 0
Apart a b = (n : ℕ) → (replacement_of a n ≡ none) ⊎ (replacement_of b n ≡ none)

pub record ApartCommutes : Type 0 where
  pub supplements : (a b : List Replacement) → Apart a b → laid a b ≡ laid b a
  pub calls : (store lower upper result : List ℕ) (d : Domain) (l u : List Replacement) → Supplements store lower upper d l u → Apart l u
      → lay_supplements store lower upper result ≡ lay_supplements store upper lower result

-- "Judging a domain under the combined supplement equals judging the domain, first replaced by the lower and then by the upper, for
-- any two that the domain accepts": the domain replaced by the lower accepts what it accepted before, and so the upper
pub record InTurn (store lower upper result : List ℕ) (d : Domain) (l u : List Replacement) : Type 0 where
  pub alike : (other : List ℕ) → supplement_in (replaced l d) other ≡ supplement_in d other
  pub laws : replaced (laid l u) d ≡ replaced u (replaced l d)
  pub judged : (sheet : List ℕ) (levels : List ℤ)
      → judge_under store (lay_supplements store lower upper result).buffer sheet levels
      ≡ judgement levels (need (leb levels_size (length levels)) 10 (then (sheet_of d.agents sheet) (λ steps. got (judge (replaced u (replaced l d)) steps))))

abbrev pub JudgedUnderBoth : Type 0
JudgedUnderBoth =
    (store lower upper result : List ℕ) (d : Domain) (l u : List Replacement) →
    Supplements store lower upper d l u → supplement_size ≤ length result → InTurn store lower upper result d l u

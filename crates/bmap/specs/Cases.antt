-- The cases of document 01: those marked with a star in one list, with K3's three figures in the place of the one that it changes, the
-- others in a second; beside them what they leave open, and the sentences of document 02. Five statements here, since one may compute
-- only so much, and a sixth, of the long texts, in `theorems`.
use Rattle.std.specs.Prelude.{ℕ, ◌+◌, ◌≡◌, refl, Bool, true, false, List, [], ◌∷◌, ◌++◌, map, ℤ, pos, negsuc, eqb, length, take, replicate}
use Prim.Native.String.{String}
use Rattle.bmap.specs.Plain.{any, all, those, flat, numbers, text}
use Rattle.bmap.specs.Limits.{begins_size, report_input}
use Rattle.bmap.specs.Number.{Valued, value, no_value, bounded, operate, apart, signed_word}
use Rattle.bmap.specs.Tree.{Expr, Con, constant, fluent, two, one, reified, compared, joined, negated, occurs, always, look_back, named_e, named_c, allowed_e, allowed_c}
use Rattle.bmap.specs.Meaning.{History, up_to, eval_e, eval_c}
use Rattle.bmap.specs.Code.{Code, expression, constraint, no_code, code_of, parse_e, parse_c}
use Rattle.bmap.specs.Line.{lines_of, starts_with, digit, bytes, framed, decode, digit_for, hex, line_for}
use Rattle.bmap.specs.Domain.{Names, occurs_in, known_to, readable}
use Rattle.bmap.specs.Payload.{mask_fits, agents_fit, limit_fits, fluent_fits, knowledge_fits, entry_fits, executable_in, effect_in, must_in, law_in, item_in}
use Rattle.bmap.specs.Refusal.{Answer, Reading, read, refused_at, got, refused, or_else, then}
use Rattle.bmap.specs.Accept.{in_order, room, fresh, checked, accept, complete, taken_from}
use Rattle.bmap.specs.Sheet.{step_of, steps_from, steps_in, read_sheet, rows, sheet_of}
use Rattle.bmap.specs.Buffer.{Filled, Written}
use Rattle.bmap.specs.Store.{read_domain, stands_at, frame_at, frames_from, domain_in, Started, start, Next, next_frame, write_domain}
use Rattle.bmap.specs.Verdict.{Judgement, judge_sheet}
use Rattle.bmap.specs.Judge.{Judged, accepted, broken, each_from, history, holds, carries, placed, permits, permitted, may_occur, sets, settled, level_after, state_after, fits, landed, step, carried, ran, judge}
use Rattle.bmap.specs.Session.{enter, strike, amend, edited, replayed, standing_sheet, edit, undo, redo, verdict, Call, editing, undoing, redoing, Reply, done, turn, after, replies, logged_all, layout, Changed, open_session}
use Rattle.bmap.specs.Supplement.{replacement_of, in_force_from, replaced, replacement_in, supplement_from, read_supplement, supplement_in, judge_under, in_domain, in_supplement, Part, law_parts, replacement_part, law_in_force}
use Rattle.bmap.specs.Laying.{by_number, ordered, laid, bytes_of, both_laid, lay_supplements, order_supplement}
use Rattle.bmap.specs.Program.{digits_of, spaced, state_lines, split, output, low_water}
use Rattle.bmap.specs.Report.{sheet_begins, texts_of, lowest_of, highest_of, sum_of, sheets_from, report}
use Rattle.bmap.specs.River.{p, judged_under, gives}
use Rattle.bmap.specs.declared.Reason.{Reason}
use Rattle.bmap.specs.declared.Reason.TheVariants.{ZeroDivisor, OutOfRange}
use Rattle.bmap.specs.declared.Operation.{Operation}
use Rattle.bmap.specs.declared.Operation.TheVariants.{Sum, Difference, Product, Quotient, Remainder}
use Rattle.bmap.specs.declared.Single.TheVariants.{Negation, Absolute}
use Rattle.bmap.specs.declared.Comparison.{Comparison}
use Rattle.bmap.specs.declared.Comparison.TheVariants.{Equal, Unequal, Less, AtMost, Greater, AtLeast}
use Rattle.bmap.specs.declared.Junction.{Junction}
use Rattle.bmap.specs.declared.Junction.TheVariants.{And, Or}
use Rattle.bmap.specs.declared.session.Session.{Session}

-- one case: two things of a type that are to be equal
pub record Case : Type 1 where
  pub Of : Type 0
  pub left : Of
  pub right : Of

abbrev sheet : List Names → Reading Judged → Case
sheet steps r = record { Of = Reading Judged; left = judged_under p steps; right = r }

abbrev number : Valued ℤ → Valued ℤ → Case
number v w = record { Of = Valued ℤ; left = v; right = w }

-- quotient and remainder of a by b
abbrev quotients : ℤ → ℤ → ℤ → ℤ → Case
quotients a b q r = record { Of = Valued ℤ × Valued ℤ; left = (operate Quotient a b, operate Remainder a b); right = (value q, value r) }

abbrev prints : List ℕ → List ℕ → Case
prints input out = record { Of = List ℕ; left = output input; right = out }

abbrev first : Names
first = 1 ∷ 0 ∷ []

-- a history whose state k has level 300 + k
abbrev rising : History
rising = record { level = λ k f. pos (300 + k); occurred = λ e k. false }

abbrev pub starred : List Case
starred =
    sheet [] (gives (300 ∷ []) accepted)
    ∷ sheet (first ∷ []) (gives (300 ∷ 286 ∷ []) accepted)
    ∷ sheet (first ∷ (0 ∷ 2 ∷ []) ∷ []) (gives (300 ∷ 286 ∷ 280 ∷ []) accepted)
    ∷ sheet ((1 ∷ 2 ∷ []) ∷ []) (gives (300 ∷ []) (broken 4 1 3))
    ∷ sheet ((2 ∷ 0 ∷ []) ∷ []) (gives (300 ∷ []) (broken 1 1 0))
    ∷ sheet ((9 ∷ 0 ∷ []) ∷ []) (gives (300 ∷ []) (broken 1 1 0))
    ∷ sheet (first ∷ first ∷ []) (gives (300 ∷ 286 ∷ 272 ∷ []) (broken 8 2 4))
    ∷ sheet (first ∷ first ∷ first ∷ first ∷ first ∷ first ∷ []) (gives (300 ∷ 286 ∷ 272 ∷ 258 ∷ 244 ∷ 230 ∷ 216 ∷ []) (broken 8 6 4))
    ∷ sheet (first ∷ first ∷ first ∷ first ∷ first ∷ first ∷ first ∷ []) (gives (300 ∷ 286 ∷ 272 ∷ 258 ∷ 244 ∷ 230 ∷ 216 ∷ []) (broken 2 7 0))
    -- K3: "−7 by 2 gives −4 and 1; 7 by −2 gives −4 and −1; −8 by 2 gives −4 and 0"
    ∷ quotients (negsuc 6) (pos 2) (negsuc 3) (pos 1)
    ∷ quotients (pos 7) (negsuc 1) (negsuc 3) (negsuc 0)
    ∷ quotients (negsuc 7) (pos 2) (negsuc 3) (pos 0)
    ∷ number (operate Quotient (pos 5) (pos 0)) (no_value ZeroDivisor)
    ∷ number (operate Remainder (pos 5) (pos 0)) (no_value ZeroDivisor)
    ∷ number (operate Product (pos 31_622) (pos 31_622)) (value (pos 999_950_884))
    ∷ number (operate Product (pos 31_623) (pos 31_623)) (no_value OutOfRange)
    ∷ number (eval_e (fluent 0 3) rising 0) (value (pos 300))
    ∷ []

abbrev pub others : List Case
others =
    prints (p ++ text "B1020100\nB1020002\n") (text "S 0 300\nS 1 286\nS 2 280\nACCEPTED\n")
    ∷ prints p (text "S 0 300\nACCEPTED\n")
    ∷ prints (text "a10102\n") (text "REFUSED 1 1\n")
    ∷ prints [] (text "REFUSED 7 0\n")
    ∷ prints (p ++ text "B1020102\n") (text "S 0 300\nBROKEN 4 1 3\n")
    ∷ prints (p ++ text "B1020100\nB10101\n") (text "REFUSED 8 12\n")
    ∷ []

-- one fluent, one entry of agent 0 that may always occur; two pairs that share agent 1; two fluents and three agents
abbrev pool : List ℕ
pool = text "A10102\nA20600C80140012C\nA403010001\nA502002A\n"

abbrev crews : List ℕ
crews = text "A10103\nA20600C80140012C\nA403010003\nA403010006\nA502002A\nA502012A\n"

abbrev gauge : List ℕ
gauge = text "A10103\nA20600C80140012C\nA206000000010001\n"

-- what P's cases leave open
abbrev pub edges : List Case
edges =
    -- a line of one byte has no count byte
    prints (text "A1\n") (text "REFUSED 2 1\n")
    -- a carriage return is a bad character
    ∷ prints (text "A10102\r\n") (text "REFUSED 1 1\n")
    -- a second A1
    ∷ prints (text "A10102\nA10102\n") (text "REFUSED 5 2\n")
    -- a second A1 after an A2
    ∷ prints (text "A10102\nA20600C80140012C\nA10102\n") (text "REFUSED 3 3\n")
    -- a mask with an unknown agent
    ∷ prints (text "A10102\nA20600C80140012C\nA303000007\n") (text "REFUSED 4 3\n")
    -- an entry again
    ∷ prints (text "A10102\nA20600C80140012C\nA403010001\nA403010001\n") (text "REFUSED 6 4\n")
    -- an entry without A5
    ∷ prints (text "A10102\nA20600C80140012C\nA403010001\n") (text "REFUSED 7 3\n")
    -- 16 deep
    ∷ prints (pool ++ text "A8102828282828282828282828282828282A\n") (text "S 0 300\nACCEPTED\n")
    -- 17 deep
    ∷ prints (pool ++ text "A811282828282828282828282828282828282A\n") (text "REFUSED 4 5\n")
    -- code 29 in A7, under code 19
    ∷ prints (pool ++ text "A7082519290000100000\n") (text "REFUSED 4 5\n")
    -- lag 64
    ∷ prints (pool ++ text "A80725110040100000\n") (text "REFUSED 4 5\n")
    -- a code that is none
    ∷ prints (pool ++ text "A8022D2A\n") (text "REFUSED 4 5\n")
    -- the sheet's first line without LF
    ∷ prints (pool ++ text "B1020100") (text "REFUSED 1 5\n")
    -- a kind that is not B1 in a sheet
    ∷ prints (pool ++ text "B1020000\nA10102\n") (text "REFUSED 3 6\n")
    -- code 29 with lag 2 sees step 1 in step 3
    ∷ prints (pool ++ text "A80428290002\nB1020100\nB1020000\nB1020000\nB1020000\n") (text "S 0 300\nS 1 300\nS 2 300\nBROKEN 3 3 1\n")
    -- lag 3 reads state 0 up to position 3
    ∷ prints (pool ++ text "A60A002A0012110000100001\nA7072011000310012C\nB1020100\nB1020100\nB1020100\nB1020100\nB1020100\n") (text "S 0 300\nS 1 301\nS 2 302\nS 3 303\nBROKEN 6 4 2\n")
    -- two laws that set the same value
    ∷ prints (pool ++ text "A606002A0010012B\nA606002A0010012B\nB1020100\n") (text "S 0 300\nS 1 299\nACCEPTED\n")
    -- a value, the same, a differing one
    ∷ prints (pool ++ text "A606002A0010012B\nA606002A0010012B\nA606002A0010012C\nB1020100\n") (text "S 0 300\nBROKEN 4 1 3\n")
    -- or reads both sides
    ∷ prints (pool ++ text "A80D272A2015100001100000100000\nB1020000\n") (text "S 0 300\nBROKEN 7 1 1\n")
    -- check 2 before check 3
    ∷ prints (text "A10102\nA20600C80140012C\nA403010001\nA50300282A\nA802282A\nB1020100\n") (text "S 0 300\nBROKEN 2 1 0\n")
    -- check 3 before check 4
    ∷ prints (pool ++ text "A60A002A0015100001100000\nA802282A\nB1020100\n") (text "S 0 300\nBROKEN 3 1 2\n")
    -- check 4 before check 5
    ∷ prints (pool ++ text "A606002A0010FFFF\nA606002A0010FFFE\nB1020100\n") (text "S 0 300\nBROKEN 4 1 2\n")
    -- check 5 before check 6
    ∷ prints (pool ++ text "A606002A0010FFFF\nA70725110000100000\nB1020100\n") (text "S 0 300\nBROKEN 5 1 0\n")
    -- a value beyond 16 bits
    ∷ prints (pool ++ text "A60A002A0014100400107FFF\nB1020100\n") (text "S 0 300\nBROKEN 5 1 0\n")
    -- a static law on the new state
    ∷ prints (pool ++ text "A606002A00100100\nA70724110000100100\nB1020100\n") (text "S 0 300\nBROKEN 6 1 2\n")
    -- a static law at step 0
    ∷ prints (pool ++ text "A702282A\nB1020000\n") (text "BROKEN 6 0 1\n")
    -- a goal without value
    ∷ prints (pool ++ text "A90B2015100001100000100000\nB1020000\n") (text "S 0 300\nS 1 300\nBROKEN 7 1 1\n")
    -- effects by the values before the step
    ∷ prints (text "A10101\nA206000000090001\nA206000000090002\nA403010001\nA502002A\nA606002A00110100\nA606002A01110000\nB10101\n") (text "S 0 1 2\nS 1 2 1\nACCEPTED\n")
    -- a joint action that one of its crew names
    ∷ prints (crews ++ text "B103010000\n") (text "S 0 300\nBROKEN 1 1 0\n")
    -- shared members
    ∷ prints (crews ++ text "B103010101\n") (text "S 0 300\nS 1 300\nACCEPTED\n")
    -- a fluent known to nobody in the crew
    ∷ prints (gauge ++ text "A303010004\nA403010003\nA5080025110100100000\nB103010100\n") (text "S 0 300 1\nBROKEN 2 1 0\n")
    -- a fluent known to one of the crew
    ∷ prints (gauge ++ text "A303010002\nA403010003\nA5080025110100100000\nB103010100\n") (text "S 0 300 1\nS 1 300 1\nACCEPTED\n")
    -- one known, one unknown fluent
    ∷ prints (gauge ++ text "A303010002\nA403010003\nA50A00272A20110000110100\nB103010100\n") (text "S 0 300 1\nBROKEN 2 1 0\n")
    -- levels below zero
    ∷ prints (text "A10101\nA206FF00FFFFFF85\nA403010001\nA502002A\nB10101\n") (text "S 0 -123\nS 1 -123\nACCEPTED\n")
    -- a character between 9 and A
    ∷ prints (text "A:\n") (text "REFUSED 1 1\n")
    -- a count over 120
    ∷ prints (text "A179" ++ replicate 242 48 ++ text "\n") (text "REFUSED 2 1\n")
    -- a count below the bytes present
    ∷ prints (text "A1000102\n") (text "REFUSED 2 1\n")
    -- a second A1 with a payload that is not as described: 5 before 4
    ∷ prints (text "A10102\nA10100\n") (text "REFUSED 5 2\n")
    -- a start below the lowest value
    ∷ prints (text "A10102\nA20600C8014000C7\n") (text "REFUSED 4 2\n")
    -- an empty mask
    ∷ prints (text "A10102\nA20600C80140012C\nA303000000\n") (text "REFUSED 4 3\n")
    -- knowledge of an unknown fluent
    ∷ prints (text "A10102\nA20600C80140012C\nA303010001\n") (text "REFUSED 4 3\n")
    -- an action named 0
    ∷ prints (text "A10102\nA20600C80140012C\nA403000001\n") (text "REFUSED 4 3\n")
    -- no A2
    ∷ prints (text "A10101\nA403010001\nA502002A\n") (text "REFUSED 7 3\n")
    -- a kind after A9
    ∷ prints (pool ++ text "AA012A\n") (text "REFUSED 3 5\n")
    -- a byte after a law
    ∷ prints (pool ++ text "A8022A2A\n") (text "REFUSED 4 5\n")
    -- code 29 in A9
    ∷ prints (pool ++ text "A903290000\n") (text "REFUSED 4 5\n")
    -- code 29 with an unknown entry
    ∷ prints (pool ++ text "A803290100\n") (text "REFUSED 4 5\n")
    -- code 29 with lag 64
    ∷ prints (pool ++ text "A803290040\n") (text "REFUSED 4 5\n")
    -- an unknown fluent in a law
    ∷ prints (pool ++ text "A80720110100100000\n") (text "REFUSED 4 5\n")
    -- what codes 15 to 19 and 20 to 28 mean, beside the cases above
    ∷ prints (pool ++ text "A90C201510FFF910000217100004\nA90C201610FFF91000021810FFFF\nA90E2620192A1000012019282A100000\nA91026211000021000012821100001100001\nA910262210FFFF1000012822100001100001\nA9102623100001100001282310000110FFFF\nA90528262A282A\nA90427282A2A\n") (text "S 0 300\nACCEPTED\n")
    -- a line that starts with B is the domain's
    ∷ prints (text "A10102\nB0\n") (text "REFUSED 2 2\n")
    -- an input of 60,001 bytes
    ∷ prints (replicate 60_001 10) (text "REFUSED 18 0\n")
    -- a 65th step of another kind: 3 before 9
    ∷ prints (pool ++ flat (replicate 64 (text "B1020000\n")) ++ text "A10102\n") (text "REFUSED 3 69\n")
    -- a 65th step that is too short: 9 before 8
    ∷ prints (pool ++ flat (replicate 64 (text "B1020000\n")) ++ text "B100\n") (text "REFUSED 9 69\n")
    -- a fluent named under 27, 28 and 19
    ∷ prints (gauge ++ text "A303000007\nA403010001\nA5100027282119201101001101001000012A\nB103010000\n") (text "S 0 300 1\nBROKEN 2 1 0\n")
    -- kind 7 of an A5 law, entry 1, law 2
    ∷ prints (text "A10101\nA206000000090001\nA403010001\nA403020001\nA502002A\nA50301282A\nA50C012015100001100000100000\nB10102\n") (text "S 0 1\nBROKEN 7 1 2\n")
    -- an effect's constraint without value
    ∷ prints (pool ++ text "A6100020151000011000001000000010012C\nB1020100\n") (text "S 0 300\nBROKEN 7 1 1\n")
    -- an effect's expression without value, where its constraint is false
    ∷ prints (pool ++ text "A60B00282A0015100001100000\nB1020100\n") (text "S 0 300\nS 1 300\nACCEPTED\n")
    -- an agent outside the crew of the entry that it names
    ∷ prints (text "A10102\nA206000000090001\nA403010002\nA502002A\nB1020101\n") (text "S 0 1\nBROKEN 1 1 0\n")
    ∷ []

-- the session: the sheet after some calls, with two agents
abbrev sheet_after : List Call → List Names → Case
sheet_after calls sheet = record { Of = List Names; left = standing_sheet (after calls (record { agents = 2; standing = []; undone = [] })); right = sheet }

abbrev replied : List Call → List Reply → Case
replied calls r = record { Of = List Reply; left = replies calls (record { agents = 2; standing = []; undone = [] }); right = r }

abbrev second : Names
second = 0 ∷ 2 ∷ []

abbrev yes : Reply
yes = done (got tt)

abbrev pub sessions : List Case
sessions =
    sheet_after (editing (enter first) ∷ editing (enter second) ∷ editing (amend 1 second) ∷ []) (second ∷ second ∷ [])
    ∷ sheet_after (editing (enter first) ∷ editing (enter second) ∷ editing strike ∷ []) (first ∷ [])
    ∷ sheet_after (editing (enter first) ∷ editing (enter second) ∷ undoing ∷ []) (first ∷ [])
    ∷ sheet_after (editing (enter first) ∷ editing (enter second) ∷ undoing ∷ undoing ∷ redoing ∷ []) (first ∷ [])
    ∷ replied (editing (enter first) ∷ undoing ∷ editing (enter second) ∷ redoing ∷ []) (yes ∷ yes ∷ yes ∷ done (refused 13) ∷ [])
    ∷ replied (undoing ∷ editing strike ∷ editing (amend 1 first) ∷ editing (amend 1 []) ∷ editing (enter []) ∷ []) (done (refused 12) ∷ done (refused 11) ∷ done (refused 11) ∷ done (refused 8) ∷ done (refused 8) ∷ [])
    ∷ sheet_after (replicate 65 (editing (enter first)) ++ (editing strike ∷ [])) (replicate 63 first)
    ∷ replied (editing (enter first) ∷ editing (amend 0 first) ∷ []) (yes ∷ done (refused 11) ∷ [])
    ∷ sheet_after (flat (replicate 100 (editing (enter first) ∷ editing strike ∷ [])) ++ (editing (enter first) ∷ [])) []
    ∷ sheet_after (flat (replicate 100 (editing (enter first) ∷ editing strike ∷ [])) ++ (undoing ∷ editing (enter second) ∷ [])) (first ∷ second ∷ [])
    ∷ []

-- the calls: what they leave in the buffers that they are lent
abbrev store : List ℕ
store = 161 ∷ 1 ∷ 2 ∷ 162 ∷ 6 ∷ 0 ∷ 200 ∷ 1 ∷ 64 ∷ 1 ∷ 44 ∷ 163 ∷ 3 ∷ 0 ∷ 0 ∷ 3 ∷ 164 ∷ 3 ∷ 1 ∷ 0 ∷ 1 ∷ 164 ∷ 3 ∷ 2 ∷ 0 ∷ 2 ∷ 165 ∷ 8 ∷ 0 ∷ 36 ∷ 17 ∷ 0 ∷ 0 ∷ 16 ∷ 0 ∷ 220 ∷ 165 ∷ 8 ∷ 1 ∷ 36 ∷ 17 ∷ 0 ∷ 0 ∷ 16 ∷ 0 ∷ 220 ∷ 166 ∷ 10 ∷ 0 ∷ 42 ∷ 0 ∷ 19 ∷ 17 ∷ 0 ∷ 0 ∷ 16 ∷ 0 ∷ 14 ∷ 166 ∷ 10 ∷ 1 ∷ 42 ∷ 0 ∷ 19 ∷ 17 ∷ 0 ∷ 0 ∷ 16 ∷ 0 ∷ 6 ∷ 169 ∷ 7 ∷ 37 ∷ 17 ∷ 0 ∷ 0 ∷ 16 ∷ 1 ∷ 24 ∷ []

-- a session of so many agents, all else zero
abbrev unedited : ℕ → Session
unedited agents = record { agents = agents; sheet = record { steps = 0; names = replicate 1_024 0 }; standing = 0; total = 0; log = replicate 3_600 0 }

abbrev pub calls : List Case
calls =
    record { Of = Filled; left = read_domain p (replicate 36_000 7); right = record { answer = read 79; buffer = store ++ replicate 35_921 0 } }
    ∷ record { Of = Filled; left = read_domain p (replicate 35_999 7); right = record { answer = refused_at 10 0; buffer = replicate 35_999 7 } }
    ∷ record { Of = Filled; left = read_sheet 0 [] (replicate 1_024 7); right = record { answer = refused_at 4 0; buffer = replicate 1_024 0 } }
    ∷ record { Of = Written; left = write_domain store (replicate 170 7); right = record { answer = got 168; buffer = p ++ (7 ∷ 7 ∷ []) } }
    ∷ record { Of = Written; left = write_domain (store ++ (1 ∷ [])) []; right = record { answer = refused 15; buffer = [] } }
    ∷ record { Of = Started; left = start (store ++ (1 ∷ [])); right = record { answer = refused 15; place = record { store = []; at = 0 } } }
    ∷ record { Of = Next; left = next_frame (record { store = store; at = 0 }); right = record { part = 161 ∷ 1 ∷ 2 ∷ []; at = 3 } }
    ∷ record { Of = Next; left = next_frame (record { store = 161 ∷ 121 ∷ replicate 121 0; at = 0 }); right = record { part = []; at = 0 } }
    ∷ record { Of = Judgement; left = judge_sheet store first (replicate 2_080 (pos 7)); right = record { answer = got accepted; levels = pos 300 ∷ pos 286 ∷ replicate 2_078 (pos 7) } }
    ∷ record { Of = Judgement; left = judge_sheet store (replicate 131 0) (replicate 2_080 (pos 7)); right = record { answer = refused 8; levels = replicate 2_080 (pos 7) } }
    ∷ record { Of = Judgement; left = verdict (record { agents = 3; standing = []; undone = [] }) store (replicate 2_080 (pos 7)); right = record { answer = refused 16; levels = replicate 2_080 (pos 7) } }
    ∷ record { Of = Changed; left = open_session store; right = record { answer = got tt; session = unedited 2 } }
    ∷ record { Of = Changed; left = open_session (store ++ (1 ∷ [])); right = record { answer = refused 15; session = unedited 0 } }
    ∷ []

-- K7: supplements of domain P, whose laws are an A5 for each of two entries, an A6 for each, and a goal
abbrev lent : List ℕ
lent = replicate 16_000 7

abbrev supplement_reads : List ℕ → ℕ → List ℕ → Case
supplement_reads lines used bytes = record { Of = Filled; left = read_supplement store lines lent; right = record { answer = read used; buffer = bytes } }

-- every refusal but 10 "zeroes its whole buffer"
abbrev supplement_refused : List ℕ → ℕ → ℕ → Case
supplement_refused lines number line = record { Of = Filled; left = read_supplement store lines lent; right = record { answer = refused_at number line; buffer = replicate 16_000 0 } }

abbrev force : List ℕ → ℕ → Answer Part → Case
force supplement law part = record { Of = Answer Part; left = law_in_force store supplement law; right = part }

-- the goal replaced by "always"
abbrev no_goal : List ℕ
no_goal = 175 ∷ 3 ∷ 4 ∷ 169 ∷ 42 ∷ []

abbrev judges_under : List ℕ → List ℕ → Judgement → Case
judges_under supplement steps j = record { Of = Judgement; left = judge_under store supplement steps (replicate 2_080 (pos 7)); right = j }

abbrev low_prints : List ℕ → List ℕ → Case
low_prints input out = record { Of = List ℕ; left = low_water input; right = out }

-- one law of each kind: A5, A6, A7, A8, A9
abbrev kinds : List ℕ
kinds = pool ++ text "A606002A0010012B\nA7012A\nA8012A\nA9012A\n"

abbrev pub supplements : List Case
supplements =
    supplement_reads (text "AF0304A92A\n") 5 (no_goal ++ replicate 15_995 0)
    -- the empty text
    ∷ supplement_reads [] 0 (replicate 16_000 0)
    -- "a store of at least 16,000 bytes": 10, before 15
    ∷ record { Of = Filled; left = read_supplement [] (text "AF0304A92A\n") (replicate 15_999 7); right = record { answer = refused_at 10 0; buffer = replicate 15_999 7 } }
    -- "15 for the domain (line 0)", before the lines
    ∷ record { Of = Filled; left = read_supplement (store ++ (1 ∷ [])) (text "a") lent; right = record { answer = refused_at 15 0; buffer = replicate 16_000 0 } }
    -- 1, and 2
    ∷ supplement_refused (text "af0304A92A\n") 1 1
    ∷ supplement_refused (text "AF0404A92A\n") 2 1
    -- "3 (any kind but AF)", before 4
    ∷ supplement_refused (text "AF0304A92A\nA9012A\n") 3 2
    -- "a payload under 3 bytes is 4, not 20"
    ∷ supplement_refused (text "AF02FFFF\n") 4 1
    ∷ supplement_refused (text "AF00\n") 4 1
    ∷ supplement_refused (text "AF0104\n") 4 1
    -- "a law number not in the domain"
    ∷ supplement_refused (text "AF0305A92A\n") 20 1
    -- "a kind … that differs"
    ∷ supplement_refused (text "AF0304A82A\n") 20 1
    ∷ supplement_refused (text "AF0800A6002A0010012B\n") 20 1
    ∷ supplement_refused (text "AF0402A5002A\n") 20 1
    -- a kind that is no law's
    ∷ supplement_refused (text "AF0304A12A\n") 20 1
    -- "or entry that differs", of A5 and of A6
    ∷ supplement_refused (text "AF0400A5012A\n") 20 1
    ∷ supplement_refused (text "AF0802A6012A0010012B\n") 20 1
    -- "a law number given twice", before 4
    ∷ supplement_refused (text "AF0304A92A\nAF0304A9FF\n") 20 2
    ∷ supplement_refused (text "AF0304A92A\nAF0400A5002A\nAF0304A92A\n") 20 3
    -- 3 bytes: the entry differs, and there is no constraint
    ∷ supplement_refused (text "AF0300A52A\n") 20 1
    ∷ supplement_refused (text "AF0300A500\n") 4 1
    -- a byte after the law; code 29 in A9
    ∷ supplement_refused (text "AF0404A92A2A\n") 4 1
    ∷ supplement_refused (text "AF0504A9290000\n") 4 1
    -- two laws, not in the order of their numbers
    ∷ supplement_reads (text "AF0304A92A\nAF0400A5002A\n") 11 (no_goal ++ (175 ∷ 4 ∷ 0 ∷ 165 ∷ 0 ∷ 42 ∷ replicate 15_989 0))
    -- "in domain or supplement", "its payload alone"
    ∷ force [] 4 (got (record { stands = in_domain 72; bytes = 37 ∷ 17 ∷ 0 ∷ 0 ∷ 16 ∷ 1 ∷ 24 ∷ [] }))
    ∷ force no_goal 4 (got (record { stands = in_supplement 4; bytes = 42 ∷ [] }))
    ∷ force (no_goal ++ (175 ∷ 4 ∷ 0 ∷ 165 ∷ 0 ∷ 42 ∷ 0 ∷ [])) 0 (got (record { stands = in_supplement 9; bytes = 0 ∷ 42 ∷ [] }))
    ∷ force no_goal 0 (got (record { stands = in_domain 28; bytes = 0 ∷ 36 ∷ 17 ∷ 0 ∷ 0 ∷ 16 ∷ 0 ∷ 220 ∷ [] }))
    -- "a law asked for that the domain lacks"
    ∷ force no_goal 5 (refused 20)
    -- "15, before 20"
    ∷ force (no_goal ++ (1 ∷ [])) 5 (refused 15)
    ∷ record { Of = Answer Part; left = law_in_force (store ++ (1 ∷ [])) [] 5; right = refused 15 }
    -- another domain's: law 4 is an A5 there
    ∷ force (175 ∷ 3 ∷ 4 ∷ 165 ∷ 42 ∷ []) 0 (refused 15)
    -- "judging the domain with those laws replaced": without the goal two steps are accepted
    ∷ judges_under no_goal (1 ∷ 0 ∷ 1 ∷ 0 ∷ []) (record { answer = got accepted; levels = pos 300 ∷ pos 286 ∷ pos 272 ∷ replicate 2_077 (pos 7) })
    ∷ judges_under [] (1 ∷ 0 ∷ 1 ∷ 0 ∷ []) (record { answer = got (broken 8 2 4); levels = pos 300 ∷ pos 286 ∷ pos 272 ∷ replicate 2_077 (pos 7) })
    -- "an empty supplement changes nothing": zeros only
    ∷ judges_under (0 ∷ 0 ∷ 0 ∷ []) (1 ∷ 0 ∷ 1 ∷ 0 ∷ []) (record { answer = got (broken 8 2 4); levels = pos 300 ∷ pos 286 ∷ pos 272 ∷ replicate 2_077 (pos 7) })
    -- 15 for the supplement before 8, and 10 before 15
    ∷ judges_under (no_goal ++ no_goal) (1 ∷ []) (record { answer = refused 15; levels = replicate 2_080 (pos 7) })
    ∷ record { Of = Judgement; left = judge_under store no_goal (1 ∷ []) (replicate 2_080 (pos 7)); right = record { answer = refused 8; levels = replicate 2_080 (pos 7) } }
    ∷ record { Of = Judgement; left = judge_under [] (1 ∷ []) [] (pos 7 ∷ []); right = record { answer = refused 10; levels = pos 7 ∷ [] } }
    ∷ record { Of = Judgement; left = judge_under (store ++ (1 ∷ [])) no_goal (1 ∷ []) (replicate 2_080 (pos 7)); right = record { answer = refused 15; levels = replicate 2_080 (pos 7) } }
    ∷ judges_under no_goal (replicate 130 0) (record { answer = refused 9; levels = replicate 2_080 (pos 7) })
    -- `low_water`
    ∷ low_prints (p ++ text "AF0304A92A\nB1020100\nB1020100\n") (text "S 0 300\nS 1 286\nS 2 272\nACCEPTED\n")
    ∷ low_prints (p ++ text "B1020100\nB1020100\n") (text "S 0 300\nS 1 286\nS 2 272\nBROKEN 8 2 4\n")
    ∷ low_prints (p ++ text "AF0304A92A\n") (text "S 0 300\nACCEPTED\n")
    -- lines are counted from the input's first
    ∷ low_prints (p ++ text "AF0304A92A\nAF0304A92A\nB1020100\n") (text "REFUSED 20 12\n")
    ∷ low_prints (p ++ text "AF0304A92A\nB1020100\nB10101\n") (text "REFUSED 8 13\n")
    -- the domain's refusals, then the supplement's, then the sheet's
    ∷ low_prints (text "A10102\nAF02FFFF\nB1\n") (text "REFUSED 7 1\n")
    ∷ low_prints (p ++ text "AF02FFFF\nB1\n") (text "REFUSED 4 11\n")
    -- what starts "AF" in a sheet is a line of the sheet
    ∷ low_prints (p ++ text "B1020100\nAF0304A92A\n") (text "REFUSED 3 12\n")
    -- a law of the domain after the supplement's first line is a line of the supplement
    ∷ low_prints (p ++ text "AF0304A92A\nA9012A\n") (text "REFUSED 3 12\n")
    -- `waroth` takes no supplement
    ∷ prints (p ++ text "AF0304A92A\nB1020100\n") (text "REFUSED 3 11\n")
    ∷ low_prints (replicate 60_001 10) (text "REFUSED 18 0\n")
    -- each kind replaced
    ∷ low_prints (kinds ++ text "B1020100\n") (text "S 0 300\nS 1 299\nACCEPTED\n")
    ∷ low_prints (kinds ++ text "AF0500A500282A\nB1020100\n") (text "S 0 300\nBROKEN 2 1 0\n")
    ∷ low_prints (kinds ++ text "AF0801A6002A0010012A\nB1020100\n") (text "S 0 300\nS 1 298\nACCEPTED\n")
    ∷ low_prints (kinds ++ text "AF0402A7282A\nB1020100\n") (text "BROKEN 6 0 2\n")
    ∷ low_prints (kinds ++ text "AF0403A8282A\nB1020100\n") (text "S 0 300\nBROKEN 3 1 3\n")
    ∷ low_prints (kinds ++ text "AF0404A9282A\nB1020100\n") (text "S 0 300\nS 1 299\nBROKEN 8 1 4\n")
    -- a frame holds 120 bytes: a law of 118, here a goal that is false, and one byte more
    ∷ low_prints (p ++ text "AF7804A928282828282828262626201000001000002620100000100000201000001000002626201000001000002010000010000026201000001000002010000010000026262010000010000026201000001000002010000010000026262010000010000020100000100000262010000010000020100000100000\nB1020100\n") (text "S 0 300\nS 1 286\nBROKEN 8 1 4\n")
    ∷ supplement_refused (text "AF79" ++ replicate 242 48 ++ text "\n") 2 1
    -- "the same entry" alone: another fluent may be set
    ∷ low_prints (text "A10101\nA206000000090001\nA206000000090002\nA403010001\nA502002A\nA606002A00100005\nAF0801A6002A01100005\nB10101\n") (text "S 0 1 2\nS 1 1 5\nACCEPTED\n")
    -- the fluent known to nobody in the crew is asked of the law in force
    ∷ low_prints (gauge ++ text "A403010003\nA502002A\nAF0A00A50025110100100000\nB103010100\n") (text "S 0 300 1\nBROKEN 2 1 0\n")
    ∷ []

-- K8: of domain P. The laws that its supplements say: the A5 of entry 0 always, the A6 of entry 0 to level 299, the goal always or never
abbrev may_always : List ℕ
may_always = 175 ∷ 4 ∷ 0 ∷ 165 ∷ 0 ∷ 42 ∷ []

abbrev sets_to299 : List ℕ
sets_to299 = 175 ∷ 8 ∷ 2 ∷ 166 ∷ 0 ∷ 42 ∷ 0 ∷ 16 ∷ 1 ∷ 43 ∷ []

abbrev no_such_goal : List ℕ
no_such_goal = 175 ∷ 4 ∷ 4 ∷ 169 ∷ 40 ∷ 42 ∷ []

-- ours, law 4 and then 0; the dredging office's, law 4 and then 2
abbrev ours : List ℕ
ours = no_goal ++ may_always

abbrev dredging : List ℕ
dredging = no_such_goal ++ sets_to299

-- the bytes that a call puts into its result; that zeros follow to the end, and what a refusal leaves, are cases of the whole buffer
abbrev laid_bytes : List ℕ → List ℕ → List ℕ → Answer (List ℕ)
laid_bytes domain lower upper = then (both_laid domain lower upper) (λ s. got (bytes_of s))

abbrev lays : List ℕ → List ℕ → List ℕ → Case
lays lower upper bytes = record { Of = Answer (List ℕ); left = laid_bytes store lower upper; right = got bytes }

abbrev not_laid : List ℕ → List ℕ → List ℕ → Case
not_laid domain lower upper = record { Of = Answer (List ℕ); left = laid_bytes domain lower upper; right = refused 15 }

-- P with its laws 0 and 4 replaced by ours
abbrev ours_in_force : List ℕ
ours_in_force = text "A10102\nA20600C80140012C\nA303000003\nA403010001\nA403020002\nA502002A\nA50801241100001000DC\nA60A002A001311000010000E\nA60A012A0013110000100006\nA9012A\n"

-- laid again, asked and judged under
abbrev on_top : List ℕ → List ℕ → List ℕ
on_top lower upper = or_else [] (laid_bytes store lower upper)

-- a domain whose law 4 is an A5, and a supplement that it accepts
abbrev five_may : List ℕ
five_may = 161 ∷ 1 ∷ 1 ∷ 162 ∷ 6 ∷ 0 ∷ 0 ∷ 0 ∷ 9 ∷ 0 ∷ 1 ∷ 164 ∷ 3 ∷ 1 ∷ 0 ∷ 1 ∷ flat (replicate 5 (165 ∷ 2 ∷ 0 ∷ 42 ∷ []))

abbrev fifth_may : List ℕ
fifth_may = 175 ∷ 4 ∷ 4 ∷ 165 ∷ 0 ∷ 42 ∷ []

-- a domain of 128 laws, the first an A5, and the last replaced
abbrev most_laws_there : List ℕ
most_laws_there = take 20 five_may ++ flat (replicate 127 (169 ∷ 1 ∷ 42 ∷ []))

abbrev last_law : List ℕ
last_law = 175 ∷ 3 ∷ 127 ∷ 169 ∷ 42 ∷ []

abbrev pub layings : List Case
layings =
    -- "keeps each law number of either, the upper one winning; the result is ordered by law number"
    lays ours dredging (may_always ++ sets_to299 ++ no_such_goal)
    ∷ lays dredging ours (may_always ++ sets_to299 ++ no_goal)
    -- the first and the last law number
    ∷ record { Of = Answer (List ℕ); left = laid_bytes most_laws_there last_law may_always; right = got (may_always ++ last_law) }
    -- "zeros after", to the end of a longer buffer too, "its bytes used returned"
    ∷ record { Of = Written; left = lay_supplements store ours dredging lent; right = record { answer = got 22; buffer = may_always ++ sets_to299 ++ no_such_goal ++ replicate 15_978 0 } }
    ∷ record { Of = Written; left = lay_supplements store [] [] (replicate 16_003 7); right = record { answer = got 0; buffer = replicate 16_003 0 } }
    -- "laying three gives the same whichever pair is laid first"
    ∷ lays (on_top ours dredging) no_goal (may_always ++ sets_to299 ++ no_goal)
    ∷ lays ours (on_top dredging no_goal) (may_always ++ sets_to299 ++ no_goal)
    -- "laying the empty one over or under another only orders it": no bytes, and zeros only
    ∷ lays ours [] (may_always ++ no_goal)
    ∷ lays [] ours (may_always ++ no_goal)
    ∷ lays (0 ∷ 0 ∷ []) ours (may_always ++ no_goal)
    ∷ lays ours (0 ∷ 0 ∷ []) (may_always ++ no_goal)
    ∷ record { Of = Written; left = order_supplement store ours lent; right = record { answer = got 11; buffer = may_always ++ no_goal ++ replicate 15_989 0 } }
    -- "one laid over itself is itself once ordered": and itself, where it is ordered already
    ∷ lays ours ours (may_always ++ no_goal)
    ∷ lays (may_always ++ no_goal) (may_always ++ no_goal) (may_always ++ no_goal)
    -- "it does not matter which of two without a common number is the upper"
    ∷ lays ours sets_to299 (may_always ++ sets_to299 ++ no_goal)
    ∷ lays sets_to299 ours (may_always ++ sets_to299 ++ no_goal)
    -- zeros after a supplement are none of it
    ∷ lays (ours ++ (0 ∷ [])) (sets_to299 ++ (0 ∷ 0 ∷ [])) (may_always ++ sets_to299 ++ no_goal)
    -- "Refusals: 10 for a result buffer under 16,000 bytes, then 15"; "both leave the result buffer untouched"
    ∷ record { Of = Written; left = lay_supplements [] (1 ∷ []) (1 ∷ []) (replicate 15_999 7); right = record { answer = refused 10; buffer = replicate 15_999 7 } }
    ∷ record { Of = Written; left = lay_supplements store ours (dredging ++ (1 ∷ [])) lent; right = record { answer = refused 15; buffer = lent } }
    -- "15 for the domain or for either supplement store"
    ∷ not_laid (store ++ (1 ∷ [])) ours dredging
    ∷ not_laid store (ours ++ (1 ∷ [])) dredging
    -- a number given twice in one of them
    ∷ not_laid store ours (no_goal ++ no_such_goal)
    ∷ not_laid store (no_goal ++ no_such_goal) ours
    -- "Both are supplements to one domain": not another's, which that one accepts, below or above
    ∷ record { Of = Answer (List ℕ); left = laid_bytes five_may fifth_may []; right = got fifth_may }
    ∷ not_laid store fifth_may []
    ∷ not_laid store [] fifth_may
    -- the law in force is the upper one's, the lower one's, the domain's own
    ∷ force (on_top ours dredging) 4 (got (record { stands = in_supplement 20; bytes = 40 ∷ 42 ∷ [] }))
    ∷ force (on_top ours dredging) 0 (got (record { stands = in_supplement 4; bytes = 0 ∷ 42 ∷ [] }))
    ∷ force (on_top ours dredging) 1 (got (record { stands = in_domain 38; bytes = 1 ∷ 36 ∷ 17 ∷ 0 ∷ 0 ∷ 16 ∷ 0 ∷ 220 ∷ [] }))
    -- ordering changes none, only where it stands
    ∷ force ours 4 (got (record { stands = in_supplement 4; bytes = 42 ∷ [] }))
    ∷ force (on_top ours []) 4 (got (record { stands = in_supplement 10; bytes = 42 ∷ [] }))
    -- "Judging a domain under the combined supplement"
    ∷ judges_under (on_top ours dredging) (1 ∷ 0 ∷ []) (record { answer = got (broken 8 1 4); levels = pos 300 ∷ pos 299 ∷ replicate 2_078 (pos 7) })
    ∷ judges_under (on_top dredging ours) (1 ∷ 0 ∷ []) (record { answer = got accepted; levels = pos 300 ∷ pos 299 ∷ replicate 2_078 (pos 7) })
    -- "equals judging the domain, first replaced by the lower and then by the upper": P with our two laws, under the office's
    ∷ low_prints (p ++ text "AF0400A5002A\nAF0802A6002A0010012B\nAF0404A9282A\nB1020100\n") (text "S 0 300\nS 1 299\nBROKEN 8 1 4\n")
    ∷ low_prints (ours_in_force ++ text "AF0404A9282A\nAF0802A6002A0010012B\nB1020100\n") (text "S 0 300\nS 1 299\nBROKEN 8 1 4\n")
    ∷ []

-- a report; so many empty sheets
abbrev reports : List ℕ → List ℕ → Case
reports input out = record { Of = List ℕ; left = report input; right = out }

abbrev empty_sheets : ℕ → List ℕ
empty_sheets n = flat (replicate n sheet_begins)

-- one line of so many characters, none of which is a digit, and LF
abbrev long_line : ℕ → List ℕ
long_line n = replicate n 120 ++ (10 ∷ [])

-- levels below 0: fluent 0 from -10 to 5 starts at -1 and falls by 3, fluent 1 stays
abbrev tidal : List ℕ
tidal = text "A10101\nA206FFF60005FFFF\nA206800080018000\nA403010001\nA502002A\nA60A002A0013110000100003\n"

-- a level that rises by 3 and falls by 4
abbrev lifted : List ℕ
lifted = text "A10101\nA206FFF60005FFFF\nA403010001\nA403020001\nA502002A\nA502012A\nA60A002A0012110000100003\nA60A012A0013110000100004\n"

-- document 02, K1
abbrev pub mornings : List Case
mornings =
    -- "P with the sheets (1,0) and (1,2) gives "SHEETS 1 1" and "F 0 286 300 586 2""
    reports (p ++ text "B000\nB1020100\nB000\nB1020102\n") (text "SHEETS 1 1\nF 0 286 300 586 2\n")
    -- no B000: no sheet
    ∷ reports p (text "SHEETS 0 0\n")
    -- B000 with nothing after it: an empty sheet, accepted
    ∷ reports (p ++ text "B000\n") (text "SHEETS 1 0\nF 0 300 300 300 1\n")
    ∷ reports (p ++ text "B000\nB000\nB1020100\n") (text "SHEETS 2 0\nF 0 286 300 886 3\n")
    -- "a line of exactly B000 and LF": without LF, with CR, in lower case, with more or fewer digits it is a line of its text
    ∷ reports (p ++ text "B000") (text "REFUSED 1 11\n")
    ∷ reports (p ++ text "B000\nB1020100\nB000") (text "REFUSED 1 13\n")
    ∷ reports (p ++ text "B000\r\n") (text "REFUSED 1 11\n")
    ∷ reports (p ++ text "b000\n") (text "REFUSED 1 11\n")
    ∷ reports (p ++ text "B0000\n") (text "REFUSED 1 11\n")
    ∷ reports (p ++ text "B00000\n") (text "REFUSED 2 11\n")
    ∷ reports (p ++ text "B000\nB0\n") (text "REFUSED 2 12\n")
    ∷ reports (p ++ text "B000\n B000\n") (text "REFUSED 1 12\n")
    -- a B1 line before the first B000 is a line of the domain
    ∷ reports (p ++ text "B1020100\nB000\n") (text "REFUSED 3 11\n")
    -- and a line of a domain in a sheet is one of the sheet
    ∷ reports (p ++ text "B000\nA9012A\n") (text "REFUSED 3 12\n")
    -- "over all states of all accepted sheets": a broken sheet between accepted ones, and one that breaks after all its states
    ∷ reports (p ++ text "B000\nB1020100\nB000\nB1020102\nB000\nB1020100\nB1020002\n") (text "SHEETS 2 1\nF 0 280 300 1452 5\n")
    ∷ reports (p ++ text "B000\nB1020100\nB1020100\nB000\n") (text "SHEETS 1 1\nF 0 300 300 300 1\n")
    -- "If any was accepted": all broken
    ∷ reports (p ++ text "B000\nB1020102\nB000\nB1020100\nB1020100\n") (text "SHEETS 0 2\n")
    -- "lowest value, highest value, sum and count of values": neither is the first or the last
    ∷ reports (lifted ++ text "B000\nB10101\nB10102\nB10102\nB10101\n") (text "SHEETS 1 0\nF 0 -6 2 -10 5\n")
    -- "for each fluent": levels and sums below 0
    ∷ reports (tidal ++ text "B000\nB10101\nB000\n") (text "SHEETS 2 0\nF 0 -4 -1 -6 3\nF 1 -32768 -32768 -98304 3\n")
    ∷ reports (tidal ++ text "B000\nB10101\nB10101\nB10101\nB000\nB10101\nB10101\nB10101\nB10101\n") (text "SHEETS 1 1\nF 0 -10 -1 -22 4\nF 1 -32768 -32768 -131072 4\n")
    -- steps are each sheet's own: 64 of one, then one of the next; and a 65th
    ∷ reports (pool ++ sheet_begins ++ flat (replicate 64 (text "B1020000\n")) ++ text "B000\nB1020000\n") (text "SHEETS 2 0\nF 0 300 300 20100 67\n")
    ∷ reports (pool ++ sheet_begins ++ flat (replicate 65 (text "B1020000\n"))) (text "REFUSED 9 70\n")
    -- "The first refusal in input order gives the REFUSED line alone, lines counted from the input's first"
    ∷ reports (p ++ text "B000\nB1020100\nB000\nB1020100\nB10101\n") (text "REFUSED 8 15\n")
    ∷ reports (p ++ text "B000\nB1020102\nB000\nB1\n") (text "REFUSED 2 14\n")
    ∷ reports (p ++ text "B000\nB1020100\n\nB000\n") (text "REFUSED 1 13\n")
    ∷ reports (text "A10102\nB000\nB1\n") (text "REFUSED 7 1\n")
    ∷ reports (text "A1\n" ++ empty_sheets 41) (text "REFUSED 2 1\n")
    ∷ reports [] (text "REFUSED 7 0\n")
    ∷ reports sheet_begins (text "REFUSED 7 0\n")
    -- "19 for a 41st sheet, at its B000 line": 40, and 41
    ∷ reports (p ++ empty_sheets 40) (text "SHEETS 40 0\nF 0 300 300 12000 40\n")
    ∷ reports (p ++ empty_sheets 41) (text "REFUSED 19 51\n")
    -- broken ones are counted too
    ∷ reports (p ++ flat (replicate 41 (text "B000\nB1020102\n"))) (text "REFUSED 19 91\n")
    -- "before all else of it"
    ∷ reports (p ++ empty_sheets 41 ++ text "x\n") (text "REFUSED 19 51\n")
    -- what is before it comes first: a refusal in the third sheet, one in the 40th
    ∷ reports (p ++ text "B000\nB000\nB000\nB1\n" ++ empty_sheets 38) (text "REFUSED 2 14\n")
    ∷ reports (p ++ empty_sheets 40 ++ text "B1\n" ++ sheet_begins) (text "REFUSED 2 51\n")
    -- "18 … for each sheet's text by itself": 60,000 bytes, in an input that has more
    ∷ reports (p ++ sheet_begins ++ long_line 59_999 ++ sheet_begins) (text "REFUSED 1 12\n")
    -- "The program of document 01 stays beside it and does not take B000", nor does `low_water`
    ∷ prints (p ++ text "B000\nB1020100\n") (text "REFUSED 3 11\n")
    ∷ prints (p ++ text "B1020100\nB000\n") (text "REFUSED 3 12\n")
    ∷ low_prints (p ++ text "B000\nB1020100\n") (text "REFUSED 3 11\n")
    -- what decides a report: the figure, and the characters of a B000 line that are counted in it
    ∷ record { Of = ℕ; left = report_input; right = 2_460_205 }
    ∷ record { Of = ℕ; left = begins_size; right = length sheet_begins }
    ∷ []

-- K1's long texts; `theorems` shows them, since each takes its time
abbrev pub long_texts : List Case
long_texts =
    -- "18 (line 0) holds for the domain's text and for each sheet's text by itself": 60,000 bytes, and 60,001
    reports (long_line 59_999 ++ sheet_begins) (text "REFUSED 1 1\n")
    ∷ reports (long_line 60_000 ++ sheet_begins) (text "REFUSED 18 0\n")
    ∷ reports (p ++ sheet_begins ++ long_line 60_000 ++ sheet_begins) (text "REFUSED 18 0\n")
    -- the lines of a text together, its last without LF, and no other text with it
    ∷ reports (p ++ text "B000\nB1\n" ++ long_line 59_996) (text "REFUSED 2 12\n")
    ∷ reports (p ++ text "B000\nB1\n" ++ long_line 59_997) (text "REFUSED 18 0\n")
    ∷ reports (p ++ sheet_begins ++ replicate 60_000 120) (text "REFUSED 1 12\n")
    ∷ reports (p ++ sheet_begins ++ replicate 60_001 120) (text "REFUSED 18 0\n")
    ∷ reports (p ++ text "B000\nB1020100\nB000\n" ++ long_line 59_999) (text "REFUSED 1 14\n")
    -- "before the others of that text", and after those of the texts before it
    ∷ reports (p ++ text "B000\nB1\nB000\n" ++ long_line 60_000) (text "REFUSED 2 12\n")
    ∷ reports (p ++ text "B000\nB1020100\nB000\nB1\n" ++ long_line 60_000) (text "REFUSED 18 0\n")
    -- 19 comes before 18 of its own sheet, and after that of the 40th
    ∷ reports (p ++ empty_sheets 41 ++ long_line 60_000) (text "REFUSED 19 51\n")
    ∷ reports (p ++ empty_sheets 40 ++ long_line 60_000 ++ sheet_begins) (text "REFUSED 18 0\n")
    ∷ []

-- K2: 1 by 0, and the first square that has no value, as expressions and in constraints
abbrev by_zero : Expr
by_zero = two Quotient (constant (pos 1)) (constant (pos 0))

abbrev beyond : Expr
beyond = two Product (constant (pos 31_623)) (constant (pos 31_623))

abbrev is_zero : Expr → Con
is_zero x = compared Equal x (constant (pos 0))

-- why an expression, and a constraint, has no value
abbrev lacks : Reason → Expr → Case
lacks why x = number (eval_e x rising 0) (no_value why)

abbrev undecided : Reason → Con → Case
undecided why c = record { Of = Valued Bool; left = eval_c c rising 0; right = no_value why }

-- the same, under every operation of two expressions, every comparison, "and" and "or"
abbrev each_lacks : Reason → (Operation → Expr) → Case
each_lacks why x = record { Of = List (Valued ℤ); left = map (λ o. eval_e (x o) rising 0) (Sum ∷ Difference ∷ Product ∷ Quotient ∷ Remainder ∷ []); right = replicate 5 (no_value why) }

abbrev each_undecided : Reason → (Comparison → Con) → Case
each_undecided why c = record { Of = List (Valued Bool); left = map (λ o. eval_c (c o) rising 0) (Equal ∷ Unequal ∷ Less ∷ AtMost ∷ Greater ∷ AtLeast ∷ []); right = replicate 6 (no_value why) }

abbrev both_undecided : Reason → (Junction → Con) → Case
both_undecided why c = record { Of = List (Valued Bool); left = map (λ o. eval_c (c o) rising 0) (And ∷ Or ∷ []); right = replicate 2 (no_value why) }

abbrev pub troubles : List Case
troubles =
    -- "a result beyond the number range": at either end, by each operation that leaves it
    number (operate Sum (pos 999_999_999) (pos 1)) (value (pos 1_000_000_000))
    ∷ number (operate Sum (pos 1_000_000_000) (pos 1)) (no_value OutOfRange)
    ∷ number (operate Difference (negsuc 999_999_998) (pos 1)) (value (negsuc 999_999_999))
    ∷ number (operate Difference (negsuc 999_999_999) (pos 1)) (no_value OutOfRange)
    ∷ number (operate Sum (negsuc 999_999_998) (negsuc 0)) (value (negsuc 999_999_999))
    ∷ number (operate Sum (negsuc 999_999_999) (negsuc 0)) (no_value OutOfRange)
    ∷ number (operate Difference (pos 999_999_999) (negsuc 0)) (value (pos 1_000_000_000))
    ∷ number (operate Difference (pos 1_000_000_000) (negsuc 0)) (no_value OutOfRange)
    ∷ number (operate Product (pos 31_250) (pos 32_000)) (value (pos 1_000_000_000))
    ∷ number (operate Product (pos 52_579) (pos 19_019)) (no_value OutOfRange)
    ∷ number (operate Product (negsuc 31_249) (pos 32_000)) (value (negsuc 999_999_999))
    ∷ number (operate Product (negsuc 52_578) (pos 19_019)) (no_value OutOfRange)
    -- quotient, negation and absolute value of the lower end stay within it
    ∷ number (operate Quotient (negsuc 999_999_999) (negsuc 0)) (value (pos 1_000_000_000))
    ∷ number (eval_e (one Negation (constant (negsuc 999_999_999))) rising 0) (value (pos 1_000_000_000))
    ∷ number (eval_e (one Absolute (constant (negsuc 999_999_999))) rising 0) (value (pos 1_000_000_000))
    -- "A zero divisor": 0 by 0 too
    ∷ number (operate Quotient (pos 0) (pos 0)) (no_value ZeroDivisor)
    ∷ number (operate Remainder (pos 0) (pos 0)) (no_value ZeroDivisor)
    -- "Operands are worked out left to right": both in trouble, each way round
    ∷ each_lacks ZeroDivisor (λ o. two o by_zero beyond)
    ∷ each_lacks OutOfRange (λ o. two o beyond by_zero)
    -- one of them, "each before its operation": a dividend beyond the range by zero, a trouble times 0
    ∷ each_lacks ZeroDivisor (λ o. two o by_zero (constant (pos 0)))
    ∷ each_lacks OutOfRange (λ o. two o beyond (constant (pos 0)))
    ∷ each_lacks ZeroDivisor (λ o. two o (constant (pos 0)) by_zero)
    ∷ each_lacks OutOfRange (λ o. two o (constant (pos 0)) beyond)
    -- a factor without value, of a product that would be out of range
    ∷ lacks ZeroDivisor (two Product (constant (pos 31_623)) (two Sum (constant (pos 31_623)) by_zero))
    -- "the first trouble found": below the left operand, however deep, before the right one's
    ∷ lacks OutOfRange (two Sum (two Sum (constant (pos 1)) beyond) by_zero)
    ∷ lacks ZeroDivisor (two Sum (two Sum (constant (pos 1)) by_zero) beyond)
    ∷ lacks OutOfRange (two Sum (constant (pos 1)) (two Sum beyond by_zero))
    ∷ lacks ZeroDivisor (two Sum (constant (pos 1)) (two Sum by_zero beyond))
    -- under negation and absolute value
    ∷ lacks ZeroDivisor (one Negation by_zero)
    ∷ lacks OutOfRange (one Negation beyond)
    ∷ lacks ZeroDivisor (one Absolute by_zero)
    ∷ lacks OutOfRange (one Absolute beyond)
    -- under code 19
    ∷ lacks OutOfRange (two Sum (reified (is_zero beyond)) by_zero)
    ∷ lacks ZeroDivisor (two Sum (reified (is_zero by_zero)) beyond)
    -- under a comparison
    ∷ each_undecided ZeroDivisor (λ o. compared o by_zero beyond)
    ∷ each_undecided OutOfRange (λ o. compared o beyond by_zero)
    ∷ each_undecided ZeroDivisor (λ o. compared o (constant (pos 0)) by_zero)
    ∷ each_undecided OutOfRange (λ o. compared o (constant (pos 0)) beyond)
    -- under "not"
    ∷ undecided ZeroDivisor (negated (is_zero by_zero))
    ∷ undecided OutOfRange (negated (is_zero beyond))
    -- under "and" and "or"
    ∷ both_undecided ZeroDivisor (λ o. joined o (is_zero by_zero) (is_zero beyond))
    ∷ both_undecided OutOfRange (λ o. joined o (is_zero beyond) (is_zero by_zero))
    -- a left side that decides hides no reason: "or" after true, "and" after false
    ∷ both_undecided ZeroDivisor (λ o. joined o always (is_zero by_zero))
    ∷ both_undecided OutOfRange (λ o. joined o always (is_zero beyond))
    ∷ both_undecided ZeroDivisor (λ o. joined o (negated always) (is_zero by_zero))
    ∷ both_undecided OutOfRange (λ o. joined o (negated always) (is_zero beyond))
    -- nor does a right side that would decide
    ∷ both_undecided ZeroDivisor (λ o. joined o (is_zero by_zero) always)
    ∷ both_undecided OutOfRange (λ o. joined o (is_zero beyond) (negated always))
    -- kind 9 where kind 7 stood, law and states as for kind 7. In A5: entry 1, law 2
    ∷ prints (text "A10101\nA206000000090001\nA403010001\nA403020001\nA502002A\nA50301282A\nA50C012014107B87107B87100000\nB10102\n") (text "S 0 1\nBROKEN 9 1 2\n")
    -- before a law that is true, and after one, which is the last read
    ∷ prints (text "A10101\nA206000000090001\nA403010001\nA50C002014107B87107B87100000\nA502002A\nB10101\n") (text "S 0 1\nBROKEN 9 1 0\n")
    ∷ prints (text "A10101\nA206000000090001\nA403010001\nA502002A\nA50C002014107B87107B87100000\nB10101\n") (text "S 0 1\nS 1 1\nACCEPTED\n")
    -- a law that names a fluent known to nobody in the crew is not read
    ∷ prints (gauge ++ text "A303010004\nA403010003\nA51400262014107B87107B8710000020110100100000\nB103010100\n") (text "S 0 300 1\nBROKEN 2 1 0\n")
    -- in A6: the constraint, the expression
    ∷ prints (pool ++ text "A610002014107B87107B871000000010012C\nB1020100\n") (text "S 0 300\nBROKEN 9 1 1\n")
    ∷ prints (pool ++ text "A60A002A0014107B87107B87\nB1020100\n") (text "S 0 300\nBROKEN 9 1 1\n")
    ∷ prints (pool ++ text "A60A002A0015100001100000\nB1020100\n") (text "S 0 300\nBROKEN 7 1 1\n")
    -- the constraint's before the expression's, each way round
    ∷ prints (pool ++ text "A6140020151000011000001000000014107B87107B87\nB1020100\n") (text "S 0 300\nBROKEN 7 1 1\n")
    ∷ prints (pool ++ text "A614002014107B87107B871000000015100001100000\nB1020100\n") (text "S 0 300\nBROKEN 9 1 1\n")
    -- the expression is not read where the constraint is false
    ∷ prints (pool ++ text "A60B00282A0014107B87107B87\nB1020100\n") (text "S 0 300\nS 1 300\nACCEPTED\n")
    -- in A7, at step 0 and later: 300 · 300 · 11,111 is in range, 301 · 301 · 11,111 is not, and 1 by the level less 301
    ∷ prints (pool ++ text "A70B2014107B87107B87100000\nB1020000\n") (text "BROKEN 9 0 1\n")
    ∷ prints (pool ++ text "A70B2015100001100000100000\nB1020000\n") (text "BROKEN 7 0 1\n")
    ∷ prints (pool ++ text "A606002A0010012D\nA70F251414110000110000102B67100000\nB1020000\nB1020100\n") (text "S 0 300\nS 1 300\nBROKEN 9 2 2\n")
    ∷ prints (pool ++ text "A606002A0010012D\nA70F25151000011311000010012D10FFFF\nB1020000\nB1020100\n") (text "S 0 300\nS 1 300\nBROKEN 7 2 2\n")
    -- in A8
    ∷ prints (pool ++ text "A80B2014107B87107B87100000\nB1020000\n") (text "S 0 300\nBROKEN 9 1 1\n")
    -- in A9: states 0 to n
    ∷ prints (pool ++ text "A90B2014107B87107B87100000\nB1020000\n") (text "S 0 300\nS 1 300\nBROKEN 9 1 1\n")
    -- of two laws the first that is read, whatever its reason
    ∷ prints (pool ++ text "A80B2014107B87107B87100000\nA80B2015100001100000100000\nB1020000\n") (text "S 0 300\nBROKEN 9 1 1\n")
    ∷ prints (pool ++ text "A80B2015100001100000100000\nA80B2014107B87107B87100000\nB1020000\n") (text "S 0 300\nBROKEN 7 1 1\n")
    -- from their bytes: "or" after true, and code 19
    ∷ prints (pool ++ text "A80D272A2014107B87107B87100000\nB1020000\n") (text "S 0 300\nBROKEN 9 1 1\n")
    ∷ prints (pool ++ text "A8182012192014107B87107B8710000015100001100000100000\nB1020000\n") (text "S 0 300\nBROKEN 9 1 1\n")
    -- laws of an entry that does not occur are not read: A5 (law 0) and A6 (law 2) of entry 1
    ∷ prints (text "A10101\nA206000000090001\nA403010001\nA403020001\nA50C012014107B87107B87100000\nA502002A\nA60A012A0014107B87107B87\nB10101\n") (text "S 0 1\nS 1 1\nACCEPTED\n")
    -- "First fault wins": kind 2 of entry 0 and kind 9 in entry 1's law, each way round
    ∷ prints (text "A10102\nA206000000090001\nA403010001\nA403020002\nA50300282A\nA50C012014107B87107B87100000\nB1020102\n") (text "S 0 1\nBROKEN 2 1 0\n")
    ∷ prints (text "A10102\nA206000000090001\nA403010001\nA403020002\nA50C002014107B87107B87100000\nA50301282A\nB1020102\n") (text "S 0 1\nBROKEN 9 1 0\n")
    -- a law that is false and one beyond the range, each way round
    ∷ prints (pool ++ text "A802282A\nA80B2014107B87107B87100000\nB1020000\n") (text "S 0 300\nBROKEN 3 1 1\n")
    ∷ prints (pool ++ text "A80B2014107B87107B87100000\nA802282A\nB1020000\n") (text "S 0 300\nBROKEN 9 1 1\n")
    -- a differing value before an effect beyond the range
    ∷ prints (pool ++ text "A606002A0010012B\nA606002A0010012C\nA60A002A0014107B87107B87\nB1020100\n") (text "S 0 300\nBROKEN 4 1 2\n")
    -- under a supplement, and in a report, which counts the sheet as broken
    ∷ low_prints (kinds ++ text "AF0D03A82014107B87107B87100000\nB1020100\n") (text "S 0 300\nBROKEN 9 1 3\n")
    ∷ reports (pool ++ text "A8182012192014107B87107B8710000015100001100000100000\nB000\nB1020000\nB000\n") (text "SHEETS 1 1\nF 0 300 300 300 1\n")
    -- a session's verdict, and what the levels buffer receives
    ∷ record { Of = Judgement; left = verdict (record { agents = 1; standing = enter (1 ∷ []) ∷ []; undone = [] }) (161 ∷ 1 ∷ 1 ∷ 162 ∷ 6 ∷ 0 ∷ 0 ∷ 0 ∷ 9 ∷ 0 ∷ 1 ∷ 164 ∷ 3 ∷ 1 ∷ 0 ∷ 1 ∷ 165 ∷ 12 ∷ 0 ∷ 32 ∷ 20 ∷ 16 ∷ 123 ∷ 135 ∷ 16 ∷ 123 ∷ 135 ∷ 16 ∷ 0 ∷ 0 ∷ []) (replicate 2_080 (pos 7)); right = record { answer = got (broken 9 1 0); levels = pos 1 ∷ replicate 2_079 (pos 7) } }
    ∷ []

-- K3: quotients rounded down
abbrev pub divisions : List Case
divisions =
    -- the four signs, with a remainder and without one; −7 by 2, 7 by −2 and −8 by 2 stand in `starred`
    quotients (pos 7) (pos 2) (pos 3) (pos 1)
    ∷ quotients (negsuc 6) (negsuc 1) (pos 3) (negsuc 0)
    ∷ quotients (pos 8) (pos 2) (pos 4) (pos 0)
    ∷ quotients (pos 8) (negsuc 1) (negsuc 3) (pos 0)
    ∷ quotients (negsuc 7) (negsuc 1) (pos 4) (pos 0)
    -- with larger remainders
    ∷ quotients (pos 100) (pos 7) (pos 14) (pos 2)
    ∷ quotients (negsuc 99) (pos 7) (negsuc 14) (pos 5)
    ∷ quotients (pos 100) (negsuc 6) (negsuc 14) (negsuc 4)
    ∷ quotients (negsuc 99) (negsuc 6) (pos 14) (negsuc 1)
    -- a dividend smaller in size than the divisor, and as large
    ∷ quotients (pos 1) (pos 2) (pos 0) (pos 1)
    ∷ quotients (negsuc 0) (pos 2) (negsuc 0) (pos 1)
    ∷ quotients (pos 1) (negsuc 1) (negsuc 0) (negsuc 0)
    ∷ quotients (negsuc 0) (negsuc 1) (pos 0) (negsuc 0)
    ∷ quotients (pos 2) (pos 2) (pos 1) (pos 0)
    ∷ quotients (negsuc 1) (pos 2) (negsuc 0) (pos 0)
    ∷ quotients (pos 2) (negsuc 1) (negsuc 0) (pos 0)
    ∷ quotients (negsuc 1) (negsuc 1) (pos 1) (pos 0)
    -- 0 by either sign
    ∷ quotients (pos 0) (pos 5) (pos 0) (pos 0)
    ∷ quotients (pos 0) (negsuc 4) (pos 0) (pos 0)
    -- by 1 and by −1, at either end of the number range: no quotient is beyond it
    ∷ quotients (pos 1_000_000_000) (pos 1) (pos 1_000_000_000) (pos 0)
    ∷ quotients (negsuc 999_999_999) (pos 1) (negsuc 999_999_999) (pos 0)
    ∷ quotients (pos 1_000_000_000) (negsuc 0) (negsuc 999_999_999) (pos 0)
    ∷ quotients (negsuc 999_999_999) (negsuc 0) (pos 1_000_000_000) (pos 0)
    -- by the ends and their neighbours
    ∷ quotients (pos 1_000_000_000) (negsuc 999_999_999) (negsuc 0) (pos 0)
    ∷ quotients (negsuc 999_999_999) (pos 1_000_000_000) (negsuc 0) (pos 0)
    ∷ quotients (pos 1) (negsuc 999_999_999) (negsuc 0) (negsuc 999_999_998)
    ∷ quotients (negsuc 0) (pos 1_000_000_000) (negsuc 0) (pos 999_999_999)
    ∷ quotients (negsuc 0) (negsuc 999_999_999) (pos 0) (negsuc 0)
    ∷ quotients (pos 1_000_000_000) (negsuc 999_999_998) (negsuc 1) (negsuc 999_999_997)
    ∷ quotients (negsuc 999_999_999) (pos 999_999_999) (negsuc 1) (pos 999_999_998)
    ∷ quotients (negsuc 999_999_998) (pos 1_000_000_000) (negsuc 0) (pos 1)
    -- large ones
    ∷ quotients (pos 1_000_000_000) (negsuc 2) (negsuc 333_333_333) (negsuc 1)
    ∷ quotients (negsuc 999_999_999) (pos 3) (negsuc 333_333_333) (pos 2)
    ∷ quotients (pos 123_456_789) (negsuc 9_999) (negsuc 12_345) (negsuc 3_210)
    ∷ quotients (negsuc 123_456_788) (pos 10_000) (negsuc 12_345) (pos 3_211)
    ∷ quotients (negsuc 123_456_788) (negsuc 9_999) (pos 12_345) (negsuc 6_788)
    -- "wherever both have values": of numbers, not of a law that multiplies them out: quotient × divisor may be beyond the range
    ∷ lacks OutOfRange (two Product (two Quotient (constant (negsuc 999_999_999)) (constant (pos 3))) (constant (pos 3)))
    -- a negative dividend by zero
    ∷ number (operate Quotient (negsuc 4) (pos 0)) (no_value ZeroDivisor)
    ∷ number (operate Remainder (negsuc 4) (pos 0)) (no_value ZeroDivisor)
    -- the range is asked of either result
    ∷ number (operate Quotient (pos 1_000_000_001) (pos 1)) (no_value OutOfRange)
    ∷ number (operate Remainder (pos 1_000_000_001) (pos 1_000_000_002)) (no_value OutOfRange)
    -- "the remainder by 96 on counts that run below zero": the last quarter hour of the day before, its second and its first; the last
    -- of the day before that; the day's own last, and the first of the next; and by −96
    ∷ quotients (negsuc 0) (pos 96) (negsuc 0) (pos 95)
    ∷ quotients (negsuc 94) (pos 96) (negsuc 0) (pos 1)
    ∷ quotients (negsuc 95) (pos 96) (negsuc 0) (pos 0)
    ∷ quotients (negsuc 96) (pos 96) (negsuc 1) (pos 95)
    ∷ quotients (pos 95) (pos 96) (pos 0) (pos 95)
    ∷ quotients (pos 96) (pos 96) (pos 1) (pos 0)
    ∷ quotients (pos 1) (negsuc 95) (negsuc 0) (negsuc 94)
    -- the shift, fluent 1 (from 0 to 95), and the day, fluent 2, of a count that runs below zero, fluent 0; law 4, a static law, says
    -- that the count is day × 96 + shift
    ∷ prints (text "A10101\nA206FF3800C80001\nA2060000005F0001\nA206FFFE00020000\nA403010001\nA502002A\nA60A002A0013110000100001\nA60E002A011613110000100001100060\nA60E002A021513110000100001100060\nA70F201100001214110200100060110100\nB10101\nB10101\nB10101\n") (text "S 0 1 1 0\nS 1 0 0 0\nS 2 -1 95 -1\nS 3 -2 94 -1\nACCEPTED\n")
    -- what held before: the remainder of −7 by 2 is not −1, nor its quotient −3
    ∷ prints (pool ++ text "A90B201610FFF910000210FFFF\n") (text "S 0 300\nBROKEN 8 0 1\n")
    ∷ prints (pool ++ text "A90B201510FFF910000210FFFD\n") (text "S 0 300\nBROKEN 8 0 1\n")
    ∷ []

-- K4: a weir. Agent 0 opens its gate (action 1, entry 0), which lowers the pool by 14; agent 1 tows (action 2, entry 1), "not if the weir
-- gate has been opened at any time today"
abbrev weir : List ℕ
weir = text "A10102\nA20600C80140012C\nA403010001\nA403020002\nA502002A\nA50601282C290000\nA60A002A001311000010000E\n"

-- a chamber that agent 0 empties by 14 (action 1) and fills by 14 (action 2)
abbrev chamber : List ℕ
chamber = text "A10102\nA20600C80140012C\nA403010001\nA403020001\nA502002A\nA502012A\nA60A002A001311000010000E\nA60A012A001211000010000E\n"

-- the tow not if the pool has been at 286 at any time, with a gate that agent 0 opens (action 1) and closes (action 3)
abbrev lowered : List ℕ
lowered = text "A10102\nA20600C80140012C\nA303000003\nA403010001\nA403020002\nA403030001\nA502002A\nA50A01282C2011000010011E\nA502022A\nA60A002A001311000010000E\nA60A022A001211000010000E\n"

-- a pool whose level rises by 1 in each step where agent 0 takes action 1
abbrev filling : List ℕ
filling = pool ++ text "A60A002A0012110000100001\n"

-- the bytes that are codes
abbrev is_code : Code → Bool
is_code (expression c) = true
is_code (constraint c) = true
is_code no_code = false

-- a history in which the level rises by 1 and every entry occurs in step 2 alone; and what a constraint gives so far in it, from
-- position 0 on
abbrev watched : History
watched = record { level = λ k f. pos (300 + k); occurred = λ e k. eqb k 2 }

abbrev so_far : Junction → Con → List (Valued Bool) → Case
so_far o c l = record { Of = List (Valued Bool); left = map (λ j. eval_c (look_back o c) watched j) (numbers 0 (length l)); right = l }

abbrev level_is : ℕ → Con
level_is n = compared Equal (fluent 0 0) (constant (pos n))

abbrev yes_so_far : Valued Bool
yes_so_far = value true

abbrev not_so_far : Valued Bool
not_so_far = value false

-- 1 by how far the level is from n; and a product that is beyond the range from level 301, or 302, on
abbrev by_level : ℕ → Expr
by_level n = two Quotient (constant (pos 1)) (two Difference (fluent 0 0) (constant (pos n)))

abbrev beyond_from301 : Expr
beyond_from301 = two Product (two Product (fluent 0 0) (fluent 0 0)) (constant (pos 11_111))

abbrev beyond_from302 : Expr
beyond_from302 = two Product (two Product (fluent 0 0) (fluent 0 0)) (constant (pos 10_965))

abbrev pub look_backs : List Case
look_backs =
    -- "Add two constraint codes": the expressions' ten, the eleven that constraints had and these two, of all 256 bytes
    record { Of = List ℕ; left = those (λ b. is_code (code_of b)) (numbers 0 256); right = numbers 0x10 10 ++ numbers 0x20 13 }
    -- "its constraint held at every position from 0 to the present one": false at the first alone, at one between alone, at all but the
    -- first, at none
    ∷ so_far And (negated (level_is 300)) (not_so_far ∷ not_so_far ∷ not_so_far ∷ not_so_far ∷ [])
    ∷ so_far And (negated (level_is 302)) (yes_so_far ∷ yes_so_far ∷ not_so_far ∷ not_so_far ∷ [])
    ∷ so_far And (level_is 300) (yes_so_far ∷ not_so_far ∷ not_so_far ∷ not_so_far ∷ [])
    ∷ so_far And always (yes_so_far ∷ yes_so_far ∷ yes_so_far ∷ yes_so_far ∷ [])
    -- "and 2C, at one or more of them": true at the first alone, at one between alone, at all but the first, at none
    ∷ so_far Or (level_is 300) (yes_so_far ∷ yes_so_far ∷ yes_so_far ∷ yes_so_far ∷ [])
    ∷ so_far Or (level_is 302) (not_so_far ∷ not_so_far ∷ yes_so_far ∷ yes_so_far ∷ [])
    ∷ so_far Or (negated (level_is 300)) (not_so_far ∷ yes_so_far ∷ yes_so_far ∷ yes_so_far ∷ [])
    ∷ so_far Or (negated always) (not_so_far ∷ not_so_far ∷ not_so_far ∷ not_so_far ∷ [])
    -- what is joined are the positions, each with the whole constraint: one side held at some of them and the other at the rest
    ∷ so_far And (joined Or (level_is 300) (negated (level_is 300))) (yes_so_far ∷ yes_so_far ∷ yes_so_far ∷ yes_so_far ∷ [])
    ∷ so_far Or (joined And (level_is 300) (level_is 301)) (not_so_far ∷ not_so_far ∷ not_so_far ∷ not_so_far ∷ [])
    -- a lag counts from the position looked at: lag 3 reads state 0 up to position 3, and state 1 at position 4
    ∷ so_far Or (compared Equal (fluent 0 3) (constant (pos 301))) (not_so_far ∷ not_so_far ∷ not_so_far ∷ not_so_far ∷ yes_so_far ∷ yes_so_far ∷ [])
    ∷ so_far And (compared Equal (fluent 0 3) (constant (pos 300))) (yes_so_far ∷ yes_so_far ∷ yes_so_far ∷ yes_so_far ∷ not_so_far ∷ not_so_far ∷ [])
    ∷ so_far Or (joined And (compared Equal (fluent 0 3) (constant (pos 300))) (level_is 301)) (not_so_far ∷ yes_so_far ∷ yes_so_far ∷ yes_so_far ∷ yes_so_far ∷ [])
    -- code 29 looks at its step: step 2 is the one from position 1; with lag 1, from position 2; and false before step 1
    ∷ so_far Or (occurs 0 0) (not_so_far ∷ yes_so_far ∷ yes_so_far ∷ yes_so_far ∷ [])
    ∷ so_far And (negated (occurs 0 0)) (yes_so_far ∷ not_so_far ∷ not_so_far ∷ not_so_far ∷ [])
    ∷ so_far Or (occurs 0 1) (not_so_far ∷ not_so_far ∷ yes_so_far ∷ yes_so_far ∷ [])
    ∷ so_far And (negated (occurs 0 1)) (yes_so_far ∷ yes_so_far ∷ not_so_far ∷ not_so_far ∷ [])
    ∷ so_far Or (occurs 0 2) (not_so_far ∷ not_so_far ∷ not_so_far ∷ yes_so_far ∷ yes_so_far ∷ [])
    ∷ prints (filling ++ text "A80D282C262900012011000010012C\nB1020100\nB1020100\n") (text "S 0 300\nS 1 301\nS 2 302\nACCEPTED\n")
    -- "Every position is read, so one without a value leaves the whole without value": 1 by 0 at the first
    ∷ so_far And (is_zero (by_level 300)) (no_value ZeroDivisor ∷ no_value ZeroDivisor ∷ no_value ZeroDivisor ∷ [])
    ∷ so_far Or (negated (is_zero (by_level 300))) (no_value ZeroDivisor ∷ no_value ZeroDivisor ∷ no_value ZeroDivisor ∷ [])
    -- also where the answer would be clear without it: false, or true, at position 0, and no value at position 1
    ∷ so_far And (is_zero (by_level 301)) (not_so_far ∷ no_value ZeroDivisor ∷ no_value ZeroDivisor ∷ [])
    ∷ so_far Or (negated (is_zero (by_level 301))) (yes_so_far ∷ no_value ZeroDivisor ∷ no_value ZeroDivisor ∷ [])
    ∷ so_far And (is_zero beyond_from301) (not_so_far ∷ no_value OutOfRange ∷ no_value OutOfRange ∷ [])
    ∷ so_far Or (negated (is_zero beyond_from301)) (yes_so_far ∷ no_value OutOfRange ∷ no_value OutOfRange ∷ [])
    -- "where K2's two reasons occur, the earliest position's is given": 1 by 0 at position 1, beyond the range at 2, and the other way round
    ∷ so_far And (is_zero (two Sum beyond_from302 (by_level 301))) (not_so_far ∷ no_value ZeroDivisor ∷ no_value ZeroDivisor ∷ [])
    ∷ so_far Or (is_zero (two Sum beyond_from302 (by_level 301))) (not_so_far ∷ no_value ZeroDivisor ∷ no_value ZeroDivisor ∷ [])
    ∷ so_far And (is_zero (two Sum (by_level 302) beyond_from301)) (not_so_far ∷ no_value OutOfRange ∷ no_value OutOfRange ∷ [])
    ∷ so_far Or (is_zero (two Sum (by_level 302) beyond_from301)) (not_so_far ∷ no_value OutOfRange ∷ no_value OutOfRange ∷ [])
    -- an earlier position's, of the right side, before a later one's, of the left
    ∷ so_far And (joined And (is_zero beyond_from302) (is_zero (by_level 301))) (not_so_far ∷ no_value ZeroDivisor ∷ no_value ZeroDivisor ∷ [])
    ∷ so_far Or (joined Or (is_zero (by_level 302)) (is_zero beyond_from301)) (not_so_far ∷ no_value OutOfRange ∷ no_value OutOfRange ∷ [])
    -- two that look back side by side, each with its own reason: the left one's, though its position is the later
    ∷ record { Of = Valued Bool; left = eval_c (joined And (look_back Or (is_zero (by_level 302))) (look_back And (is_zero beyond_from301))) watched 2; right = no_value ZeroDivisor }
    -- "not if the weir gate has been opened at any time today": the tow before it, after it, in the same step, and long after it
    ∷ prints (weir ++ text "B1020002\nB1020100\n") (text "S 0 300\nS 1 300\nS 2 286\nACCEPTED\n")
    ∷ prints (weir ++ text "B1020100\nB1020002\n") (text "S 0 300\nS 1 286\nBROKEN 2 2 1\n")
    ∷ prints (weir ++ text "B1020102\n") (text "S 0 300\nBROKEN 2 1 1\n")
    ∷ prints (weir ++ text "B1020100\nB1020000\nB1020000\nB1020002\n") (text "S 0 300\nS 1 286\nS 2 286\nS 3 286\nBROKEN 2 4 1\n")
    ∷ record { Of = Reading Judged; left = judged_under weir (first ∷ (replicate 62 (0 ∷ 0 ∷ []) ++ (second ∷ []))); right = gives (300 ∷ replicate 63 286) (broken 2 64 1) }
    -- all 65 positions of 64 steps: held at the first alone, and at the last alone
    ∷ record { Of = Reading Judged; left = judged_under (chamber ++ text "A9082C2011000010012C\n") (first ∷ replicate 63 (0 ∷ 0 ∷ [])); right = gives (300 ∷ replicate 64 286) accepted }
    ∷ record { Of = Reading Judged; left = judged_under (chamber ++ text "A9082C2011000010011E\n") (replicate 63 (0 ∷ 0 ∷ []) ++ (first ∷ [])); right = gives (replicate 64 300 ++ (286 ∷ [])) accepted }
    -- in A5 by levels, of a pool that was lowered to 286 and is at 300 again
    ∷ prints (lowered ++ text "B1020002\nB1020100\nB1020300\nB1020002\n") (text "S 0 300\nS 1 300\nS 2 286\nS 3 300\nBROKEN 2 4 1\n")
    -- in A7: at every state, 290 or more; at one or more of them, 300
    ∷ prints (chamber ++ text "A7082B25110000100122\nB1020100\n") (text "S 0 300\nBROKEN 6 1 4\n")
    ∷ prints (chamber ++ text "A7082C2011000010012C\nB1020100\n") (text "S 0 300\nS 1 286\nACCEPTED\n")
    -- at position 0, step 0 of A7
    ∷ prints (chamber ++ text "A7082B2011000010012C\n") (text "S 0 300\nACCEPTED\n")
    ∷ prints (chamber ++ text "A7082C2011000010011E\nB1020100\n") (text "BROKEN 6 0 4\n")
    ∷ prints (chamber ++ text "A7082B2011000010011E\nB1020100\n") (text "BROKEN 6 0 4\n")
    -- in A8: the entry occurs in this step or has before; it has not before
    ∷ prints (pool ++ text "A8042C290000\nB1020100\nB1020000\n") (text "S 0 300\nS 1 300\nS 2 300\nACCEPTED\n")
    ∷ prints (pool ++ text "A8042C290000\nB1020000\n") (text "S 0 300\nBROKEN 3 1 1\n")
    ∷ prints (pool ++ text "A8052B28290001\nB1020100\nB1020000\n") (text "S 0 300\nS 1 300\nBROKEN 3 2 1\n")
    ∷ prints (pool ++ text "A8052B28290000\nB1020000\nB1020100\n") (text "S 0 300\nS 1 300\nBROKEN 3 2 1\n")
    -- in A9: states 0 to n
    ∷ prints (chamber ++ text "A9082C2011000010011E\nB1020100\nB1020200\n") (text "S 0 300\nS 1 286\nS 2 300\nACCEPTED\n")
    ∷ prints (chamber ++ text "A9082C2011000010011E\nB1020000\n") (text "S 0 300\nS 1 300\nBROKEN 8 1 4\n")
    ∷ prints (chamber ++ text "A9082B25110000100122\nB1020100\nB1020200\n") (text "S 0 300\nS 1 286\nS 2 300\nBROKEN 8 2 4\n")
    ∷ prints (chamber ++ text "A9082B2011000010012C\n") (text "S 0 300\nACCEPTED\n")
    ∷ prints (chamber ++ text "A9082C2011000010011E\n") (text "S 0 300\nBROKEN 8 0 4\n")
    -- in A6: the constraint, and the expression by code 19
    ∷ prints (pool ++ text "A611002B2011000010012C001311000010000E\nB1020100\nB1020100\n") (text "S 0 300\nS 1 286\nS 2 286\nACCEPTED\n")
    ∷ prints (pool ++ text "A611002C2011000010012C001311000010000E\nB1020100\nB1020100\n") (text "S 0 300\nS 1 286\nS 2 272\nACCEPTED\n")
    ∷ prints (pool ++ text "A614002A001311000014192B2011000010012C10000E\nB1020100\nB1020100\n") (text "S 0 300\nS 1 286\nS 2 286\nACCEPTED\n")
    ∷ prints (pool ++ text "A614002A001311000014192C2011000010012C10000E\nB1020100\nB1020100\n") (text "S 0 300\nS 1 286\nS 2 272\nACCEPTED\n")
    -- code 29 there, in the constraint and in the expression
    ∷ prints (pool ++ text "A60D002C290000001311000010000E\nB1020100\n") (text "S 0 300\nS 1 286\nACCEPTED\n")
    ∷ prints (pool ++ text "A610002A001311000014192C29000110000E\nB1020100\nB1020100\n") (text "S 0 300\nS 1 300\nS 2 286\nACCEPTED\n")
    -- "Neither may stand inside the other or itself … 4 for one inside another": each in each
    ∷ prints (pool ++ text "A8032B2B2A\n") (text "REFUSED 4 5\n")
    ∷ prints (pool ++ text "A8032B2C2A\n") (text "REFUSED 4 5\n")
    ∷ prints (pool ++ text "A8032C2B2A\n") (text "REFUSED 4 5\n")
    ∷ prints (pool ++ text "A8032C2C2A\n") (text "REFUSED 4 5\n")
    -- through "not", "and" and "or" on either side
    ∷ prints (pool ++ text "A8042B282C2A\n") (text "REFUSED 4 5\n")
    ∷ prints (pool ++ text "A8052B262C2A2A\n") (text "REFUSED 4 5\n")
    ∷ prints (pool ++ text "A8052C262A2B2A\n") (text "REFUSED 4 5\n")
    ∷ prints (pool ++ text "A8052B272B2A2A\n") (text "REFUSED 4 5\n")
    ∷ prints (pool ++ text "A8052C272A2B2A\n") (text "REFUSED 4 5\n")
    -- through code 19 on either side of a comparison and of an operation, under 17 and 18, in an A6's expression, in A7; in A5 and A9
    ∷ prints (pool ++ text "A8082B20192C2A100000\n") (text "REFUSED 4 5\n")
    ∷ prints (pool ++ text "A8082C20100000192B2A\n") (text "REFUSED 4 5\n")
    ∷ prints (pool ++ text "A80E2B28221217192C2A100000100001\n") (text "REFUSED 4 5\n")
    ∷ prints (pool ++ text "A80C2C2012100001192B2A100001\n") (text "REFUSED 4 5\n")
    ∷ prints (pool ++ text "A8092B2018192C2A100001\n") (text "REFUSED 4 5\n")
    ∷ prints (pool ++ text "A60C002A00192B20192C2A100000\n") (text "REFUSED 4 5\n")
    ∷ prints (pool ++ text "A505002C282C2A\n") (text "REFUSED 4 5\n")
    ∷ prints (pool ++ text "A7082B20192B2A100000\n") (text "REFUSED 4 5\n")
    ∷ prints (pool ++ text "A9042C282B2A\n") (text "REFUSED 4 5\n")
    -- side by side they may stand: under "and", under code 19, in an A6's constraint and its expression
    ∷ prints (pool ++ text "A60B002B2A0012110000192C2A\nA805262B2A2C2A\nA80720192B2A192C2A\nB1020100\n") (text "S 0 300\nS 1 301\nACCEPTED\n")
    -- and below and beside every other code: under "or", 17, 18 and an operation, two of one code, with 19 and lags inside
    ∷ prints (pool ++ text "A805272B2A2C2A\nA805262C2A2C2A\nA8082017192B2A10FFFF\nA8082018192C2A100001\nA80B2012192B2A192B2A100002\nA8072B20192A100001\nA8082C20110001110003\nB1020000\n") (text "S 0 300\nS 1 300\nACCEPTED\n")
    -- a level of depth: 16 deep, with 2B outermost and 2C innermost, and 17
    ∷ prints (pool ++ text "A8102B28282828282828282828282828282A\nB1020000\n") (text "S 0 300\nS 1 300\nACCEPTED\n")
    ∷ prints (pool ++ text "A81028282828282828282828282828282C2A\nB1020000\n") (text "S 0 300\nS 1 300\nACCEPTED\n")
    ∷ prints (pool ++ text "A8112B2828282828282828282828282828282A\n") (text "REFUSED 4 5\n")
    ∷ prints (pool ++ text "A8112828282828282828282828282828282C2A\n") (text "REFUSED 4 5\n")
    -- code 29 inside them is refused in A7 and A9, under 19 too; in every law an unknown entry or fluent and a lag of 64
    ∷ prints (pool ++ text "A7042C290000\n") (text "REFUSED 4 5\n")
    ∷ prints (pool ++ text "A9052B28290000\n") (text "REFUSED 4 5\n")
    ∷ prints (pool ++ text "A7092C2019290000100001\n") (text "REFUSED 4 5\n")
    ∷ prints (pool ++ text "A8042C290100\n") (text "REFUSED 4 5\n")
    ∷ prints (pool ++ text "A8052B28290100\n") (text "REFUSED 4 5\n")
    ∷ prints (pool ++ text "A8042C290040\n") (text "REFUSED 4 5\n")
    ∷ prints (pool ++ text "A8082B25110100100000\n") (text "REFUSED 4 5\n")
    ∷ prints (pool ++ text "A8082C25110100100000\n") (text "REFUSED 4 5\n")
    ∷ prints (pool ++ text "A8082B25110040100000\n") (text "REFUSED 4 5\n")
    -- entry 1 and lags up to 63 may stand there
    ∷ prints (chamber ++ text "A8042C29013F\nB1020100\n") (text "S 0 300\nBROKEN 3 1 4\n")
    ∷ prints (chamber ++ text "A8082B2011003F10012C\nA8042C290100\nB1020200\n") (text "S 0 300\nS 1 314\nACCEPTED\n")
    -- one constraint follows: none, an expression, a byte after it; and neither is an expression
    ∷ prints (pool ++ text "A8012B\n") (text "REFUSED 4 5\n")
    ∷ prints (pool ++ text "A8042C100001\n") (text "REFUSED 4 5\n")
    ∷ prints (pool ++ text "A8032B2A2A\n") (text "REFUSED 4 5\n")
    ∷ prints (pool ++ text "A806202C2A100001\n") (text "REFUSED 4 5\n")
    -- they name what their constraint names: a fluent known to nobody in the crew, to one of it, and no reading where it is unknown
    ∷ prints (gauge ++ text "A303010004\nA403010003\nA509002C25110100100000\nB103010100\n") (text "S 0 300 1\nBROKEN 2 1 0\n")
    ∷ prints (gauge ++ text "A303010004\nA403010003\nA50A00282B25110100100005\nB103010100\n") (text "S 0 300 1\nBROKEN 2 1 0\n")
    ∷ prints (gauge ++ text "A303010002\nA403010003\nA509002C25110100100000\nB103010100\n") (text "S 0 300 1\nS 1 300 1\nACCEPTED\n")
    ∷ prints (gauge ++ text "A303010004\nA403010003\nA511002C201510000113110100100001100000\nB103010100\n") (text "S 0 300 1\nBROKEN 2 1 0\n")
    -- a law's kind by its earliest position: a goal read at state 2 alone, 7 before 9 and 9 before 7, though its first position is false, or true
    ∷ prints (filling ++ text "A91C2B2012151000011311000010012D1414110000110000102AD5100000\nB1020100\nB1020100\n") (text "S 0 300\nS 1 301\nS 2 302\nBROKEN 7 2 2\n")
    ∷ prints (filling ++ text "A91C2C2112151000011311000010012E1414110000110000102B67100000\nB1020100\nB1020100\n") (text "S 0 300\nS 1 301\nS 2 302\nBROKEN 9 2 2\n")
    -- in A5: false at position 0, 1 by 0 at position 1: 7, not 2
    ∷ prints (text "A10102\nA20600C80140012C\nA303000003\nA403010001\nA403020002\nA502002A\nA511012B20151000011311000010012D100000\nA60A002A0012110000100001\nB1020100\nB1020002\n") (text "S 0 300\nS 1 301\nBROKEN 7 2 1\n")
    -- under a supplement, refused in one, and in a report
    ∷ low_prints (kinds ++ text "AF0703A82B28290000\nB1020000\nB1020100\n") (text "S 0 300\nS 1 300\nBROKEN 3 2 3\n")
    ∷ low_prints (kinds ++ text "AF0A02A72C2011000010012B\nB1020000\n") (text "BROKEN 6 0 2\n")
    ∷ low_prints (kinds ++ text "AF0503A82B2C2A\nB1020000\n") (text "REFUSED 4 9\n")
    ∷ low_prints (kinds ++ text "AF0604A92C290000\nB1020000\n") (text "REFUSED 4 9\n")
    -- 20 before it: of another kind than law 3
    ∷ low_prints (kinds ++ text "AF0503A92B2C2A\nB1020000\n") (text "REFUSED 20 9\n")
    ∷ reports (weir ++ text "B000\nB1020002\nB1020100\nB000\nB1020100\nB1020002\n") (text "SHEETS 1 1\nF 0 286 300 886 3\n")
    -- 64 steps, each law read at every position
    ∷ reports (pool ++ text "A7082B2011000010012C\nA8082B2011000010012C\nB000\n" ++ flat (replicate 64 (text "B1020000\n"))) (text "SHEETS 1 0\nF 0 300 300 19500 65\n")
    -- accepted lines are written again as they were
    ∷ record { Of = Written; left = write_domain (161 ∷ 1 ∷ 1 ∷ 162 ∷ 6 ∷ 0 ∷ 0 ∷ 0 ∷ 9 ∷ 0 ∷ 1 ∷ 164 ∷ 3 ∷ 1 ∷ 0 ∷ 1 ∷ 165 ∷ 6 ∷ 0 ∷ 38 ∷ 43 ∷ 42 ∷ 44 ∷ 42 ∷ []) (replicate 60 7); right = record { answer = got 52; buffer = text "A10101\nA206000000090001\nA403010001\nA50600262B2A2C2A\n" ++ replicate 8 7 } }
    ∷ []

-- K6: one pool of 200 to 320 that starts at 300 and may change by 14 in one step, with two entries of one agent that may always occur
abbrev bank : List ℕ
bank = text "A10101\nA20800C80140012C000E\nA403010001\nA403020001\nA502002A\nA502012A\n"

-- one fluent, and one action, which sets it to a value
abbrev goes_to : String → String → String → Case
goes_to line level shown = prints (text "A10101\n" ++ text line ++ text "\nA403010001\nA502002A\nA606002A0010" ++ text level ++ text "\nB10101\n") (text shown)

-- two fluents, and one action, which sets them both
abbrev both_go_to : String → String → String → String → String → Case
both_go_to line line2 level level2 shown =
    prints (text "A10101\n" ++ text line ++ text "\n" ++ text line2 ++ text "\nA403010001\nA502002A\nA606002A0010" ++ text level ++ text "\nA606002A0110" ++ text level2 ++ text "\nB10101\n") (text shown)

abbrev refuses_fluent : String → Case
refuses_fluent line = prints (text "A10101\n" ++ text line ++ text "\n") (text "REFUSED 4 2\n")

-- a fluent with a limit and one without, the first falling by 15
abbrev bank_store : List ℕ
bank_store = 161 ∷ 1 ∷ 1 ∷ 162 ∷ 8 ∷ 0 ∷ 200 ∷ 1 ∷ 64 ∷ 1 ∷ 44 ∷ 0 ∷ 14 ∷ 162 ∷ 6 ∷ 0 ∷ 0 ∷ 0 ∷ 9 ∷ 0 ∷ 1 ∷ 164 ∷ 3 ∷ 1 ∷ 0 ∷ 1 ∷ 165 ∷ 2 ∷ 0 ∷ 42 ∷ 166 ∷ 10 ∷ 0 ∷ 42 ∷ 0 ∷ 19 ∷ 17 ∷ 0 ∷ 0 ∷ 16 ∷ 0 ∷ 15 ∷ 166 ∷ 6 ∷ 0 ∷ 42 ∷ 1 ∷ 16 ∷ 0 ∷ 2 ∷ []

abbrev bank_text : List ℕ
bank_text = text "A10101\nA20800C80140012C000E\nA206000000090001\nA403010001\nA502002A\nA60A002A001311000010000F\nA606002A01100002\n"

abbrev pub changes : List Case
changes =
    -- "the largest change allowed in one step": a fall of 14 and a rise of 14 are allowed, 15 are "larger than the limit", "in either direction"
    prints (bank ++ text "A60A002A001311000010000E\nB10101\n") (text "S 0 300\nS 1 286\nACCEPTED\n")
    ∷ prints (bank ++ text "A60A002A001311000010000F\nB10101\n") (text "S 0 300\nBROKEN 10 1 0\n")
    ∷ prints (bank ++ text "A60A002A001211000010000E\nB10101\n") (text "S 0 300\nS 1 314\nACCEPTED\n")
    ∷ prints (bank ++ text "A60A002A001211000010000F\nB10101\n") (text "S 0 300\nBROKEN 10 1 0\n")
    -- "in one step": from the value before the step, and not from the start; the states before the step are written
    ∷ prints (bank ++ text "A60A002A001311000010000E\nB10101\nB10101\nB10101\n") (text "S 0 300\nS 1 286\nS 2 272\nS 3 258\nACCEPTED\n")
    ∷ prints (bank ++ text "A60A002A001311000010000E\nA60A012A001211000010001C\nB10101\nB10102\n") (text "S 0 300\nS 1 286\nBROKEN 10 2 0\n")
    ∷ prints (bank ++ text "A60A002A001311000010000E\nA606012A0010012C\nB10101\nB10102\nB10101\nB10101\nB10102\n") (text "S 0 300\nS 1 286\nS 2 300\nS 3 286\nS 4 272\nBROKEN 10 5 0\n")
    -- a fluent that no law sets does not change; nor does one that is set to its own value
    ∷ prints (bank ++ text "B10100\nB10101\n") (text "S 0 300\nS 1 300\nS 2 300\nACCEPTED\n")
    ∷ prints (text "A10101\nA20800C80140012C0001\nA403010001\nA403020001\nA502002A\nA502012A\nA606002A0010012C\nB10101\nB10100\n") (text "S 0 300\nS 1 300\nS 2 300\nACCEPTED\n")
    -- state 0 is the end of no step: whatever the limit, it may be anywhere in the range
    ∷ prints (text "A10101\nA20880007FFF7FFF0001\nA403010001\nA403020001\nA502002A\nA502012A\n") (text "S 0 32767\nACCEPTED\n")
    -- "1 to 32,767": both, at the limit and one past it
    ∷ goes_to "A20880007FFF00000001" "FFFF" "S 0 0\nS 1 -1\nACCEPTED\n"
    ∷ goes_to "A20880007FFF00000001" "FFFE" "S 0 0\nBROKEN 10 1 0\n"
    ∷ goes_to "A20880007FFF00000001" "0001" "S 0 0\nS 1 1\nACCEPTED\n"
    ∷ goes_to "A20880007FFF00000001" "0002" "S 0 0\nBROKEN 10 1 0\n"
    ∷ goes_to "A20880007FFF00007FFF" "7FFF" "S 0 0\nS 1 32767\nACCEPTED\n"
    ∷ goes_to "A20880007FFFFFFF7FFF" "7FFF" "S 0 -1\nBROKEN 10 1 0\n"
    ∷ goes_to "A20880007FFF00007FFF" "8001" "S 0 0\nS 1 -32767\nACCEPTED\n"
    ∷ goes_to "A20880007FFF00007FFF" "8000" "S 0 0\nBROKEN 10 1 0\n"
    -- "Two-byte numbers are high byte first": limits of 256 and of 511
    ∷ goes_to "A208000003E801F40100" "00F4" "S 0 500\nS 1 244\nACCEPTED\n"
    ∷ goes_to "A208000003E801F40100" "00F3" "S 0 500\nBROKEN 10 1 0\n"
    ∷ goes_to "A208000007D001F401FF" "03F3" "S 0 500\nS 1 1011\nACCEPTED\n"
    ∷ goes_to "A208000007D001F401FF" "03F4" "S 0 500\nBROKEN 10 1 0\n"
    -- 4 "for a limit outside 1 to 32,767"
    ∷ refuses_fluent "A20800C80140012C0000"
    ∷ refuses_fluent "A20800C80140012C8000"
    ∷ refuses_fluent "A20800C80140012C8001"
    ∷ refuses_fluent "A20800C80140012CFFFF"
    -- 6 or 8 bytes: 7 are 4, and so is every other count
    ∷ refuses_fluent "A200"
    ∷ refuses_fluent "A20500C8014001"
    ∷ refuses_fluent "A20700C80140012C00"
    ∷ refuses_fluent "A20900C80140012C000E00"
    ∷ refuses_fluent "A20A00C80140012C000E0000"
    ∷ refuses_fluent "A21000C80140012C000E000E000E000E000E"
    ∷ record { Of = List ℕ; left = those (λ n. fluent_fits (take n (0 ∷ 0 ∷ 0 ∷ 9 ∷ 0 ∷ 1 ∷ 0 ∷ 14 ∷ replicate 112 0))) (numbers 0 121); right = 6 ∷ 8 ∷ [] }
    -- of 8 bytes too "lowest ≤ start ≤ highest"
    ∷ refuses_fluent "A20800C8014000C7000E"
    ∷ refuses_fluent "A20800C801400141000E"
    ∷ prints (text "A10101\nA208012C012C012C000E\nA403010001\nA502002A\n") (text "S 0 300\nACCEPTED\n")
    -- "line by line 1, 2, 3, 5, 4": a 33rd, and one after an A3, before their limit
    ∷ prints (text "A10101\n" ++ flat (replicate 32 (text "A2080000000900010001\n")) ++ text "A2080000000900010000\n") (text "REFUSED 5 34\n")
    ∷ prints (text "A10101\nA2080000000900010001\nA303000001\nA2080000000900010000\n") (text "REFUSED 3 4\n")
    -- "frames of 6 bytes stay valid and mean no such limit": the widest change that there is
    ∷ goes_to "A20680007FFF8000" "7FFF" "S 0 -32768\nS 1 32767\nACCEPTED\n"
    ∷ goes_to "A20680007FFF7FFF" "8000" "S 0 32767\nS 1 -32768\nACCEPTED\n"
    -- where there is a limit it is a change of 65,535, larger than any: not of 1, as 16 bits would have it
    ∷ goes_to "A20880007FFF80000001" "7FFF" "S 0 -32768\nBROKEN 10 1 0\n"
    ∷ goes_to "A20880007FFF80000002" "7FFF" "S 0 -32768\nBROKEN 10 1 0\n"
    ∷ goes_to "A20880007FFF80007FFF" "7FFF" "S 0 -32768\nBROKEN 10 1 0\n"
    ∷ goes_to "A20880007FFF7FFF0001" "8000" "S 0 32767\nBROKEN 10 1 0\n"
    ∷ goes_to "A20880007FFF7FFF0002" "8000" "S 0 32767\nBROKEN 10 1 0\n"
    ∷ goes_to "A20880007FFF7FFF7FFF" "8000" "S 0 32767\nBROKEN 10 1 0\n"
    ∷ record { Of = List ℕ; left = apart (negsuc 32_767) (pos 32_767) ∷ apart (pos 32_767) (negsuc 32_767) ∷ apart (negsuc 4) (pos 0) ∷ apart (pos 3) (pos 3) ∷ []; right = 65_535 ∷ 65_535 ∷ 5 ∷ 0 ∷ [] }
    -- 32,768, which 16 bits would make a fall; and 32,767, the limit
    ∷ goes_to "A20880007FFFC0007FFF" "4000" "S 0 -16384\nBROKEN 10 1 0\n"
    ∷ goes_to "A20880007FFFC0017FFF" "4000" "S 0 -16383\nS 1 16384\nACCEPTED\n"
    -- below 0, and across it
    ∷ goes_to "A208FF0000FFFFF6000A" "0000" "S 0 -10\nS 1 0\nACCEPTED\n"
    ∷ goes_to "A208FF0000FFFFF6000A" "0001" "S 0 -10\nBROKEN 10 1 0\n"
    ∷ goes_to "A208FF0000FFFFF6000A" "FFEC" "S 0 -10\nS 1 -20\nACCEPTED\n"
    ∷ goes_to "A208FF0000FFFFF6000A" "FFEB" "S 0 -10\nBROKEN 10 1 0\n"
    -- "After the range check of a fluent": out of its range and too fast, below and above; values beyond 16 bits; at its lowest, too fast alone
    ∷ prints (bank ++ text "A606002A001000C7\nB10101\n") (text "S 0 300\nBROKEN 5 1 0\n")
    ∷ prints (bank ++ text "A606002A00100141\nB10101\n") (text "S 0 300\nBROKEN 5 1 0\n")
    ∷ prints (bank ++ text "A60A002A0014100400107FFF\nB10101\n") (text "S 0 300\nBROKEN 5 1 0\n")
    ∷ prints (bank ++ text "A60E002A00121410010010010010012C\nB10101\n") (text "S 0 300\nBROKEN 5 1 0\n")
    ∷ prints (bank ++ text "A606002A001000C8\nB10101\n") (text "S 0 300\nBROKEN 10 1 0\n")
    -- out of its range, though slowly
    ∷ goes_to "A20800C801400136000E" "0144" "S 0 310\nBROKEN 5 1 0\n"
    ∷ goes_to "A20800C8014000CD000E" "00C3" "S 0 205\nBROKEN 5 1 0\n"
    -- "and before the next fluent": too fast before the next one's range; two fluents of 0 to 100 that start at 50
    ∷ both_go_to "A2080000006400320005" "A206000000640032" "0038" "0065" "S 0 50 50\nBROKEN 10 1 0\n"
    ∷ both_go_to "A2080000006400320005" "A2080000006400320005" "0038" "0065" "S 0 50 50\nBROKEN 10 1 0\n"
    ∷ both_go_to "A2080000006400320005" "A2080000006400320005" "0037" "0065" "S 0 50 50\nBROKEN 5 1 1\n"
    ∷ both_go_to "A2080000006400320005" "A2080000006400320005" "0037" "002C" "S 0 50 50\nBROKEN 10 1 1\n"
    ∷ both_go_to "A2080000006400320005" "A2080000006400320005" "0037" "002D" "S 0 50 50\nS 1 55 45\nACCEPTED\n"
    ∷ both_go_to "A2080000006400320005" "A2080000006400320005" "002C" "0038" "S 0 50 50\nBROKEN 10 1 0\n"
    ∷ both_go_to "A2080000006400320005" "A2080000006400320005" "0065" "0038" "S 0 50 50\nBROKEN 5 1 0\n"
    ∷ both_go_to "A206000000640032" "A2080000006400320005" "0064" "0038" "S 0 50 50\nBROKEN 10 1 1\n"
    ∷ both_go_to "A206000000640032" "A2080000006400320005" "0064" "0037" "S 0 50 50\nS 1 100 55\nACCEPTED\n"
    ∷ both_go_to "A2080000006400320005" "A206000000640032" "0037" "0064" "S 0 50 50\nS 1 55 100\nACCEPTED\n"
    ∷ prints (text "A10101\nA2080000006400320005\nA2080000006400320006\nA403010001\nA502002A\nA606002A01100038\nB10101\n") (text "S 0 50 50\nS 1 50 56\nACCEPTED\n")
    ∷ prints (text "A10101\nA2080000006400320006\nA2080000006400320005\nA403010001\nA502002A\nA606002A01100038\nB10101\n") (text "S 0 50 50\nBROKEN 10 1 1\n")
    ∷ prints (text "A10101\nA2080000006400320005\nA206000000640032\nA403010001\nA502002A\nA606002A01100065\nB10101\n") (text "S 0 50 50\nBROKEN 5 1 1\n")
    -- each against its own level before the step; a third fluent; by number, whatever the order of the laws
    ∷ both_go_to "A2080000006400320005" "A2080000006400140005" "0037" "0019" "S 0 50 20\nS 1 55 25\nACCEPTED\n"
    ∷ both_go_to "A2080000006400320005" "A2080000006400140005" "0037" "0032" "S 0 50 20\nBROKEN 10 1 1\n"
    ∷ prints (text "A10101\n" ++ flat (replicate 3 (text "A2080000006400320005\n")) ++ text "A403010001\nA502002A\nA606002A01100038\nA606002A02100065\nB10101\n") (text "S 0 50 50 50\nBROKEN 10 1 1\n")
    ∷ prints (text "A10101\nA2080000006400320005\nA2080000006400320005\nA403010001\nA502002A\nA606002A01100065\nA606002A00100038\nB10101\n") (text "S 0 50 50\nBROKEN 10 1 0\n")
    -- fluents of both lengths in turn, the last of 32 too fast, and not
    ∷ prints (text "A10101\n" ++ flat (replicate 15 (text "A2080000000900010002\nA206000000090001\n")) ++ text "A206000000090001\nA2080000000900010002\nA403010001\nA502002A\nA606002A1E100009\nA606002A1F100004\nB10101\n") (text "S 0 1 1 1 1 1 1 1 1 1 1 1 1 1 1 1 1 1 1 1 1 1 1 1 1 1 1 1 1 1 1 1 1\nBROKEN 10 1 31\n")
    ∷ prints (text "A10101\n" ++ flat (replicate 15 (text "A2080000000900010002\nA206000000090001\n")) ++ text "A206000000090001\nA2080000000900010002\nA403010001\nA502002A\nA606002A1E100009\nA606002A1F100003\nB10101\n") (text "S 0 1 1 1 1 1 1 1 1 1 1 1 1 1 1 1 1 1 1 1 1 1 1 1 1 1 1 1 1 1 1 1 1\nS 1 1 1 1 1 1 1 1 1 1 1 1 1 1 1 1 1 1 1 1 1 1 1 1 1 1 1 1 1 1 1 9 3\nACCEPTED\n")
    -- two laws that set the same level: one change
    ∷ prints (bank ++ text "A60A002A001311000010000E\nA606002A0010011E\nB10101\n") (text "S 0 300\nS 1 286\nACCEPTED\n")
    ∷ prints (bank ++ text "A60A002A001311000010000F\nA606002A0010011D\nB10101\n") (text "S 0 300\nBROKEN 10 1 0\n")
    -- check 4 before it: a differing value; 1 by 0; a number beyond the range
    ∷ prints (bank ++ text "A606002A001000FA\nA606002A001000FB\nB10101\n") (text "S 0 300\nBROKEN 4 1 3\n")
    ∷ prints (text "A10101\nA2080000006400320005\nA206000000640032\nA403010001\nA502002A\nA606002A00100038\nA60A002A0115100001100000\nB10101\n") (text "S 0 50 50\nBROKEN 7 1 2\n")
    ∷ prints (text "A10101\nA2080000006400320005\nA206000000640032\nA403010001\nA502002A\nA606002A00100038\nA60E002A0114107FFF14107FFF107FFF\nB10101\n") (text "S 0 50 50\nBROKEN 9 1 2\n")
    -- checks 1 to 3 before it
    ∷ prints (text "A10102\nA20800C80140012C000E\nA403010001\nA502002A\nA606002A001000FA\nB1020109\n") (text "S 0 300\nBROKEN 1 1 1\n")
    ∷ prints (text "A10101\nA20800C80140012C000E\nA403010001\nA50300282A\nA606002A001000FA\nB10101\n") (text "S 0 300\nBROKEN 2 1 0\n")
    ∷ prints (bank ++ text "A606002A001000FA\nA802282A\nB10101\n") (text "S 0 300\nBROKEN 3 1 3\n")
    -- and before check 6: a static law that is false, or without value, on the new state; and before the goals; a change that is allowed leaves check 6 to be asked
    ∷ prints (bank ++ text "A606002A001000FA\nA7072011000010012C\nB10101\n") (text "S 0 300\nBROKEN 10 1 0\n")
    ∷ prints (bank ++ text "A606002A001000FA\nA70F2015100001131100001000FA100000\nB10101\n") (text "S 0 300\nBROKEN 10 1 0\n")
    ∷ prints (bank ++ text "A606002A001000FA\nA902282A\nB10101\n") (text "S 0 300\nBROKEN 10 1 0\n")
    ∷ prints (bank ++ text "A60A002A001311000010000E\nA70725110000100120\nB10101\n") (text "S 0 300\nBROKEN 6 1 3\n")
    -- a static law on state 0, step 0, before any step
    ∷ prints (bank ++ text "A606002A001000FA\nA702282A\nB10101\n") (text "BROKEN 6 0 3\n")
    -- domain P, where its pool may change by 14, or by 13
    ∷ prints (text "A10102\nA20800C80140012C000E\nA303000003\nA403010001\nA403020002\nA50800241100001000DC\nA50801241100001000DC\nA60A002A001311000010000E\nA60A012A0013110000100006\nA90725110000100118\nB1020100\nB1020002\n") (text "S 0 300\nS 1 286\nS 2 280\nACCEPTED\n")
    ∷ prints (text "A10102\nA20800C80140012C000D\nA303000003\nA403010001\nA403020002\nA50800241100001000DC\nA50801241100001000DC\nA60A002A001311000010000E\nA60A012A0013110000100006\nA90725110000100118\nB1020002\nB1020100\n") (text "S 0 300\nS 1 294\nBROKEN 10 2 0\n")
    -- under a supplement: the law in force is too fast, or no longer
    ∷ low_prints (bank ++ text "A606002A0010012B\nAF0802A6002A001000FA\nB10101\n") (text "S 0 300\nBROKEN 10 1 0\n")
    ∷ low_prints (bank ++ text "A606002A001000FA\nAF0802A6002A0010012B\nB10101\n") (text "S 0 300\nS 1 299\nACCEPTED\n")
    -- a supplement replaces laws alone: an A2 is none
    ∷ low_prints (bank ++ text "A606002A0010012B\nAF0A00A200C80140012C7FFF\nB10101\n") (text "REFUSED 20 8\n")
    -- in a report it is a broken sheet
    ∷ reports (bank ++ text "A60A002A001311000010000E\nA60A012A001311000010000F\nB000\nB10101\nB000\nB10101\nB10102\n") (text "SHEETS 1 1\nF 0 286 300 586 2\n")
    -- the last of 64 steps: 63 of 1, and one of 2
    ∷ prints (text "A10101\nA2080000006400000001\nA403010001\nA403020001\nA502002A\nA502012A\nA60A002A0012110000100001\nA60A012A0012110000100002\n" ++ flat (replicate 63 (text "B10101\n")) ++ text "B10102\n") (text "S 0 0\nS 1 1\nS 2 2\nS 3 3\nS 4 4\nS 5 5\nS 6 6\nS 7 7\nS 8 8\nS 9 9\nS 10 10\nS 11 11\nS 12 12\nS 13 13\nS 14 14\nS 15 15\nS 16 16\nS 17 17\nS 18 18\nS 19 19\nS 20 20\nS 21 21\nS 22 22\nS 23 23\nS 24 24\nS 25 25\nS 26 26\nS 27 27\nS 28 28\nS 29 29\nS 30 30\nS 31 31\nS 32 32\nS 33 33\nS 34 34\nS 35 35\nS 36 36\nS 37 37\nS 38 38\nS 39 39\nS 40 40\nS 41 41\nS 42 42\nS 43 43\nS 44 44\nS 45 45\nS 46 46\nS 47 47\nS 48 48\nS 49 49\nS 50 50\nS 51 51\nS 52 52\nS 53 53\nS 54 54\nS 55 55\nS 56 56\nS 57 57\nS 58 58\nS 59 59\nS 60 60\nS 61 61\nS 62 62\nS 63 63\nBROKEN 10 64 0\n")
    -- accepted lines of either length: stored as they are, written again as they were, handed out frame by frame
    ∷ record { Of = Filled; left = read_domain bank_text (replicate 36_000 7); right = record { answer = read 50; buffer = bank_store ++ replicate 35_950 0 } }
    ∷ record { Of = Written; left = write_domain bank_store (replicate 109 7); right = record { answer = got 107; buffer = bank_text ++ (7 ∷ 7 ∷ []) } }
    ∷ record { Of = Next; left = next_frame (record { store = bank_store; at = 3 }); right = record { part = 162 ∷ 8 ∷ 0 ∷ 200 ∷ 1 ∷ 64 ∷ 1 ∷ 44 ∷ 0 ∷ 14 ∷ []; at = 13 } }
    ∷ record { Of = Next; left = next_frame (record { store = bank_store; at = 13 }); right = record { part = 162 ∷ 6 ∷ 0 ∷ 0 ∷ 0 ∷ 9 ∷ 0 ∷ 1 ∷ []; at = 21 } }
    -- a store with a limit of 0 or of 32,768, or with an A2 of 7 bytes, is no accepted one
    ∷ record { Of = Written; left = write_domain (161 ∷ 1 ∷ 1 ∷ 162 ∷ 8 ∷ 0 ∷ 200 ∷ 1 ∷ 64 ∷ 1 ∷ 44 ∷ 0 ∷ 0 ∷ 164 ∷ 3 ∷ 1 ∷ 0 ∷ 1 ∷ 165 ∷ 2 ∷ 0 ∷ 42 ∷ []) []; right = record { answer = refused 15; buffer = [] } }
    ∷ record { Of = Written; left = write_domain (161 ∷ 1 ∷ 1 ∷ 162 ∷ 8 ∷ 0 ∷ 200 ∷ 1 ∷ 64 ∷ 1 ∷ 44 ∷ 128 ∷ 0 ∷ 164 ∷ 3 ∷ 1 ∷ 0 ∷ 1 ∷ 165 ∷ 2 ∷ 0 ∷ 42 ∷ []) []; right = record { answer = refused 15; buffer = [] } }
    ∷ record { Of = Written; left = write_domain (161 ∷ 1 ∷ 1 ∷ 162 ∷ 7 ∷ 0 ∷ 200 ∷ 1 ∷ 64 ∷ 1 ∷ 44 ∷ 0 ∷ 164 ∷ 3 ∷ 1 ∷ 0 ∷ 1 ∷ 165 ∷ 2 ∷ 0 ∷ 42 ∷ []) []; right = record { answer = refused 15; buffer = [] } }
    -- kind 10 writes the states before the step, and nothing after them
    ∷ record { Of = Judgement; left = judge_sheet bank_store (1 ∷ []) (replicate 2_080 (pos 7)); right = record { answer = got (broken 10 1 0); levels = pos 300 ∷ pos 1 ∷ replicate 2_078 (pos 7) } }
    ∷ record { Of = Judgement; left = judge_sheet bank_store (0 ∷ 1 ∷ 0 ∷ []) (replicate 2_080 (pos 7)); right = record { answer = got (broken 10 2 0); levels = pos 300 ∷ pos 1 ∷ pos 300 ∷ pos 1 ∷ replicate 2_076 (pos 7) } }
    -- the verdict of a session
    ∷ record { Of = Judgement; left = verdict (after (editing (enter (0 ∷ [])) ∷ editing (enter (1 ∷ [])) ∷ []) (record { agents = 1; standing = []; undone = [] })) bank_store (replicate 2_080 (pos 7)); right = record { answer = got (broken 10 2 0); levels = pos 300 ∷ pos 1 ∷ pos 300 ∷ pos 1 ∷ replicate 2_076 (pos 7) } }
    -- what stands in force is found behind an A2 of 8 bytes; under a supplement that makes the fall slower, and under an empty one
    ∷ record { Of = Answer Part; left = law_in_force bank_store [] 1; right = got (record { stands = in_domain 32; bytes = 0 ∷ 42 ∷ 0 ∷ 19 ∷ 17 ∷ 0 ∷ 0 ∷ 16 ∷ 0 ∷ 15 ∷ [] }) }
    ∷ record { Of = Judgement; left = judge_under bank_store (175 ∷ 12 ∷ 1 ∷ 166 ∷ 0 ∷ 42 ∷ 0 ∷ 19 ∷ 17 ∷ 0 ∷ 0 ∷ 16 ∷ 0 ∷ 14 ∷ []) (1 ∷ []) (replicate 2_080 (pos 7)); right = record { answer = got accepted; levels = pos 300 ∷ pos 1 ∷ pos 286 ∷ pos 2 ∷ replicate 2_076 (pos 7) } }
    ∷ record { Of = Judgement; left = judge_under bank_store [] (1 ∷ []) (replicate 2_080 (pos 7)); right = record { answer = got (broken 10 1 0); levels = pos 300 ∷ pos 1 ∷ replicate 2_078 (pos 7) } }
    -- the other calls that take a domain take it
    ∷ record { Of = Started; left = start bank_store; right = record { answer = got tt; place = record { store = bank_store; at = 0 } } }
    ∷ record { Of = Changed; left = open_session bank_store; right = record { answer = got tt; session = unedited 1 } }
    ∷ record { Of = Filled; left = read_supplement bank_store (text "AF0C01A6002A001311000010000E\n") lent; right = record { answer = read 14; buffer = (175 ∷ 12 ∷ 1 ∷ 166 ∷ 0 ∷ 42 ∷ 0 ∷ 19 ∷ 17 ∷ 0 ∷ 0 ∷ 16 ∷ 0 ∷ 14 ∷ []) ++ replicate 15_986 0 } }
    ∷ record { Of = Written; left = lay_supplements bank_store [] (175 ∷ 12 ∷ 1 ∷ 166 ∷ 0 ∷ 42 ∷ 0 ∷ 19 ∷ 17 ∷ 0 ∷ 0 ∷ 16 ∷ 0 ∷ 14 ∷ []) lent; right = record { answer = got 14; buffer = (175 ∷ 12 ∷ 1 ∷ 166 ∷ 0 ∷ 42 ∷ 0 ∷ 19 ∷ 17 ∷ 0 ∷ 0 ∷ 16 ∷ 0 ∷ 14 ∷ []) ++ replicate 15_986 0 } }
    ∷ []

abbrev pub AllHold : List Case → Type 0
AllHold [] = Unit {0}
AllHold (c ∷ l) = (c.left ≡ c.right) × AllHold l

pub shown : AllHold starred × AllHold others × AllHold edges × AllHold sessions × AllHold calls × AllHold supplements × AllHold layings
unfolding p judged_under text any all flat numbers bounded signed_word named_e named_c allowed_e allowed_c eval_e eval_c code_of parse_e parse_c lines_of digit bytes framed decode occurs_in known_to readable mask_fits agents_fit limit_fits fluent_fits knowledge_fits entry_fits executable_in effect_in must_in law_in item_in in_order room fresh checked accept complete taken_from step_of steps_from each_from history holds carries placed permits permitted may_occur sets settled level_after state_after fits landed step carried ran judge digits_of spaced state_lines split output edited replayed standing_sheet edit undo redo turn after replies logged_all layout open_session read_domain stands_at frame_at frames_from domain_in start next_frame write_domain steps_in read_sheet rows judge_sheet sheet_of verdict digit_for hex line_for replacement_of in_force_from replaced replacement_in supplement_from read_supplement supplement_in judge_under law_parts replacement_part law_in_force low_water by_number ordered laid lay_supplements order_supplement starts_with
shown = ((refl, (refl, (refl, (refl, (refl, (refl, (refl, (refl, (refl, (refl, (refl, (refl, (refl, (refl, (refl, (refl, (refl, tt))))))))))))))))), (refl, (refl, (refl, (refl, (refl, (refl, tt)))))), (refl, (refl, (refl, (refl, (refl, (refl, (refl, (refl, (refl, (refl, (refl, (refl, (refl, (refl, (refl, (refl, (refl, (refl, (refl, (refl, (refl, (refl, (refl, (refl, (refl, (refl, (refl, (refl, (refl, (refl, (refl, (refl, (refl, (refl, (refl, (refl, (refl, (refl, (refl, (refl, (refl, (refl, (refl, (refl, (refl, (refl, (refl, (refl, (refl, (refl, (refl, (refl, (refl, (refl, (refl, (refl, (refl, (refl, (refl, tt))))))))))))))))))))))))))))))))))))))))))))))))))))))))))), (refl, (refl, (refl, (refl, (refl, (refl, (refl, (refl, (refl, (refl, tt)))))))))), (refl, (refl, (refl, (refl, (refl, (refl, (refl, (refl, (refl, (refl, (refl, (refl, (refl, tt))))))))))))), (refl, (refl, (refl, (refl, (refl, (refl, (refl, (refl, (refl, (refl, (refl, (refl, (refl, (refl, (refl, (refl, (refl, (refl, (refl, (refl, (refl, (refl, (refl, (refl, (refl, (refl, (refl, (refl, (refl, (refl, (refl, (refl, (refl, (refl, (refl, (refl, (refl, (refl, (refl, (refl, (refl, (refl, (refl, (refl, (refl, (refl, (refl, (refl, (refl, (refl, (refl, (refl, (refl, (refl, (refl, (refl, (refl, (refl, (refl, (refl, (refl, tt))))))))))))))))))))))))))))))))))))))))))))))))))))))))))))), (refl, (refl, (refl, (refl, (refl, (refl, (refl, (refl, (refl, (refl, (refl, (refl, (refl, (refl, (refl, (refl, (refl, (refl, (refl, (refl, (refl, (refl, (refl, (refl, (refl, (refl, (refl, (refl, (refl, (refl, (refl, (refl, (refl, (refl, (refl, tt))))))))))))))))))))))))))))))))))))

pub mornings_shown : AllHold mornings
unfolding p text all flat any numbers bounded signed_word named_e named_c allowed_e allowed_c eval_e eval_c code_of parse_e parse_c lines_of digit bytes framed decode occurs_in known_to readable mask_fits agents_fit limit_fits fluent_fits knowledge_fits entry_fits executable_in effect_in must_in law_in item_in in_order room fresh checked accept complete taken_from step_of steps_from each_from history holds carries placed permits permitted may_occur sets settled level_after state_after fits landed step carried ran judge digits_of spaced starts_with split output replacement_of supplement_from low_water those texts_of sheets_from lowest_of highest_of sum_of report
mornings_shown = (refl, (refl, (refl, (refl, (refl, (refl, (refl, (refl, (refl, (refl, (refl, (refl, (refl, (refl, (refl, (refl, (refl, (refl, (refl, (refl, (refl, (refl, (refl, (refl, (refl, (refl, (refl, (refl, (refl, (refl, (refl, (refl, (refl, (refl, (refl, (refl, (refl, (refl, (refl, (refl, (refl, tt)))))))))))))))))))))))))))))))))))))))))

pub values_shown : AllHold troubles × AllHold divisions
unfolding text all flat any numbers bounded signed_word named_e named_c allowed_e allowed_c eval_e eval_c code_of parse_e parse_c lines_of digit bytes framed decode occurs_in known_to readable mask_fits agents_fit limit_fits fluent_fits knowledge_fits entry_fits executable_in effect_in must_in law_in item_in in_order room fresh checked accept complete taken_from step_of steps_from each_from history holds carries placed permits permitted may_occur sets settled level_after state_after fits landed step carried ran judge digits_of spaced starts_with split output replacement_of supplement_from low_water those texts_of sheets_from lowest_of highest_of sum_of report state_lines in_force_from replaced replacement_in stands_at frame_at frames_from domain_in edited replayed standing_sheet verdict
values_shown = ((refl, (refl, (refl, (refl, (refl, (refl, (refl, (refl, (refl, (refl, (refl, (refl, (refl, (refl, (refl, (refl, (refl, (refl, (refl, (refl, (refl, (refl, (refl, (refl, (refl, (refl, (refl, (refl, (refl, (refl, (refl, (refl, (refl, (refl, (refl, (refl, (refl, (refl, (refl, (refl, (refl, (refl, (refl, (refl, (refl, (refl, (refl, (refl, (refl, (refl, (refl, (refl, (refl, (refl, (refl, (refl, (refl, (refl, (refl, (refl, (refl, (refl, (refl, (refl, (refl, (refl, (refl, (refl, (refl, (refl, (refl, (refl, (refl, (refl, (refl, (refl, (refl, tt))))))))))))))))))))))))))))))))))))))))))))))))))))))))))))))))))))))))))))), (refl, (refl, (refl, (refl, (refl, (refl, (refl, (refl, (refl, (refl, (refl, (refl, (refl, (refl, (refl, (refl, (refl, (refl, (refl, (refl, (refl, (refl, (refl, (refl, (refl, (refl, (refl, (refl, (refl, (refl, (refl, (refl, (refl, (refl, (refl, (refl, (refl, (refl, (refl, (refl, (refl, (refl, (refl, (refl, (refl, (refl, (refl, (refl, (refl, (refl, (refl, tt))))))))))))))))))))))))))))))))))))))))))))))))))))

pub look_backs_shown : AllHold look_backs
unfolding text all flat any numbers bounded signed_word named_e named_c allowed_e allowed_c up_to eval_e eval_c code_of parse_e parse_c lines_of digit bytes framed decode occurs_in known_to readable mask_fits agents_fit limit_fits fluent_fits knowledge_fits entry_fits executable_in effect_in must_in law_in item_in in_order room fresh checked accept complete taken_from step_of steps_from each_from history holds carries placed permits permitted may_occur sets settled level_after state_after fits landed step carried ran judge digits_of spaced starts_with split output replacement_of supplement_from low_water those texts_of sheets_from lowest_of highest_of sum_of report state_lines in_force_from replaced replacement_in judged_under write_domain stands_at frame_at frames_from domain_in digit_for hex line_for
look_backs_shown = (refl, (refl, (refl, (refl, (refl, (refl, (refl, (refl, (refl, (refl, (refl, (refl, (refl, (refl, (refl, (refl, (refl, (refl, (refl, (refl, (refl, (refl, (refl, (refl, (refl, (refl, (refl, (refl, (refl, (refl, (refl, (refl, (refl, (refl, (refl, (refl, (refl, (refl, (refl, (refl, (refl, (refl, (refl, (refl, (refl, (refl, (refl, (refl, (refl, (refl, (refl, (refl, (refl, (refl, (refl, (refl, (refl, (refl, (refl, (refl, (refl, (refl, (refl, (refl, (refl, (refl, (refl, (refl, (refl, (refl, (refl, (refl, (refl, (refl, (refl, (refl, (refl, (refl, (refl, (refl, (refl, (refl, (refl, (refl, (refl, (refl, (refl, (refl, (refl, (refl, (refl, (refl, (refl, (refl, (refl, (refl, (refl, (refl, (refl, (refl, (refl, (refl, (refl, (refl, (refl, (refl, (refl, (refl, (refl, (refl, (refl, (refl, (refl, (refl, (refl, tt)))))))))))))))))))))))))))))))))))))))))))))))))))))))))))))))))))))))))))))))))))))))))))))))))))))))))))))))))))

pub changes_shown : AllHold changes
unfolding p judged_under text any all flat numbers bounded signed_word named_e named_c allowed_e allowed_c eval_e eval_c code_of parse_e parse_c lines_of digit bytes framed decode occurs_in known_to readable mask_fits agents_fit limit_fits fluent_fits knowledge_fits entry_fits executable_in effect_in must_in law_in item_in in_order room fresh checked accept complete taken_from step_of steps_from each_from history holds carries placed permits permitted may_occur sets settled level_after state_after fits landed step carried ran judge digits_of spaced state_lines split output edited replayed standing_sheet edit undo redo turn after replies logged_all layout open_session read_domain stands_at frame_at frames_from domain_in start next_frame write_domain steps_in read_sheet rows judge_sheet sheet_of verdict digit_for hex line_for replacement_of in_force_from replaced replacement_in supplement_from read_supplement supplement_in judge_under law_parts replacement_part law_in_force low_water by_number ordered laid lay_supplements order_supplement starts_with up_to those texts_of sheets_from lowest_of highest_of sum_of report
changes_shown = (refl, (refl, (refl, (refl, (refl, (refl, (refl, (refl, (refl, (refl, (refl, (refl, (refl, (refl, (refl, (refl, (refl, (refl, (refl, (refl, (refl, (refl, (refl, (refl, (refl, (refl, (refl, (refl, (refl, (refl, (refl, (refl, (refl, (refl, (refl, (refl, (refl, (refl, (refl, (refl, (refl, (refl, (refl, (refl, (refl, (refl, (refl, (refl, (refl, (refl, (refl, (refl, (refl, (refl, (refl, (refl, (refl, (refl, (refl, (refl, (refl, (refl, (refl, (refl, (refl, (refl, (refl, (refl, (refl, (refl, (refl, (refl, (refl, (refl, (refl, (refl, (refl, (refl, (refl, (refl, (refl, (refl, (refl, (refl, (refl, (refl, (refl, (refl, (refl, (refl, (refl, (refl, (refl, (refl, (refl, (refl, (refl, (refl, (refl, (refl, (refl, (refl, (refl, (refl, (refl, (refl, (refl, (refl, (refl, (refl, (refl, (refl, (refl, (refl, (refl, (refl, tt))))))))))))))))))))))))))))))))))))))))))))))))))))))))))))))))))))))))))))))))))))))))))))))))))))))))))))))))))))

-- What a frame's payload says, by its kind.
use Rattle.std.specs.Prelude.{ℕ, ◌+◌, ◌^◌, Bool, true, false, List, [], ◌∷◌, eqb, leb, ltb, length, get_or, drop, ℤ}
use Rattle.std.proofs.Math.Option.{Option, none, some}
use Rattle.std.specs.Int.Signed.{le_z}
use Rattle.bmap.specs.Plain.{both, either, if_else}
use Rattle.bmap.specs.Limits.{most_agents, most_depth, most_change}
use Rattle.bmap.specs.Line.{agents_kind, fluent_kind, knowledge_kind, entry_kind, executable_kind, effect_kind, static_kind, concurrency_kind, goal_kind}
use Rattle.bmap.specs.Number.{word, signed_word}
use Rattle.bmap.specs.Tree.{Expr, Con, allowed_e, allowed_c}
use Rattle.bmap.specs.Code.{Parsed, parse_e, parse_c}
use Rattle.bmap.specs.Domain.{Fluent, Knows, Entry, Scope, static, concurrency, goal, Law, executable, effect, must}
use Rattle.bmap.specs.declared.limits.Context.{Context}
use Rattle.bmap.specs.declared.limits.Counts.{Counts}

-- what a frame adds to a domain
pub data Item : Type 0 where
  agents : ℕ → Item
  fluent : Fluent → Item
  knowledge : Knows → Item
  entry : Entry → Item
  law : Law → Item

abbrev pub byte : List ℕ → ℕ → ℕ
byte p i = get_or p i 0

abbrev pub word_at : List ℕ → ℕ → ℕ
word_at p i = word (byte p i) (byte p (i + 1))

abbrev pub value_at : List ℕ → ℕ → ℤ
value_at p i = signed_word (byte p i) (byte p (i + 1))

-- "fluent: lowest, highest, start value (2 bytes each)"; K6: "8 payload bytes, the last two being the largest change allowed in one
-- step". "frames of 6 bytes … mean no such limit": bytes that are not there are 0, and so is then the limit
abbrev pub fluent_in : List ℕ → Fluent
fluent_in p = record { lowest = value_at p 0; highest = value_at p 2; start = value_at p 4; limit = word_at p 6 }

-- "fluent, mask (2 bytes, not 0): these agents know it"
abbrev pub knowledge_in : List ℕ → Knows
knowledge_in p = record { fluent = byte p 0; mask = word_at p 1 }

-- "entry: action name 1 to 255, mask (2 bytes, not 0) of its crew"
abbrev pub entry_in : List ℕ → Entry
entry_in p = record { name = byte p 0; crew = word_at p 1 }

-- o where the test holds
abbrev pub only : {A : Type 0} → Bool → Option A → Option A
only true o = o
only false o = none

-- "mask (2 bytes, not 0)", and no unknown agent
unfoldable pub mask_fits : Counts → ℕ → Bool
mask_fits n mask = both (ltb 0 mask) (ltb mask (2 ^ n.agents))

-- "number of agents, 1 to 16"
unfoldable pub agents_fit : List ℕ → Bool
agents_fit p = both (eqb (length p) 1) (both (leb 1 (byte p 0)) (leb (byte p 0) most_agents))

-- K6: "The fluent frame A2 may have 8 payload bytes, the last two being the largest change allowed in one step, 1 to 32,767; frames of
-- 6 bytes stay valid"; "Refusals: 4 for a limit outside 1 to 32,767"
unfoldable pub limit_fits : List ℕ → Bool
limit_fits p = either (eqb (length p) 6) (both (eqb (length p) 8) (both (leb 1 (word_at p 6)) (leb (word_at p 6) most_change)))

-- "lowest ≤ start ≤ highest"
unfoldable pub fluent_fits : List ℕ → Bool
fluent_fits p = both (limit_fits p) (both (le_z (fluent_in p).lowest (fluent_in p).start) (le_z (fluent_in p).start (fluent_in p).highest))

unfoldable pub knowledge_fits : Counts → List ℕ → Bool
knowledge_fits n p = both (eqb (length p) 3) (both (ltb (byte p 0) n.fluents) (mask_fits n (word_at p 1)))

unfoldable pub entry_fits : Counts → List ℕ → Bool
entry_fits n p = both (eqb (length p) 3) (both (ltb 0 (byte p 0)) (mask_fits n (word_at p 1)))

-- a tree that is allowed here, taken by a continuation with the bytes after it
module _ {T L : Type 0} where
  abbrev pub tree_in : (T → Bool) → List ℕ → Option (Parsed T) → (T → List ℕ → Option L) → Option L
  tree_in allowed p none k = none
  tree_in allowed p (some t) k = only (allowed t.tree) (k t.tree (drop t.used p))

-- nothing may come after
abbrev pub last : {L : Type 0} → L → List ℕ → Option L
last l [] = some l
last l (x ∷ rest) = none

-- K4: every law may look back
abbrev pub context : Counts → Bool → Context
context n occurrences = record { fluents = n.fluents; entries = n.entries; occurrences = occurrences; back = true }

abbrev pub con_in : {L : Type 0} → Context → List ℕ → (Con → List ℕ → Option L) → Option L
con_in x p k = tree_in (allowed_c x) p (parse_c most_depth p) k

abbrev pub expr_in : {L : Type 0} → Context → List ℕ → (Expr → List ℕ → Option L) → Option L
expr_in x p k = tree_in (allowed_e x) p (parse_e most_depth p) k

-- a number below a limit, and what comes after it
abbrev pub below : {L : Type 0} → ℕ → List ℕ → (ℕ → List ℕ → Option L) → Option L
below limit [] k = none
below limit (x ∷ rest) k = only (ltb x limit) (k x rest)

-- "executability law: entry, constraint"
unfoldable pub executable_in : Counts → List ℕ → Option Law
executable_in n p = below n.entries p (λ i rest. con_in (context n true) rest (λ c. last (executable i c)))

-- "effect law: entry, constraint, fluent, expression"
unfoldable pub effect_in : Counts → List ℕ → Option Law
effect_in n p =
    below n.entries p (λ i rest.
    con_in (context n true) rest (λ c rest.
    below n.fluents rest (λ f rest.
    expr_in (context n true) rest (λ x. last (effect i c f x)))))

-- "Code 29 is refused in A7 and A9": whether a law of the scope may ask for occurrences
abbrev pub asks : Scope → Bool
asks static = false
asks concurrency = true
asks goal = false

abbrev pub scope_kind : Scope → ℕ
scope_kind static = static_kind
scope_kind concurrency = concurrency_kind
scope_kind goal = goal_kind

abbrev pub kind_of : Law → ℕ
kind_of (executable e c) = executable_kind
kind_of (effect e c f x) = effect_kind
kind_of (must s c) = scope_kind s

-- "static law: constraint", "concurrency law: constraint", "goal: constraint"
unfoldable pub must_in : Scope → Counts → List ℕ → Option Law
must_in s n p = con_in (context n (asks s)) p (λ c. last (must s c))

unfoldable pub law_in : Counts → ℕ → List ℕ → Option Law
law_in n kind p =
    if_else (eqb kind executable_kind) (executable_in n p)
    (if_else (eqb kind effect_kind) (effect_in n p)
    (if_else (eqb kind static_kind) (must_in static n p)
    (if_else (eqb kind concurrency_kind) (must_in concurrency n p)
    (if_else (eqb kind goal_kind) (must_in goal n p) none))))

abbrev pub law_item : Option Law → Option Item
law_item none = none
law_item (some l) = some (law l)

-- what a payload says, in a domain with so many agents, fluents and entries; none where it is not as described
unfoldable pub item_in : Counts → ℕ → List ℕ → Option Item
item_in n kind p =
    if_else (eqb kind agents_kind) (only (agents_fit p) (some (agents (byte p 0))))
    (if_else (eqb kind fluent_kind) (only (fluent_fits p) (some (fluent (fluent_in p))))
    (if_else (eqb kind knowledge_kind) (only (knowledge_fits n p) (some (knowledge (knowledge_in p))))
    (if_else (eqb kind entry_kind) (only (entry_fits n p) (some (entry (entry_in p))))
    (law_item (law_in n kind p)))))

-- Who knows what, and who may read which law. Assumes nothing.
use Prim.Native.Nat.{ℕ, ◌+◌, ◌-◌, ◌%◌, ◌^◌, ◌≤◌, ◌<◌}
use mathlib.Core.Path.{◌≡◌, refl, sym, ap, ◌∙◌, subst}
use mathlib.Core.List.{List, [], ◌∷◌, ◌++◌, map}
use mathlib.Core.Option.{Option, some}
use Rattle.std.specs.Prelude.{Some, None}
use mathlib.Core.Bool.{Bool, true, not}
use native.Mathlib.Omega.{arith}
use native.Mathlib.Nat.{mod-lt}
use lib.Bits.{bit_and}
use lib.Dec.{eqb}
use lib.ListN.{length, get_or, take, drop}
use lib.Seq.{get_or-drop, get_or-take, take-append-add, length-take-le}
use lib.Pow.{pow_pos}
use Rattle.bmap.specs.Plain.{both, if_else, any, numbers}
use Rattle.bmap.specs.Limits.{most_depth, most_payload, frame_size}
use Rattle.bmap.specs.Tree.{Con, allowed_c}
use Rattle.bmap.specs.Code.{Parsed, parse_c}
use Rattle.bmap.specs.Domain.{Domain, Knows, Law, executable, effect, must, has, knows, known_to, readable, entry_at}
use Rattle.bmap.specs.Payload.{context, law_in}
use Rattle.bmap.specs.Accept.{counts_of}
use Rattle.law.specs.Names.{names_only}
use Rattle.index.specs.declared.Knowledge.{Knowledge as Row}
use Rattle.index.specs.declared.Entry.{Entry}
use Rattle.index.specs.Index.{no_knowledge, knowledge_said}
use Rattle.judge.specs.Masks.{crew_at, mask_from}
use Rattle.judge.specs.Told.{Says, Knowing, owner_of, knowers_of}
use Rattle.judge.proofs.MaskLaws.{mask_bit, union_bit, any_same, any_map, shares, cut_bit}
use Rattle.judge.proofs.NamedLaws.{same_named}
use Rattle.judge.proofs.CheckLaws.{says, not_entry, front}
use Rattle.judge.proofs.ReadingLaws.{stands}

-- "several frames add up"
pub knows_is : (d : Domain) (knowledge : List Row) (n f a : ℕ) → n ≤ length knowledge → d.knowledge ≡ map (λ i. knowledge_said (get_or knowledge i no_knowledge)) (numbers 0 n) → has (knowers_of (take n knowledge) f) a ≡ knows d a f
knows_is d knowledge n f a h e =
    let known : List Row → ℕ → Bool = λ l i. both (eqb (get_or l i no_knowledge).fluent f) (has (get_or l i no_knowledge).knowers a) in
    union_bit (λ i. eqb (get_or (take n knowledge) i no_knowledge).fluent f) (λ i. (get_or (take n knowledge) i no_knowledge).knowers) 0 (length (take n knowledge)) a
    ∙ (ap (λ (k : ℕ). any (known (take n knowledge)) (numbers 0 k)) (length-take-le n knowledge h)
    ∙ (any_same (known (take n knowledge)) (known knowledge) 0 n (λ i p q. ap (λ (r : Row). both (eqb r.fluent f) (has r.knowers a)) (get_or-take n knowledge i no_knowledge (omega arith)))
    ∙ sym (ap (any (λ (k : Knows). both (eqb k.fluent f) (has k.mask a))) e
    ∙ any_map (λ (k : Knows). both (eqb k.fluent f) (has k.mask a)) (λ i. knowledge_said (get_or knowledge i no_knowledge)) 0 n)))

abbrev pub shared : ℕ → List ℕ → ℕ → Bool
shared crew table = λ f. not (eqb (bit_and crew (get_or table f 0)) 0)

module _ (d : Domain) (table : List ℕ) (entries : List Entry) (agents : ℕ) (knowing : Knowing d table entries agents) (e : ℕ) (known : e < length d.entries) where
  abbrev cut : ℕ
  cut = crew_at entries e % 2 ^ agents

  crew_is : (a : ℕ) → a < agents → has cut a ≡ has (entry_at d e).crew a
  crew_is a h = cut_bit (crew_at entries e) agents a h ∙ ap (λ (m : ℕ). has m a) (sym (knowing.crew e known))

  known_is : (f : ℕ) → f < length table → not (eqb (bit_and cut (get_or table f 0)) 0) ≡ known_to d (entry_at d e) f
  unfolding known_to
  known_is f h =
      shares agents cut (get_or table f 0) (mod-lt (crew_at entries e) (pow_pos agents))
      ∙ (any_same (λ a. both (has cut a) (has (get_or table f 0) a)) (λ a. both (has (entry_at d e).crew a) (knows d a f)) 0 agents
      (λ a p q. ap (λ (t : Bool). both t (has (get_or table f 0) a)) (crew_is a (omega arith)) ∙ ap (λ (t : Bool). both (has (entry_at d e).crew a) t) (knowing.knowers f a h))
      ∙ ap (λ (n : ℕ). any (λ a. both (has (entry_at d e).crew a) (knows d a f)) (numbers 0 n)) (sym knowing.count))

  -- a constraint names only known fluents
  pub readable_is : (c : Con) (used : ℕ) {o : Option (Parsed Con)} {mask : ℕ} → o ≡ some (record { tree = c; used = used }) → allowed_c (context (counts_of d) true) c ≡ true
      → mask ≡ mask_from (shared cut table) 0 (length table) → names_only mask o ≡ readable d (entry_at d e) c
  unfolding readable
  readable_is c used {o} {mask} q fit m =
      ap (names_only mask) q
      ∙ same_named (has mask) (known_to d (entry_at d e)) (context (counts_of d) true)
      (λ f p. let h : f < length table = subst (λ (k : ℕ). f < k) knowing.fluents p in ap (λ (k : ℕ). has k f) m ∙ (mask_bit (shared cut table) 0 (length table) f h ∙ (ap (shared cut table) (let z : 0 + f ≡ f = omega arith in z) ∙ known_is f h))) c fit

-- a law is said in its frame's bytes alone
frame_rest : (l : List ℕ) → drop 2 (take frame_size l) ≡ take most_payload (drop 2 l)
frame_rest [] = refl
frame_rest (x ∷ []) = refl
frame_rest (x ∷ y ∷ l) = refl

pub in_frame : (d : Domain) (bytes : List ℕ) (l : Law) → Says d bytes l → Says d (take frame_size bytes) l
in_frame d bytes l w =
    let left = most_payload - length w.payload in
    let z : length w.payload + (most_payload - length w.payload) ≡ most_payload = omega (arith, w.short) in
    record {
      payload = w.payload;
      more = take left w.more;
      stands = frame_rest bytes ∙ (ap (take most_payload) w.stands ∙ (ap (λ (k : ℕ). take k (w.payload ++ w.more)) (sym z) ∙ take-append-add w.payload w.more left));
      law = ap (λ (k : ℕ). law_in (counts_of d) k w.payload) (get_or-take frame_size bytes 0 0 (omega arith)) ∙ w.law;
      short = w.short;
    }

-- the owner of a law, by its kind
pub owner_other : (d : Domain) (frame : List ℕ) (l : Law) → Says d frame l → (get_or frame 0 0 ≡ 0xA5 → ⊥) → None ≡ owner_of d l
owner_other d frame (executable e c) w n = absurd (n (says d frame (executable e c) w).0)
owner_other d frame (effect e c f x) w n = refl
owner_other d frame (must s c) w n = refl

pub owner_is : (d : Domain) (frame : List ℕ) (table : List ℕ) (entries : List Entry) (agents : ℕ) (l : Law) {e mask : ℕ} {t : Bool} → Says d frame l → get_or frame 0 0 ≡ 0xA5 → Knowing d table entries agents
    → e ≡ get_or frame 2 0 → mask ≡ mask_from (shared (crew_at entries e % 2 ^ agents) table) 0 (length table) → t ≡ names_only mask (parse_c most_depth (drop 3 frame)) → if_else t (Some e) None ≡ owner_of d l
owner_is d frame table entries agents (executable i c) {e} {mask} {t} says' k knowing q m b =
    let s = stands d frame (executable i c) says' in
    let p = (says d frame (executable i c) says').1.0 in
    let i_is : e ≡ i = q ∙ sym (p.0 ∙ get_or-drop 2 frame 0 0) in
    let r : t ≡ readable d (entry_at d i) c = b ∙ readable_is d table entries agents knowing i p.1 c s.used s.read s.fit (m ∙ ap (λ (n : ℕ). mask_from (shared (crew_at entries n % 2 ^ agents) table) 0 (length table)) i_is) in
    ap (λ (n : ℕ). if_else t (Some n) None) i_is ∙ ap (λ (u : Bool). if_else u (Some i) None) r
owner_is d frame table entries agents (effect i c f x) says' k knowing q m b = let z : get_or frame 0 0 ≡ 0xA6 = (says d frame (effect i c f x) says').0 in absurd (omega arith)
owner_is d frame table entries agents (must s c) says' k knowing q m b = absurd (not_entry (get_or frame 0 0) s k (says d frame (must s c) says').0)

-- and of one that is held, by its frame's bytes
pub owner_held : (d : Domain) (held : List ℕ) (at : ℕ) (table : List ℕ) (entries : List Entry) (agents : ℕ) (l : Law) {mask : ℕ} {t : Bool} {frame : List ℕ} → Says d (drop at held) l → get_or held at 0 ≡ 0xA5 → Knowing d table entries agents
    → mask ≡ mask_from (shared (crew_at entries (get_or held (at + 2) 0) % 2 ^ agents) table) 0 (length table) → frame ≡ take frame_size (drop at held) → t ≡ names_only mask (parse_c most_depth (drop 3 frame)) → (b : Bool) → t ≡ b → if_else b (Some (get_or held (at + 2) 0)) None ≡ owner_of d l
owner_held d held at table entries agents l {mask} w' k knowing m f e b is =
    let bytes = drop at held in
    sym (ap (λ (t : Bool). if_else t (Some (get_or held (at + 2) 0)) None) is)
    ∙ owner_is d (take frame_size bytes) table entries agents l (in_frame d bytes l w') (get_or-take frame_size bytes 0 0 (omega arith) ∙ (front held at ∙ k)) knowing
    (sym (get_or-take frame_size bytes 2 0 (omega arith) ∙ get_or-drop at held 2 0)) m (e ∙ ap (λ (b : List ℕ). names_only mask (parse_c most_depth (drop 3 b))) f)

-- What the promises of the session fix: 17 is exact, a series of calls is what document 01 says of it (demand 3), and an answer
-- is the only one that keeps its promise.
use mathlib.Core.Path.{◌≡◌, refl, sym, ap, ◌∙◌}
use mathlib.Core.Bool.{Bool, true}
use mathlib.Core.List.{List, [], ◌∷◌, ◌++◌, map, append-nil}
use Prim.Native.Nat.{ℕ, zero, suc, ◌+◌, ◌-◌, ◌≤◌}
use native.Mathlib.Nat.{add-suc, add-zero}
use native.Mathlib.Omega.{arith}
use lib.Dec.{ltb}
use lib.IntN.{ℤ}
use lib.ListN.{length, take, drop, replicate, length-append, take-append-drop}
use lib.Seq.{take_at, drop_at, take-length, drop-length, length-take-le, append_snoc}
use borrow.Author.Tests.{lt-ltb, le-leb, eq-eqb}
use Rattle.bmap.specs.Limits.{levels_size}
use Rattle.bmap.specs.Refusal.{Answer, got, refused, need, then, number_of}
use Rattle.bmap.specs.Domain.{Domain, Names}
use Rattle.bmap.specs.Store.{domain_in}
use Rattle.bmap.specs.Judge.{judge}
use Rattle.bmap.specs.Verdict.{judgement}
use Rattle.bmap.specs.Session.{Edit, Model, standing_sheet, edited, edit, undo, redo, replayed, opened, verdict, Call, editing, undoing, redoing, judging, Reply, judged, turned, turn, after, replies, model_of, layout, is_open, CouldBeLeft, Changed, changed, on_model, edit_session, undo_session, redo_session, opened_on, open_session, verdict_of}
use Rattle.bmap.specs.Theorems.{OpenExactly, SheetsStand}
use Rattle.bmap.proofs.RefusalLaws.{same_refusal}
use Rattle.bmap.specs.declared.session.Session.{Session}
use Rattle.std.specs.Prelude.{Result, Ok, Err}
use Rattle.bmap.specs.declared.refusal.Refusal.{Refusal}
use Rattle.session.specs.declared.opening.Change.{Change}
use Rattle.session.specs.Calls.{answer_of, changed_of, changed_on, leaves}
use Rattle.bmap.specs.Series.{Called, called_by, called, session_after, replies_of}
use Rattle.line.proofs.Answers.{need_got}
use Rattle.session.proofs.SheetLaws.{got_inj, one_more, prefix_got}
use Rattle.session.proofs.OpenLaws.{every}
use Rattle.session.proofs.CallLaws.{layout_of}
use Rattle.session.proofs.ModelLaws.{Reachable, stands, added, edit_got, after_keeps, turn_keeps, nothing_done, model_back, layout_opens, open_reachable}
use Rattle.session.proofs.SomeDomain.{store_for, domain_for, domain_for_lem, accepted_agents}

-- ---- a model's bytes are read back
pub model_returns : (m : Model) → Reachable m → model_of (layout m) ≡ m
model_returns m r = model_back m r

-- ---- 17 is exact: what could be left is open
pub left_open : (s : Session) → CouldBeLeft s → is_open s ≡ true
left_open s c =
    let a = accepted_agents c.store c.domain c.accepted in
    let r = after_keeps c.calls (opened c.domain) (nothing_done c.domain.agents a.0 a.1) in
    ap is_open c.leaves ∙ layout_opens (after c.calls (opened c.domain)) r

-- ---- and what is open could be left: its edits are done in order, and those that are undone are undone
after_append : (xs ys : List Call) (m : Model) → after (xs ++ ys) m ≡ after ys (after xs m)
unfolding after
after_append [] ys m = refl
after_append (x ∷ xs) ys m = after_append xs ys (turn x m).model

abbrev built : ℕ → List Edit → Model
built n es = record { agents = n; standing = es; undone = [] }

module _ (n : ℕ) (some : 1 ≤ n) (few : n ≤ 16) where
  built_reachable : (es : List Edit) (t : List Names) → length es ≤ 200 → replayed n es [] ≡ got t → Reachable (built n es)
  built_reachable es t l h = record { some = some; few = few; short = omega arith; sheet = t; leaves = ap (λ (x : List Edit). replayed n x []) (append-nil es) ∙ h }

  -- one more edit, of those that can be done in turn
  entered_next : (xs : List Edit) (e : Edit) (ys : List Edit) (t : List Names) → length (xs ++ (e ∷ ys)) ≤ 200 → replayed n (xs ++ (e ∷ ys)) [] ≡ got t
      → (turn (editing e) (built n xs)).model ≡ built n (xs ++ (e ∷ []))
  unfolding turn
  entered_next xs e ys t l h =
      let p = prefix_got n xs (e ∷ ys) [] t h in
      let q = prefix_got n (xs ++ (e ∷ [])) ys [] t (ap (λ (x : List Edit). replayed n x []) (append_snoc xs e ys) ∙ h) in
      let r = built_reachable xs p.0 (omega (arith, length-append xs (e ∷ ys))) p.1 in
      let f : edited n e (standing_sheet (built n xs)) ≡ got q.0 = sym (one_more n xs e [] (standing_sheet (built n xs)) (stands (built n xs) r)) ∙ q.1 in
      rw (edit_got e (built n xs) q.0 (omega (arith, length-append xs (e ∷ ys))) f)

  edits_done : (ys xs : List Edit) (t : List Names) → length (xs ++ ys) ≤ 200 → replayed n (xs ++ ys) [] ≡ got t → after (map editing ys) (built n xs) ≡ built n (xs ++ ys)
  unfolding after
  edits_done [] xs t l h = ap (built n) (sym (append-nil xs))
  edits_done (e ∷ ys) xs t l h =
      let s : xs ++ (e ∷ []) ++ ys ≡ xs ++ (e ∷ ys) = append_snoc xs e ys in
      ap (after (map editing ys)) (entered_next xs e ys t l h)
      ∙ edits_done ys (xs ++ (e ∷ [])) t (omega (arith, ap length s)) (ap (λ (x : List Edit). replayed n x []) s ∙ h)
      ∙ ap (built n) s

  -- of the edits A the first j stand
  abbrev upto : List Edit → ℕ → Model
  upto A j = record { agents = n; standing = take j A; undone = drop j A }

  undone_next : (A : List Edit) (j : ℕ) → suc j ≤ length A → (turn undoing (upto A (suc j))).model ≡ upto A j
  unfolding turn undo
  undone_next A j l =
      let c : length (take (suc j) A) ≡ suc j = length-take-le (suc j) A l in
      let k : length (take (suc j) A) - 1 ≡ j = omega arith in
      rw (lt-ltb 0 (length (take (suc j) A)) (omega arith), take-append-drop (suc j) A, k)

  undos_done : (A : List Edit) (k j : ℕ) → j + k ≤ length A → after (replicate k undoing) (upto A (j + k)) ≡ upto A j
  unfolding after
  undos_done A zero j l = ap (upto A) (add-zero j)
  undos_done A (suc k) j l =
      let e : j + suc k ≡ suc (j + k) = add-suc j k in
      ap (λ (i : ℕ). after (replicate k undoing) (turn undoing (upto A i)).model) e
      ∙ ap (after (replicate k undoing)) (undone_next A (j + k) (omega arith))
      ∙ undos_done A k j (omega arith)

-- the calls that make a reachable model
abbrev calls_for : Model → List Call
calls_for m = map editing (every m) ++ replicate (length m.undone) undoing

calls_make : (m : Model) → Reachable m → after (calls_for m) (built m.agents []) ≡ m
calls_make m r =
    let n : ℕ = m.agents in
    let A : List Edit = every m in
    let S : ℕ = length m.standing in
    let U : ℕ = length m.undone in
    let l : length A ≡ S + U = length-append m.standing m.undone in
    let all : built n A ≡ upto n r.some r.few A (S + U) = λ i. record {
      agents = n;
      standing = (sym (take-length A) ∙ ap (λ (k : ℕ). take k A) l) i;
      undone = (sym (drop-length A) ∙ ap (λ (k : ℕ). drop k A) l) i;
    } in
    after_append (map editing A) (replicate U undoing) (built n [])
    ∙ ap (after (replicate U undoing)) (edits_done n r.some r.few A [] r.sheet (omega (arith, r.short)) r.leaves ∙ all)
    ∙ undos_done n r.some r.few A U S (omega arith)
    ∙ (λ i. record {
      agents = n;
      standing = take_at m.standing m.undone S refl i;
      undone = drop_at m.standing m.undone S refl i;
    })

pub open_left : (s : Session) → is_open s ≡ true → CouldBeLeft s
open_left s h =
    let m : Model = model_of s in
    let r : Reachable m = open_reachable s h in
    record {
      store = store_for m.agents;
      domain = domain_for m.agents;
      accepted = domain_for_lem m.agents r.some r.few;
      calls = calls_for m;
      leaves = layout_of s h ∙ ap layout (sym (calls_make m r));
    }

pub open_exactly : OpenExactly
open_exactly s = (open_left s, left_open s)

-- ---- demand 3: a call on the bytes of a reachable model is the model's
pub verdict_is : (m : Model) → Reachable m → (store : List ℕ) (levels : List ℤ) → verdict_of (layout m) store levels ≡ verdict m store levels
unfolding verdict_of
verdict_is m r store levels = rw (layout_opens m r) (ap (λ (x : Model). verdict x store levels) (model_back m r))

module _ (m : Model) (r : Reachable m) where
  on_model_lem : (f : Model → Answer Model) → changed (layout m) (on_model (layout m) f) ≡ changed (layout m) (f m)
  on_model_lem f = ap (λ (t : Bool). changed (layout m) (need t 17 (f (model_of (layout m))))) (layout_opens m r) ∙ ap (λ (x : Model). changed (layout m) (f x)) (model_back m r)

  by_answer : (a : Answer Model) → called_by (changed (layout m) a) ≡ record { reply = (turned m a).reply; session = layout (turned m a).model }
  by_answer (got m') = refl
  by_answer (refused n) = refl

  called_is : (c : Call) → called c (layout m) ≡ record { reply = (turn c m).reply; session = layout (turn c m).model }
  unfolding called turn edit_session undo_session redo_session
  called_is (editing e) = ap called_by (on_model_lem (edit e)) ∙ by_answer (edit e m)
  called_is undoing = ap called_by (on_model_lem undo) ∙ by_answer (undo m)
  called_is redoing = ap called_by (on_model_lem redo) ∙ by_answer (redo m)
  called_is (judging store levels) = λ i. record { reply = judged (verdict_is m r store levels i); session = layout m }

pub series : (calls : List Call) (m : Model) → Reachable m → (session_after calls (layout m) ≡ layout (after calls m)) × (replies_of calls (layout m) ≡ replies calls m)
unfolding session_after replies_of after replies
series [] m r = (refl, refl)
series (c ∷ calls) m r =
    let e : called c (layout m) ≡ record { reply = (turn c m).reply; session = layout (turn c m).model } = called_is m r c in
    let p = series calls (turn c m).model (turn_keeps c m r) in (
      ap (λ (x : Called). session_after calls x.session) e ∙ p.0,
      ap (λ (x : Called). x.reply ∷ replies_of calls x.session) e ∙ ap (λ (l : List Reply). (turn c m).reply ∷ l) p.1,
    )

-- a verdict for a domain with the session's number of agents is the judge's for its sheet
pub judged_sheet : (m : Model) (store : List ℕ) (d : Domain) (levels : List ℤ) → domain_in store ≡ got d → d.agents ≡ m.agents → levels_size ≤ length levels
    → verdict m store levels ≡ judgement levels (got (judge d (standing_sheet m)))
unfolding verdict
judged_sheet m store d levels a e l = rw (le-leb 2080 (length levels) l, a, eq-eqb d.agents m.agents e)

turned_agents : (m : Model) (a : Answer Model) → ((m' : Model) → a ≡ got m' → m'.agents ≡ m.agents) → (turned m a).model.agents ≡ m.agents
turned_agents m (got m') f = f m' refl
turned_agents m (refused n) f = refl

edit_agents : (e : Edit) (m m' : Model) → edit e m ≡ got m' → m'.agents ≡ m.agents
unfolding edit
edit_agents e m m' h = by_sheet (edited m.agents e (standing_sheet m)) (need_got (ltb (length m.standing) 200) 14 _ m' h).1
  where
    by_sheet : (a : Answer (List Names)) → then a (λ _. got (added e m)) ≡ got m' → m'.agents ≡ m.agents
    by_sheet (got t) g = ap (λ (x : Model). x.agents) (sym (got_inj (added e m) m' g))
    by_sheet (refused n) g = absurd cc

turn_agents : (c : Call) (m : Model) → (turn c m).model.agents ≡ m.agents
unfolding turn undo redo
turn_agents (editing e) m = turned_agents m (edit e m) (λ m' h. edit_agents e m m' h)
turn_agents undoing m = turned_agents m (undo m) (λ m' h. ap (λ (x : Model). x.agents) (sym (got_inj _ m' (need_got (ltb 0 (length m.standing)) 12 _ m' h).1)))
turn_agents redoing m = turned_agents m (redo m) (λ m' h. ap (λ (x : Model). x.agents) (sym (got_inj _ m' (need_got (ltb 0 (length m.undone)) 13 _ m' h).1)))
turn_agents (judging store levels) m = refl

agents_stay : (calls : List Call) (m : Model) → (after calls m).agents ≡ m.agents
unfolding after
agents_stay [] m = refl
agents_stay (c ∷ calls) m = agents_stay calls (turn c m).model ∙ turn_agents c m

pub demand_3 : SheetsStand
unfolding open_session
demand_3 store d calls a =
    let n = accepted_agents store d a in
    let r₀ : Reachable (opened d) = nothing_done d.agents n.0 n.1 in
    let o : opened_on (domain_in store) ≡ opened_on (got d) = ap opened_on a in
    let s = series calls (opened d) r₀ in
    let m : Model = after calls (opened d) in
    let r : Reachable m = after_keeps calls (opened d) r₀ in
    let g : m.agents ≡ d.agents = agents_stay calls (opened d) in
    let leaves : session_after calls (opened_on (domain_in store)).session ≡ layout m = ap (λ (x : Changed). session_after calls x.session) o ∙ s.0 in
    record {
      opens = ap (λ (x : Changed). x.answer) o;
      leaves = leaves;
      answers = ap (λ (x : Changed). replies_of calls x.session) o ∙ s.1;
      sheet = ap (λ (k : ℕ). replayed k m.standing []) (sym g) ∙ stands m r;
      verdicts = λ store' d' levels b e l. ap (λ (x : Session). verdict_of x store' levels) leaves ∙ verdict_is m r store' levels ∙ judged_sheet m store' d' levels b (e ∙ sym g) l;
    }

-- ---- an answer is the only one that keeps its promise
pub same_outcome : (a b : Result (Unit {0}) Refusal) → answer_of a ≡ answer_of b → a ≡ b
same_outcome (Ok x) (Ok y) h = refl
same_outcome (Ok x) (Err q) h = cc
same_outcome (Err r) (Ok y) h = cc
same_outcome (Err r) (Err q) h = let n : number_of r ≡ number_of q = cc in ap Err (same_refusal r q n)

pub same_change : (a b : Change) → changed_of a ≡ changed_of b → a ≡ b
same_change a b h =
    let o : a.outcome ≡ b.outcome = same_outcome a.outcome b.outcome (ap (λ (x : Changed). x.answer) h) in
    let s : a.session ≡ b.session = ap (λ (x : Changed). x.session) h in
    λ i. record { outcome = o i; session = s i }

-- and what a call by value returns
pub same_value : (s : Session) (a b : Result Session Refusal) → changed_on s a ≡ changed_on s b → a ≡ b
same_value s (Ok x) (Ok y) h = ap Ok (ap (λ (x : Changed). x.session) h)
same_value s (Ok x) (Err q) h = let e : got tt ≡ refused (number_of q) = ap (λ (x : Changed). x.answer) h in cc
same_value s (Err r) (Ok y) h = let e : refused (number_of r) ≡ got tt = ap (λ (x : Changed). x.answer) h in cc
same_value s (Err r) (Err q) h = ap Err (same_refusal r q (let e : ◌≡◌ {A = Answer (Unit {0})} (refused (number_of r)) (refused (number_of q)) = ap (λ (x : Changed). x.answer) h in cc))

-- and the session that a call was lent has one value after it
pub same_left : (a b : Result (Unit {0}) Refusal) (s t : Session) → leaves a s ≡ leaves b t → (a ≡ b) × (s ≡ t)
same_left a b s t h = (same_outcome a b (ap (λ (x : Changed). x.answer) h), ap (λ (x : Changed). x.session) h)

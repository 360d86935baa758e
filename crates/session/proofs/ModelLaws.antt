-- The models that an accepted opening and calls after it leave: each call keeps them, and their bytes hold them.
-- Assumes nothing.
use mathlib.Core.Path.{◌≡◌, refl, sym, ap, ◌∙◌, subst}
use mathlib.Core.Bool.{true}
use mathlib.Core.List.{List, [], ◌∷◌, ◌++◌, append_assoc, append-nil}
use Prim.Native.Nat.{ℕ, ◌+◌, ◌-◌, ◌*◌, ◌<◌, ◌≤◌}
use native.Mathlib.Omega.{arith}
use lib.Dec.{ltb}
use lib.ListN.{length, take, drop, replicate, length-append, take-append-drop}
use lib.Seq.{take_at, drop_at}
use borrow.Author.Tests.{ltb-true, lt-ltb}
use Rattle.bmap.specs.Refusal.{Answer, got, refused, then, is_got, or_else}
use Rattle.bmap.specs.Domain.{Names}
use Rattle.bmap.specs.Buffer.{padded}
use Rattle.bmap.specs.Session.{Edit, enter, strike, amend, Model, standing_sheet, edited, edit, moved, undo, redo, replayed, Call, editing, undoing, redoing, judging, turned, turn, after, logged, logged_all, edits_from, model_of, layout, replays, is_open}
use Rattle.bmap.specs.declared.session.Session.{Session}
use Rattle.line.proofs.Answers.{need_got}
use Rattle.session.proofs.SheetLaws.{got_inj, enter_asks, amend_asks, one_more, prefix_got}
use Rattle.session.proofs.LogLaws.{edit_at, Short, AllShort, length_logged, length_all, logged_append}
use Rattle.session.proofs.OpenLaws.{Open, is_open_when, opens, same_session_lem, kept, every, every_edit, agents_kept, count_standing, count_undone}
use Rattle.session.proofs.CallLaws.{kept_is}

pub record Reachable (m : Model) : Type 0 where
  pub some : 1 ≤ m.agents
  pub few : m.agents ≤ 16
  pub short : length m.standing + length m.undone ≤ 200
  pub sheet : List Names
  pub leaves : replayed m.agents (every m) [] ≡ got sheet

-- ---- the sheet of a reachable model is the replay of its standing edits
pub stands : (m : Model) → Reachable m → replayed m.agents m.standing [] ≡ got (standing_sheet m)
unfolding standing_sheet
stands m r =
    let p = prefix_got m.agents m.standing m.undone [] r.sheet r.leaves in
    p.1 ∙ ap got (sym (ap (or_else []) p.1))

-- ---- what each call leaves
abbrev pub added : Edit → Model → Model
added e m = record { agents = m.agents; standing = m.standing ++ (e ∷ []); undone = [] }

pub edit_got : (e : Edit) (m : Model) (t : List Names) → length m.standing < 200 → edited m.agents e (standing_sheet m) ≡ got t → edit e m ≡ got (added e m)
unfolding edit
edit_got e m t h f = rw (lt-ltb (length m.standing) 200 h, f)

edit_keeps : (e : Edit) (m m' : Model) → Reachable m → edit e m ≡ got m' → Reachable m'
unfolding edit
edit_keeps e m m' r h =
    let p = need_got (ltb (length m.standing) 200) 14 _ m' h in
    let l : length m.standing < 200 = ltb-true (length m.standing) 200 p.0 in
    by_sheet l (edited m.agents e (standing_sheet m)) refl p.1
  where
    by_sheet : length m.standing < 200 → (a : Answer (List Names)) → edited m.agents e (standing_sheet m) ≡ a → then a (λ _. got (added e m)) ≡ got m' → Reachable m'
    by_sheet l (got t) q g = subst Reachable (got_inj (added e m) m' g) (record {
      some = r.some;
      few = r.few;
      short = omega (arith, length-append m.standing (e ∷ []));
      sheet = t;
      leaves = ap (λ (es : List Edit). replayed m.agents es []) (append-nil (m.standing ++ (e ∷ []))) ∙ one_more m.agents m.standing e [] (standing_sheet m) (stands m r) ∙ q;
    })
    by_sheet l (refused n) q g = absurd cc

moved_keeps : (m : Model) (k : ℕ) → Reachable m → Reachable (moved m k)
moved_keeps m k r = record {
  some = r.some;
  few = r.few;
  short = omega (arith, r.short, length-append m.standing m.undone, length-append (take k (every m)) (drop k (every m)), ap length (take-append-drop k (every m)));
  sheet = r.sheet;
  leaves = ap (λ (es : List Edit). replayed m.agents es []) (take-append-drop k (every m)) ∙ r.leaves;
}

turned_keeps : (m : Model) (a : Answer Model) → Reachable m → ((m' : Model) → a ≡ got m' → Reachable m') → Reachable (turned m a).model
turned_keeps m (got m') r f = f m' refl
turned_keeps m (refused n) r f = r

undo_keeps : (m m' : Model) → Reachable m → undo m ≡ got m' → Reachable m'
unfolding undo
undo_keeps m m' r h =
    let p = need_got (ltb 0 (length m.standing)) 12 _ m' h in
    subst Reachable (got_inj (moved m (length m.standing - 1)) m' p.1) (moved_keeps m (length m.standing - 1) r)

redo_keeps : (m m' : Model) → Reachable m → redo m ≡ got m' → Reachable m'
unfolding redo
redo_keeps m m' r h =
    let p = need_got (ltb 0 (length m.undone)) 13 _ m' h in
    subst Reachable (got_inj (moved m (length m.standing + 1)) m' p.1) (moved_keeps m (length m.standing + 1) r)

pub turn_keeps : (c : Call) (m : Model) → Reachable m → Reachable (turn c m).model
unfolding turn
turn_keeps (editing e) m r = turned_keeps m (edit e m) r (λ m' h. edit_keeps e m m' r h)
turn_keeps undoing m r = turned_keeps m (undo m) r (λ m' h. undo_keeps m m' r h)
turn_keeps redoing m r = turned_keeps m (redo m) r (λ m' h. redo_keeps m m' r h)
turn_keeps (judging store levels) m r = r

pub after_keeps : (calls : List Call) (m : Model) → Reachable m → Reachable (after calls m)
unfolding after
after_keeps [] m r = r
after_keeps (c ∷ calls) m r = after_keeps calls (turn c m).model (turn_keeps c m r)

pub nothing_done : (n : ℕ) → 1 ≤ n → n ≤ 16 → Reachable (record { agents = n; standing = []; undone = [] })
unfolding replayed
nothing_done n a b = record { some = a; few = b; short = omega arith; sheet = []; leaves = refl }

-- ---- an edit that is done is read from the log as it is written
abbrev Fit : ℕ → Edit → Type 0
Fit n (enter names) = length names ≡ n
Fit n strike = Unit {0}
Fit n (amend k names) = length names ≡ n

abbrev AllFit : ℕ → List Edit → Type 0
AllFit n [] = Unit {0}
AllFit n (e ∷ es) = Fit n e × AllFit n es

fits : (n : ℕ) (e : Edit) (s t : List Names) → edited n e s ≡ got t → Fit n e
fits n (enter names) s t h = (enter_asks n names s t h).0
fits n strike s t h = tt
fits n (amend k names) s t h = (amend_asks n k names s t h).0

all_fit : (n : ℕ) (es : List Edit) (s t : List Names) → replayed n es s ≡ got t → AllFit n es
unfolding replayed
all_fit n [] s t h = tt
all_fit n (e ∷ es) s t h = by_answer (λ u. all_fit n es u t) (edited n e s) refl h
  where
    by_answer : ((u : List Names) → replayed n es u ≡ got t → AllFit n es) → (a : Answer (List Names)) → edited n e s ≡ a → then a (replayed n es) ≡ got t → Fit n e × AllFit n es
    by_answer ih (got u) q g = (fits n e s u q, ih u g)
    by_answer ih (refused m) q g = absurd cc

left_fit : (n : ℕ) (xs ys : List Edit) → AllFit n (xs ++ ys) → AllFit n xs
left_fit n [] ys f = tt
left_fit n (x ∷ xs) ys f = (f.0, left_fit n xs ys f.1)

right_fit : (n : ℕ) (xs ys : List Edit) → AllFit n (xs ++ ys) → AllFit n ys
right_fit n [] ys f = f
right_fit n (x ∷ xs) ys f = right_fit n xs ys f.1

module _ (n : ℕ) (few : n ≤ 16) where
  short_fit : (e : Edit) → Fit n e → Short e
  short_fit (enter names) f = omega arith
  short_fit strike f = tt
  short_fit (amend k names) f = omega arith

  all_short : (es : List Edit) → AllFit n es → AllShort es
  all_short [] f = tt
  all_short (e ∷ es) f = (short_fit e f.0, all_short es f.1)

  names_back : (names rest : List ℕ) → length names ≡ n → take n (padded 16 names ++ rest) ≡ names
  names_back names rest f = rw (append_assoc names (replicate (16 - length names) 0) rest) (take_at names _ n f)

  read_written : (e : Edit) (rest : List ℕ) → Fit n e → edit_at n (logged e ++ rest) ≡ e
  unfolding logged
  read_written (enter names) rest f = ap enter (names_back names rest f)
  read_written strike rest f = refl
  read_written (amend k names) rest f = ap (amend k) (names_back names rest f)

  read_all : (es : List Edit) (rest : List ℕ) → AllFit n es → edits_from n (length es) (logged_all es ++ rest) ≡ es
  unfolding edits_from logged_all
  read_all [] rest f = refl
  read_all (e ∷ es) rest f =
      rw (
        append_assoc (logged e) (logged_all es) rest,
        read_written e (logged_all es ++ rest) f.0,
        drop_at (logged e) (logged_all es ++ rest) 18 (length_logged e (short_fit e f.0)),
        read_all es rest f.1,
      )

-- ---- the bytes of a reachable model hold it
module _ (m : Model) (r : Reachable m) where
  abbrev n : ℕ
  n = m.agents

  abbrev E : List Edit
  E = every m

  abbrev rest : List ℕ
  rest = replicate (3600 - length (logged_all E)) 0

  fit : AllFit n E
  fit = all_fit n E [] r.sheet r.leaves

  apart : logged_all E ++ rest ≡ logged_all m.standing ++ (logged_all m.undone ++ rest)
  apart = ap (λ (l : List ℕ). l ++ rest) (logged_append m.standing m.undone) ∙ append_assoc (logged_all m.standing) (logged_all m.undone) rest

  front : edits_from n (length m.standing) (logged_all E ++ rest) ≡ m.standing
  front = ap (edits_from n (length m.standing)) apart ∙ read_all n r.few m.standing (logged_all m.undone ++ rest) (left_fit n m.standing m.undone fit)

  back : edits_from n (length m.undone) (drop (length m.standing * 18) (logged_all E ++ rest)) ≡ m.undone
  back =
      ap (λ (l : List ℕ). edits_from n (length m.undone) (drop (length m.standing * 18) l)) apart
      ∙ ap (edits_from n (length m.undone)) (drop_at (logged_all m.standing) (logged_all m.undone ++ rest) (length m.standing * 18) (length_all m.standing (all_short n r.few m.standing (left_fit n m.standing m.undone fit))))
      ∙ read_all n r.few m.undone rest (right_fit n m.standing m.undone fit)

  pub model_back : model_of (layout m) ≡ m
  unfolding model_of layout
  model_back =
      let u : length m.standing + length m.undone - length m.standing ≡ length m.undone = omega arith in
      λ i. record { agents = n; standing = front i; undone = (ap (λ (k : ℕ). edits_from n k (drop (length m.standing * 18) (logged_all E ++ rest))) u ∙ back) i }

  test_holds : kept (layout m) ≡ true
  test_holds =
      let a : replays (model_of (layout m)) ≡ true = ap replays model_back ∙ ap is_got r.leaves in
      rw a (same_session_lem (layout m) (layout (model_of (layout m))) (ap layout (sym model_back)))

  layout_open : Open (layout m)
  unfolding layout
  layout_open = record { some = r.some; few = r.few; below = omega arith; short = r.short; test = test_holds }

  pub layout_opens : is_open (layout m) ≡ true
  layout_opens = is_open_when (layout m) layout_open

-- ---- an open session holds a reachable model
pub open_reachable : (s : Session) → is_open s ≡ true → Reachable (model_of s)
open_reachable s h =
    let o = opens s h in
    let k = kept_is s h in
    let b = o.below in
    record {
      some = rw (agents_kept s) o.some;
      few = rw (agents_kept s) o.few;
      short = omega (arith, count_standing s, count_undone s, o.short);
      sheet = k.sound.sheet;
      leaves = ap (λ (x : ℕ). replayed x (every (model_of s)) []) (agents_kept s) ∙ ap (λ (es : List Edit). replayed s.agents es []) (every_edit s b) ∙ k.sound.leaves;
    }

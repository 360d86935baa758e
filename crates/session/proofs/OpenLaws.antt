-- What `is_open` says of a session's bytes: they are the layout of the model that they hold.
-- Assumes nothing.
use mathlib.Core.Path.{◌≡◌, refl, sym, ap, subst, ◌∙◌}
use mathlib.Core.Bool.{Bool, true, false, ◌&&◌}
use mathlib.Core.List.{List, [], ◌++◌}
use Prim.Native.Nat.{ℕ, ◌+◌, ◌-◌, ◌*◌, ◌≤◌}
use native.Mathlib.Omega.{arith}
use lib.Dec.{eqb, leb}
use lib.Pointwise.{pointwise, bytes_decides}
use lib.ListN.{length, take, drop, replicate, length-drop, take-append-drop}
use lib.Seq.{take_at, drop_at}
use Rattle.std.proofs.lemmas.Bool.{and_from, and_parts}
use borrow.Author.Tests.{eq-eqb, eqb-true, leb-true, le-leb}
use Rattle.bmap.specs.Plain.{both}
use Rattle.bmap.specs.Refusal.{Answer, got, refused, is_got, or_else}
use Rattle.bmap.specs.Buffer.{padded}
use Rattle.bmap.specs.Store.{zeros}
use Rattle.bmap.specs.Session.{Edit, Model, standing_sheet, replayed, logged_all, edits_from, model_of, layout, same_bytes, same_session, replays, is_open}
use Rattle.bmap.specs.declared.limits.Sheet.{Sheet}
use Rattle.bmap.specs.declared.session.Session.{Session}
use Rattle.session.specs.Log.{Sound, Holds, Reached}
use Rattle.session.proofs.ListLaws.{is_false, same_refl, same_eq}
use Rattle.bmap.proofs.PlainLaws.{both_true}
use Rattle.line.proofs.Lists.{zeros_are, zeros_replicate}
use Rattle.session.proofs.SheetLaws.{page}
use Rattle.session.proofs.LogLaws.{length_edits, edits_upto, length_edits_logged, sound_sheet, sound_prefix}

-- ---- two sheets compared, as `==` does
pub like_sheet : (x y : Sheet) → x ≡ y → (eqb x.steps y.steps && pointwise eqb x.names y.names) ≡ true
like_sheet x y e =
    and_from _ _ (eq-eqb x.steps y.steps (ap (λ (z : Sheet). z.steps) e)) ((bytes_decides x.names y.names).1 (ap (λ (z : Sheet). z.names) e))

pub sheet_like : (x y : Sheet) → (eqb x.steps y.steps && pointwise eqb x.names y.names) ≡ true → x ≡ y
sheet_like x y h =
    let p = and_parts _ _ h in
    let b = (bytes_decides x.names y.names).0 p.1 in
    λ i. record { steps = eqb-true x.steps y.steps p.0 i; names = b i }

-- ---- two sessions compared
pub same_session_lem : (s t : Session) → s ≡ t → same_session s t ≡ true
unfolding same_session
same_session_lem s t e =
    ap (same_session s) (sym e)
    ∙ rw (eq-eqb s.agents s.agents refl, eq-eqb s.sheet.steps s.sheet.steps refl, same_refl s.sheet.names, eq-eqb s.standing s.standing refl, eq-eqb s.total s.total refl)
    (same_refl s.log)

pub session_same : (s t : Session) → same_session s t ≡ true → s ≡ t
unfolding same_session
session_same s t h =
    let a = both_true (eqb s.agents t.agents) _ h in
    let b = both_true (eqb s.sheet.steps t.sheet.steps) _ a.1 in
    let c = both_true (same_bytes s.sheet.names t.sheet.names) _ b.1 in
    let d = both_true (eqb s.standing t.standing) _ c.1 in
    let e = both_true (eqb s.total t.total) _ d.1 in
    λ i. record {
      agents = eqb-true s.agents t.agents a.0 i;
      sheet = record { steps = eqb-true s.sheet.steps t.sheet.steps b.0 i; names = same_eq s.sheet.names t.sheet.names c.0 i };
      standing = eqb-true s.standing t.standing d.0 i;
      total = eqb-true s.total t.total e.0 i;
      log = same_eq s.log t.log e.1 i;
    }

pub is_got_lem : {A : Type 0} (a : Answer A) → is_got a ≡ true → (x : A) × (a ≡ got x)
is_got_lem (got x) h = (x, refl)
is_got_lem (refused n) h = absurd cc

-- ---- the model that a session's bytes hold
abbrev pub every : Model → List Edit
every m = m.standing ++ m.undone

pub every_edit : (s : Session) → s.standing ≤ s.total → every (model_of s) ≡ edits_from s.agents s.total s.log
unfolding model_of
every_edit s h = sym (edits_upto s.agents s.standing s.total s.log h)

pub count_standing : (s : Session) → length (model_of s).standing ≡ s.standing
unfolding model_of
count_standing s = length_edits s.agents s.standing s.log

pub count_undone : (s : Session) → length (model_of s).undone ≡ s.total - s.standing
unfolding model_of
count_undone s = length_edits s.agents (s.total - s.standing) (drop (s.standing * 18) s.log)

pub agents_kept : (s : Session) → (model_of s).agents ≡ s.agents
unfolding model_of
agents_kept s = refl

pub sheet_standing : (s : Session) (a : Sound s.agents s.standing s.log) → standing_sheet (model_of s) ≡ a.sheet
unfolding standing_sheet model_of
sheet_standing s a = ap (or_else []) a.leaves

-- ---- the bytes, one by one
pub record Kept (s : Session) : Type 0 where
  pub sound : Sound s.agents s.total s.log
  pub stands : Reached s.agents s.standing s.log s.sheet
  pub tail : zeros (drop (s.total * 18) s.log) ≡ true

abbrev pub kept : Session → Bool
kept s = both (replays (model_of s)) (same_session s (layout (model_of s)))

module _ (s : Session) (few : s.agents ≤ 16) (below : s.standing ≤ s.total) (short : s.total ≤ 200) where
  abbrev n : ℕ
  n = s.agents

  abbrev es : List Edit
  es = edits_from n s.total s.log

  es_length : length (logged_all es) ≡ s.total * 18
  es_length = length_edits_logged n s.total s.log few

  -- the log is its edits as they are written, zeros after
  log_is : length s.log ≡ 3600 → Kept s → s.log ≡ padded 3600 (logged_all es)
  log_is len k =
      let l : length (drop (s.total * 18) s.log) ≡ 3600 - length (logged_all es) = omega (arith, length-drop (s.total * 18) s.log, es_length) in
      sym (take-append-drop (s.total * 18) s.log)
      ∙ ap (λ (x : List ℕ). x ++ drop (s.total * 18) s.log) k.sound.written
      ∙ ap (λ (x : List ℕ). logged_all es ++ x) (zeros_are (drop (s.total * 18) s.log) k.tail ∙ ap (λ (i : ℕ). replicate i 0) l)

  pub kept_layout : length s.log ≡ 3600 → Kept s → s ≡ layout (model_of s)
  unfolding layout
  kept_layout len k =
      let sh : standing_sheet (model_of s) ≡ k.stands.sound.sheet = sheet_standing s k.stands.sound in
      let t : length (model_of s).standing + length (model_of s).undone ≡ s.total = omega (arith, count_standing s, count_undone s) in
      let lg : s.log ≡ padded 3600 (logged_all (every (model_of s))) = log_is len k ∙ ap (λ (x : List Edit). padded 3600 (logged_all x)) (sym (every_edit s below)) in
      λ i. record {
        agents = sym (agents_kept s) i;
        sheet = record { steps = (k.stands.holds.count ∙ ap length (sym sh)) i; names = (k.stands.holds.bytes ∙ ap page (sym sh)) i };
        standing = sym (count_standing s) i;
        total = sym t i;
        log = lg i;
      }

  kept_replays : Kept s → replays (model_of s) ≡ true
  kept_replays k =
      ap (λ (x : ℕ). is_got (replayed x (every (model_of s)) [])) (agents_kept s)
      ∙ ap (λ (x : List Edit). is_got (replayed n x [])) (every_edit s below)
      ∙ ap is_got k.sound.leaves

  pub kept_true : length s.log ≡ 3600 → Kept s → true ≡ kept s
  kept_true len k = sym (rw (kept_replays k) (same_session_lem s (layout (model_of s)) (kept_layout len k)))

  -- and back
  module _ (h : kept s ≡ true) where
    parts : (replays (model_of s) ≡ true) × (same_session s (layout (model_of s)) ≡ true)
    parts = both_true (replays (model_of s)) (same_session s (layout (model_of s))) h

    pub layout_is : s ≡ layout (model_of s)
    layout_is = session_same s (layout (model_of s)) parts.1

    log_laid : s.log ≡ logged_all es ++ replicate (3600 - length (logged_all es)) 0
    unfolding layout
    log_laid = ap (λ (x : Session). x.log) layout_is ∙ ap (λ (x : List Edit). padded 3600 (logged_all x)) (every_edit s below)

    all_sound : Sound n s.total s.log
    all_sound =
        let p = is_got_lem (replayed (model_of s).agents (every (model_of s)) []) parts.0 in
        record {
          sheet = p.0;
          written = ap (take (s.total * 18)) log_laid ∙ take_at (logged_all es) (replicate (3600 - length (logged_all es)) 0) (s.total * 18) es_length;
          leaves = ap (λ (x : List Edit). replayed n x []) (sym (every_edit s below)) ∙ ap (λ (x : ℕ). replayed x (every (model_of s)) []) (sym (agents_kept s)) ∙ p.1;
        }

    held : (a : Sound n s.standing s.log) → Holds a.sheet s.sheet
    unfolding layout
    held a =
        let sh : standing_sheet (model_of s) ≡ a.sheet = sheet_standing s a in
        record {
          count = ap (λ (x : Session). x.sheet.steps) layout_is ∙ ap length sh;
          bytes = ap (λ (x : Session). x.sheet.names) layout_is ∙ ap page sh;
        }

    pub true_kept : Kept s
    true_kept =
        let a : Sound n s.standing s.log = sound_prefix n s.log few s.standing s.total below all_sound in
        record {
          sound = all_sound;
          stands = record { sound = a; holds = held a };
          tail = ap (λ (x : List ℕ). zeros (drop (s.total * 18) x)) log_laid ∙ ap zeros (drop_at (logged_all es) (replicate (3600 - length (logged_all es)) 0) (s.total * 18) es_length) ∙ zeros_replicate (3600 - length (logged_all es));
        }

  -- ---- the tests of the code, in order
  pub not_standing : (Sound n s.standing s.log → ⊥) → false ≡ kept s
  not_standing f = is_false (kept s) (λ h. f (true_kept h).stands.sound)

  pub not_all : (Sound n s.total s.log → ⊥) → false ≡ kept s
  not_all f = is_false (kept s) (λ h. f (true_kept h).sound)

  module _ (sheet : Sheet) (a : Reached n s.standing s.log sheet) where
    same_sheet : (h : kept s ≡ true) → a.sound.sheet ≡ (true_kept h).stands.sound.sheet
    same_sheet h = sound_sheet n s.log s.standing a.sound (true_kept h).stands.sound

    pub other_sheet : (sheet ≡ s.sheet → ⊥) → false ≡ kept s
    other_sheet f = is_false (kept s) (λ h. f (λ i. record {
      steps = (a.holds.count ∙ ap length (same_sheet h) ∙ sym (true_kept h).stands.holds.count) i;
      names = (a.holds.bytes ∙ ap page (same_sheet h) ∙ sym (true_kept h).stands.holds.bytes) i;
    }))

    pub by_tail : length s.log ≡ 3600 → sheet ≡ s.sheet → Sound n s.total s.log → (t : Bool) → t ≡ zeros (drop (s.total * 18) s.log) → t ≡ kept s
    by_tail len c d true e = kept_true len (record { sound = d; stands = subst (Reached n s.standing s.log) c a; tail = sym e })
    by_tail len c d false e = is_false (kept s) (λ h. let z = (true_kept h).tail in absurd cc)

-- ---- the whole test
pub record Open (s : Session) : Type 0 where
  pub some : 1 ≤ s.agents
  pub few : s.agents ≤ 16
  pub below : s.standing ≤ s.total
  pub short : s.total ≤ 200
  pub test : kept s ≡ true

pub opens : (s : Session) → is_open s ≡ true → Open s
unfolding is_open
opens s h =
    let a = both_true (both (leb 1 s.agents) (leb s.agents 16)) _ h in
    let b = both_true (leb 1 s.agents) (leb s.agents 16) a.0 in
    let c = both_true (both (leb s.standing s.total) (leb s.total 200)) (kept s) a.1 in
    let d = both_true (leb s.standing s.total) (leb s.total 200) c.0 in
    record { some = leb-true _ _ b.0; few = leb-true _ _ b.1; below = leb-true _ _ d.0; short = leb-true _ _ d.1; test = c.1 }

pub is_open_when : (s : Session) → Open s → is_open s ≡ true
unfolding is_open
is_open_when s o = rw (le-leb 1 s.agents o.some, le-leb s.agents 16 o.few, le-leb s.standing s.total o.below, le-leb s.total 200 o.short) o.test

-- the test of the limits, and the rest
abbrev pub limits : Session → Bool
limits s = both (both (leb 1 s.agents) (leb s.agents 16)) (both (leb s.standing s.total) (leb s.total 200))

pub outside : (s : Session) → limits s ≡ false → false ≡ is_open s
unfolding is_open
outside s h = by_tests (both (leb 1 s.agents) (leb s.agents 16)) (both (leb s.standing s.total) (leb s.total 200)) h
  where
    by_tests : (a b : Bool) → both a b ≡ false → false ≡ both a (both b (kept s))
    by_tests true b e = ap (λ (x : Bool). both x (kept s)) (sym e)
    by_tests false b e = refl

pub record Within (s : Session) : Type 0 where
  pub few : s.agents ≤ 16
  pub below : s.standing ≤ s.total
  pub short : s.total ≤ 200

pub within : (s : Session) → limits s ≡ true → Within s
within s h =
    let a = both_true (both (leb 1 s.agents) (leb s.agents 16)) _ h in
    let b = both_true (leb 1 s.agents) (leb s.agents 16) a.0 in
    let d = both_true (leb s.standing s.total) (leb s.total 200) a.1 in
    record { few = leb-true _ _ b.1; below = leb-true _ _ d.0; short = leb-true _ _ d.1 }

pub inside : (s : Session) → limits s ≡ true → (t : Bool) → t ≡ kept s → t ≡ is_open s
unfolding is_open
inside s h t e =
    let a = both_true (both (leb 1 s.agents) (leb s.agents 16)) _ h in
    rw (a.0, a.1) e

-- a walk that is stuck before the standing edits are done
pub stuck_open : (s : Session) → limits s ≡ true → (k : ℕ) → k ≤ s.standing → (Sound s.agents k s.log → ⊥) → is_open s ≡ false
stuck_open s h k l f =
    let w = within s h in
    sym (inside s h false (not_standing s w.few w.below w.short (λ a. f (sound_prefix s.agents s.log w.few k s.standing l a))))

pub ruleset open_as = (outside, within, inside, stuck_open)

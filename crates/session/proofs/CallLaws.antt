-- What each call by value returns is what its promise says, case by case.
-- Assumes nothing.
use mathlib.Core.Path.{◌≡◌, refl, sym, ap, ◌∙◌}
use mathlib.Core.Bool.{Bool, true, false}
use mathlib.Core.List.{List, [], ◌∷◌, ◌++◌, append_assoc, append-nil}
use Prim.Native.Nat.{ℕ, ◌+◌, ◌-◌, ◌*◌, ◌<◌, ◌≤◌}
use native.Mathlib.Omega.{arith}
use lib.Dec.{leb, ltb}
use lib.ListN.{length, take, drop, set, replicate, length-append, length-drop, length-set, length-replicate, replicate-append-replicate, take-append-drop}
use lib.Seq.{take_at, length-take-le}
use borrow.Author.Tests.{ltb-true, ltb-false, leb-true, eq-eqb, ne_eqb, lt-ltb, le-ltb}
use Rattle.std.specs.Prelude.{None, Some}
use Rattle.std.proofs.lemmas.List.{take-replicate}
use Rattle.bmap.specs.Plain.{both}
use Rattle.bmap.proofs.PlainLaws.{both_true}
use Rattle.bmap.specs.Refusal.{Answer, got, refused, need, or_else}
use Rattle.bmap.specs.Domain.{Names}
use Rattle.bmap.specs.Buffer.{padded}
use Rattle.bmap.specs.Session.{Edit, enter, strike, amend, Model, standing_sheet, edited, edit, moved, undo, redo, replayed, logged, logged_all, edits_from, model_of, layout, changed, is_open, edit_session, undo_session, redo_session}
use Rattle.bmap.specs.declared.limits.Sheet.{Sheet}
use Rattle.bmap.specs.declared.session.Session.{Session}
use Rattle.session.specs.declared.log.Place.{Place}
use Rattle.session.specs.Log.{laid, place_of, Sound, Reached}
use Rattle.session.specs.Calls.{may_edit, done, with_edit}
use Rattle.session.proofs.ListLaws.{padded_zeros}
use Rattle.session.proofs.SheetLaws.{page, Fits, one_more, enter_got, strike_got, amend_got, enter_page, strike_page, amend_page}
use Rattle.session.proofs.TurnLaws.{place_inv, place_none}
use Rattle.session.proofs.LogLaws.{length_edits, edits_upto, length_edits_logged, logged_one, sound_prefix, sound_fits}
use Rattle.session.proofs.OpenLaws.{Open, opens, Kept, layout_is, true_kept, every, every_edit, count_standing, count_undone, agents_kept, sheet_standing}

-- the same edits, of which the first k stand and leave this sheet
abbrev standing_at : Session → ℕ → Sheet → Session
standing_at s k sheet = record { agents = s.agents; sheet = sheet; standing = k; total = s.total; log = s.log }

-- ---- an open session
module _ (s : Session) (h : is_open s ≡ true) where
  pub open_is : Open s
  open_is = opens s h

  pub kept_is : Kept s
  kept_is = let o = open_is in true_kept s o.few o.below o.short o.test

  pub layout_of : s ≡ layout (model_of s)
  layout_of = let o = open_is in layout_is s o.few o.below o.short o.test

  pub standing_sheet_lem : List Names
  standing_sheet_lem = kept_is.stands.sound.sheet

  pub steps_are : s.sheet.steps ≡ length standing_sheet_lem
  unfolding standing_sheet_lem
  steps_are = kept_is.stands.holds.count

  pub names_are : s.sheet.names ≡ page standing_sheet_lem
  unfolding standing_sheet_lem
  names_are = kept_is.stands.holds.bytes

  pub sheet_fits : Fits s.agents standing_sheet_lem
  unfolding standing_sheet_lem
  sheet_fits = sound_fits s.agents s.log s.standing kept_is.stands.sound

  pub reached : Reached s.agents s.standing s.log s.sheet
  reached = kept_is.stands

  pub sound_upto : (k : ℕ) → k ≤ s.total → Sound s.agents k s.log
  sound_upto k l = sound_prefix s.agents s.log open_is.few k s.total l kept_is.sound

  pub sheet_is : standing_sheet (model_of s) ≡ standing_sheet_lem
  unfolding standing_sheet_lem
  sheet_is = sheet_standing s kept_is.stands.sound

  -- ---- undo and redo: the same edits, of which the first k stand
  module _ (k : ℕ) (l : k ≤ s.total) (sheet : Sheet) (a : Reached s.agents k s.log sheet) where
    abbrev E : List Edit
    E = every (model_of s)

    take_is : take k E ≡ edits_from s.agents k s.log
    take_is =
        ap (take k) (every_edit s open_is.below ∙ edits_upto s.agents k s.total s.log l)
        ∙ take_at (edits_from s.agents k s.log) (edits_from s.agents (s.total - k) (drop (k * 18) s.log)) k (length_edits s.agents k s.log)

    count_is : length (take k E) ≡ k
    count_is = ap length take_is ∙ length_edits s.agents k s.log

    moved_sheet : standing_sheet (moved (model_of s) k) ≡ a.sound.sheet
    unfolding standing_sheet
    moved_sheet = ap (λ (n : ℕ). or_else [] (replayed n (take k E) [])) (agents_kept s) ∙ ap (λ (es : List Edit). or_else [] (replayed s.agents es [])) take_is ∙ ap (or_else []) a.sound.leaves

    moved_log : padded 3600 (logged_all (take k E ++ drop k E)) ≡ s.log
    unfolding layout
    moved_log = ap (λ (es : List Edit). padded 3600 (logged_all es)) (take-append-drop k E) ∙ sym (ap (λ (x : Session). x.log) layout_of)

    moved_total : length (take k E) + length (drop k E) ≡ s.total
    moved_total =
        let b = open_is.below in
        omega (arith, count_is, length-drop k E, length-append (model_of s).standing (model_of s).undone, count_standing s, count_undone s)

    pub moved_is : standing_at s k sheet ≡ layout (moved (model_of s) k)
    unfolding layout
    moved_is = λ i. record {
      agents = sym (agents_kept s) i;
      sheet = record { steps = (a.holds.count ∙ ap length (sym moved_sheet)) i; names = (a.holds.bytes ∙ ap page (sym moved_sheet)) i };
      standing = sym count_is i;
      total = sym moved_total i;
      log = sym moved_log i;
    }

  pub undone_12 : s.standing ≡ 0 → changed s (refused 12) ≡ undo_session s
  unfolding undo_session undo
  undone_12 z = sym (rw (h, count_standing s, le-ltb 0 s.standing (omega arith)))

  pub undone_got : (k : ℕ) (sheet : Sheet) → k ≡ s.standing - 1 → 0 < s.standing → Reached s.agents k s.log sheet → done (standing_at s k sheet) ≡ undo_session s
  unfolding undo_session undo
  undone_got k sheet e p a =
      let b = open_is.below in
      rw (h, count_standing s, lt-ltb 0 s.standing p, ← e) (ap done (moved_is k (omega arith) sheet a))

  pub redone_13 : s.total ≤ s.standing → changed s (refused 13) ≡ redo_session s
  unfolding redo_session redo
  redone_13 z = sym (rw (h, count_undone s, le-ltb 0 (s.total - s.standing) (omega arith)))

  pub redone_got : s.standing < s.total → (sheet : Sheet) → Reached s.agents (s.standing + 1) s.log sheet
      → done (standing_at s (s.standing + 1) sheet) ≡ redo_session s
  unfolding redo_session redo
  redone_got p sheet a =
      rw (h, count_undone s, lt-ltb 0 (s.total - s.standing) (omega arith), count_standing s) (ap done (moved_is (s.standing + 1) (omega arith) sheet a))

  -- ---- a new edit
  pub edited_14 : (e : Edit) → 200 ≤ s.standing → changed s (refused 14) ≡ edit_session e s
  unfolding edit_session edit
  edited_14 e z = sym (rw (h, count_standing s, le-ltb s.standing 200 z))

  module _ (e : Edit) (few : s.standing < 200) where
    tried : (a : Answer (List Names)) → edited s.agents e standing_sheet_lem ≡ a → edited (model_of s).agents e (standing_sheet (model_of s)) ≡ a
    tried a f = ap (λ (n : ℕ). edited n e (standing_sheet (model_of s))) (agents_kept s) ∙ ap (edited s.agents e) sheet_is ∙ f

    pub edited_refused : (k : ℕ) → edited s.agents e standing_sheet_lem ≡ refused k → changed s (refused k) ≡ edit_session e s
    unfolding edit_session edit
    edited_refused k f = sym (rw (h, count_standing s, lt-ltb s.standing 200 few, tried (refused k) f))

    abbrev after : Model
    after = record { agents = (model_of s).agents; standing = (model_of s).standing ++ (e ∷ []); undone = [] }

    pub edited_model : (t : List Names) → edited s.agents e standing_sheet_lem ≡ got t → done (layout after) ≡ edit_session e s
    unfolding edit_session edit
    edited_model t f = sym (rw (h, count_standing s, lt-ltb s.standing 200 few, tried (got t) f))

    module _ (kind number : ℕ) (names : List ℕ) (step steps : ℕ) (t : List Names) (f : edited s.agents e standing_sheet_lem ≡ got t)
        (w : logged e ≡ kind ∷ number ∷ padded 16 names) (short : length names ≤ 16) (c : steps ≡ length t)
        (p : laid (page standing_sheet_lem) (step * s.agents) names ≡ page t) where
      abbrev S : List Edit
      S = edits_from s.agents s.standing s.log

      standing_are : (model_of s).standing ≡ S
      unfolding model_of
      standing_are = refl

      after_sheet : standing_sheet after ≡ t
      unfolding standing_sheet standing_sheet_lem
      after_sheet =
          ap (λ (n : ℕ). or_else [] (replayed n ((model_of s).standing ++ (e ∷ [])) [])) (agents_kept s)
          ∙ ap (λ (es : List Edit). or_else [] (replayed s.agents (es ++ (e ∷ [])) [])) standing_are
          ∙ ap (or_else []) (one_more s.agents S e [] kept_is.stands.sound.sheet kept_is.stands.sound.leaves ∙ f)

      after_count : length ((model_of s).standing ++ (e ∷ [])) ≡ s.standing + 1
      after_count = omega (arith, length-append (model_of s).standing (e ∷ []), count_standing s)

      after_total : length ((model_of s).standing ++ (e ∷ [])) + 0 ≡ s.standing + 1
      after_total = omega (arith, after_count)

      abbrev head : List ℕ
      head = take (s.standing * 18) s.log ++ (kind ∷ number ∷ names)

      entries : logged_all (every after) ≡ head ++ replicate (16 - length names) 0
      entries =
          ap logged_all (append-nil ((model_of s).standing ++ (e ∷ [])) ∙ ap (λ (es : List Edit). es ++ (e ∷ [])) standing_are)
          ∙ logged_one S e
          ∙ ap (λ (x : List ℕ). x ++ logged e) (sym kept_is.stands.sound.written)
          ∙ ap (λ (x : List ℕ). take (s.standing * 18) s.log ++ x) w
          ∙ sym (append_assoc (take (s.standing * 18) s.log) (kind ∷ number ∷ names) (replicate (16 - length names) 0))

      head_length : length head + (16 - length names) ≤ 3600
      head_length =
          let a : length (take (s.standing * 18) s.log) ≡ s.standing * 18 = ap length kept_is.stands.sound.written ∙ length_edits_logged s.agents s.standing s.log open_is.few in
          omega (arith, length-append (take (s.standing * 18) s.log) (kind ∷ number ∷ names))

      pub edited_got : done (with_edit s kind number names step steps) ≡ edit_session e s
      unfolding layout
      edited_got =
          ap done (λ i. record {
            agents = sym (agents_kept s) i;
            sheet = record {
              steps = (c ∙ ap length (sym after_sheet)) i;
              names = (ap (λ (x : List ℕ). laid x (step * s.agents) names) names_are ∙ p ∙ ap page (sym after_sheet)) i;
            };
            standing = sym after_count i;
            total = sym after_total i;
            log = (sym (padded_zeros 3600 (16 - length names) head head_length) ∙ ap (padded 3600) (sym entries)) i;
          })
          ∙ edited_model t f

-- ---- a session that is not open
module _ (s : Session) (h : is_open s ≡ false) where
  pub edited_17 : (e : Edit) → changed s (refused 17) ≡ edit_session e s
  unfolding edit_session
  edited_17 e = sym (rw h)

  pub undone_17 : changed s (refused 17) ≡ undo_session s
  unfolding undo_session
  undone_17 = sym (rw h)

  pub redone_17 : changed s (refused 17) ≡ redo_session s
  unfolding redo_session
  redone_17 = sym (rw h)

-- ---- what every edit asks first
module _ (s : Session) where
  pub may_done : got tt ≡ may_edit s → (is_open s ≡ true) × (s.standing < 200)
  may_done m = by_tests (is_open s) (ltb s.standing 200) refl refl m
    where
      by_tests : (o f : Bool) → is_open s ≡ o → ltb s.standing 200 ≡ f → ◌≡◌ {A = Answer (Unit {0})} (got tt) (need o 17 (need f 14 (got tt))) → (is_open s ≡ true) × (s.standing < 200)
      by_tests true true p q h = (p, ltb-true s.standing 200 q)
      by_tests true false p q h = absurd cc
      by_tests false f p q h = absurd cc

  pub may_refused : (why : ℕ) → refused why ≡ may_edit s → (e : Edit) → changed s (refused why) ≡ edit_session e s
  may_refused why m e = by_tests (is_open s) (ltb s.standing 200) refl refl m
    where
      by_tests : (o f : Bool) → is_open s ≡ o → ltb s.standing 200 ≡ f → ◌≡◌ {A = Answer (Unit {0})} (refused why) (need o 17 (need f 14 (got tt))) → changed s (refused why) ≡ edit_session e s
      by_tests true true p q h = absurd cc
      by_tests true false p q h = ap (λ (k : ℕ). changed s (refused k)) (let z : why ≡ 14 = cc in z) ∙ edited_14 s p e (ltb-false s.standing 200 q)
      by_tests false f p q h = ap (λ (k : ℕ). changed s (refused k)) (let z : why ≡ 17 = cc in z) ∙ edited_17 s p e

-- ---- the refusals of an edit of a sheet
module _ (n : ℕ) (t : List Names) where
  pub enter_8 : (y : Names) → (length y ≡ n → ⊥) → edited n (enter y) t ≡ refused 8
  unfolding edited
  enter_8 y h = rw (ne_eqb (length y) n h)

  pub enter_9 : (y : Names) → length y ≡ n → 64 ≤ length t → edited n (enter y) t ≡ refused 9
  unfolding edited
  enter_9 y h l = rw (eq-eqb (length y) n h, le-ltb (length t) 64 l)

  pub strike_11 : length t ≡ 0 → edited n strike t ≡ refused 11
  unfolding edited
  strike_11 h = rw (le-ltb 0 (length t) (omega arith))

  pub amend_8 : (k : ℕ) (y : Names) → (length y ≡ n → ⊥) → edited n (amend k y) t ≡ refused 8
  unfolding edited
  amend_8 k y h = rw (ne_eqb (length y) n h)

  pub amend_11 : (k : ℕ) (y : Names) → length y ≡ n → both (ltb 0 k) (leb k (length t)) ≡ false → edited n (amend k y) t ≡ refused 11
  unfolding edited
  amend_11 k y h z = rw (eq-eqb (length y) n h, z)

-- a strike is written as if it laid idle names
pub strike_written : (n : ℕ) → n ≤ 16 → logged strike ≡ 2 ∷ 0 ∷ padded 16 (replicate n 0)
unfolding logged
strike_written n h =
    let a : n + (16 - n) ≡ 16 = omega arith in
    sym (rw (length-replicate {A = ℕ} n 0, replicate-append-replicate {A = ℕ} n (16 - n) 0, a))

-- ---- the three edits, by the bytes
module _ (s : Session) (h : is_open s ≡ true) (few : s.standing < 200) where
  abbrev n : ℕ
  n = s.agents

  pub open_few : n ≤ 16
  open_few = (open_is s h).few

  pub open_steps : s.sheet.steps ≤ 64
  open_steps = omega (arith, steps_are s h, (sheet_fits s h).1)

  enter_logged : (y : Names) → logged (enter y) ≡ 1 ∷ 0 ∷ padded 16 y
  unfolding logged
  enter_logged y = refl

  amend_logged : (k : ℕ) (y : Names) → logged (amend k y) ≡ 3 ∷ k ∷ padded 16 y
  unfolding logged
  amend_logged k y = refl

  pub entered_8 : (y : Names) → (length y ≡ n → ⊥) → changed s (refused 8) ≡ edit_session (enter y) s
  entered_8 y a = edited_refused s h (enter y) few 8 (enter_8 n (standing_sheet_lem s h) y a)

  pub idle_length : length {A = ℕ} (take n (replicate 16 0)) ≡ n
  idle_length = ap length (take-replicate n 16 0 open_few) ∙ length-replicate {A = ℕ} n 0

  pub stricken_11 : place_of 2 0 s.sheet.steps ≡ None → changed s (refused 11) ≡ edit_session strike s
  unfolding place_of
  stricken_11 e =
      let z : s.sheet.steps ≤ 0 = ltb-false 0 s.sheet.steps (place_none _ _ _ e) in
      edited_refused s h strike few 11 (strike_11 n (standing_sheet_lem s h) (omega (arith, steps_are s h)))

  module _ (spot : Place) (e : place_of 2 0 s.sheet.steps ≡ Some spot) where
    stricken_spot : (0 < s.sheet.steps) × (s.sheet.steps - 1 ≡ spot.step) × (s.sheet.steps - 1 ≡ spot.steps)
    unfolding place_of
    stricken_spot = let q = place_inv _ _ _ spot e in (ltb-true 0 s.sheet.steps q.0, q.1, q.2)

    pub stricken_low : spot.step < 64
    stricken_low = omega (arith, stricken_spot.0, stricken_spot.1, open_steps)

    struck : done (with_edit s 2 0 (replicate n 0) spot.step spot.steps) ≡ edit_session strike s
    struck =
        let q = stricken_spot in
        let t : List Names = standing_sheet_lem s h in
        let c : s.sheet.steps ≡ length t = steps_are s h in
        let f = sheet_fits s h in
        let b : 0 < length t = omega (arith, q.0) in
        let g : length t - 1 ≤ length t = omega arith in
        edited_got s h strike few 2 0 (replicate n 0) spot.step spot.steps (take (length t - 1) t) (strike_got n t b) (strike_written n open_few)
        (omega (arith, length-replicate {A = ℕ} n 0, open_few)) (sym q.2 ∙ ap (λ (i : ℕ). i - 1) c ∙ sym (length-take-le (length t - 1) t g))
        (ap (λ (i : ℕ). laid (page t) (i * n) (replicate n 0)) (sym q.1 ∙ ap (λ (i : ℕ). i - 1) c) ∙ strike_page n open_few t f.0 b f.1)

    pub stricken_got : done (with_edit s 2 0 (take n (replicate 16 0)) spot.step spot.steps) ≡ edit_session strike s
    stricken_got =
        ap (λ (names : List ℕ). done (with_edit s 2 0 names spot.step spot.steps)) (take-replicate n 16 0 open_few) ∙ struck

  pub amended_8 : (k : ℕ) (y : Names) → (length y ≡ n → ⊥) → changed s (refused 8) ≡ edit_session (amend k y) s
  amended_8 k y a = edited_refused s h (amend k y) few 8 (amend_8 n (standing_sheet_lem s h) k y a)

  module _ (y : Names) (a : length y ≡ n) where
    short_names : length y ≤ 16
    short_names = omega (arith, open_few)

    pub entered_9 : place_of 1 0 s.sheet.steps ≡ None → changed s (refused 9) ≡ edit_session (enter y) s
    unfolding place_of
    entered_9 e =
        let l : 64 ≤ s.sheet.steps = ltb-false s.sheet.steps 64 (place_none _ _ _ e) in
        edited_refused s h (enter y) few 9 (enter_9 n (standing_sheet_lem s h) y a (omega (arith, steps_are s h)))

    module _ (spot : Place) (e : place_of 1 0 s.sheet.steps ≡ Some spot) where
      entered_spot : (s.sheet.steps < 64) × (s.sheet.steps ≡ spot.step) × (s.sheet.steps + 1 ≡ spot.steps)
      unfolding place_of
      entered_spot = let q = place_inv _ _ _ spot e in (ltb-true s.sheet.steps 64 q.0, q.1, q.2)

      pub entered_low : spot.step < 64
      entered_low = omega (arith, entered_spot.0, entered_spot.1)

      pub entered_got : done (with_edit s 1 0 y spot.step spot.steps) ≡ edit_session (enter y) s
      entered_got =
          let q = entered_spot in
          let t : List Names = standing_sheet_lem s h in
          let c : s.sheet.steps ≡ length t = steps_are s h in
          let b : length t < 64 = omega (arith, q.0) in
          edited_got s h (enter y) few 1 0 y spot.step spot.steps (t ++ (y ∷ [])) (enter_got n y t a b) (enter_logged y) short_names
          (sym q.2 ∙ ap (λ (i : ℕ). i + 1) c ∙ sym (length-append t (y ∷ [])))
          (ap (λ (i : ℕ). laid (page t) (i * n) y) (sym q.1 ∙ c) ∙ enter_page n open_few t y (sheet_fits s h).0 a b)

    module _ (k : ℕ) where
      pub amended_11 : place_of 3 k s.sheet.steps ≡ None → changed s (refused 11) ≡ edit_session (amend k y) s
      unfolding place_of
      amended_11 e = edited_refused s h (amend k y) few 11 (amend_11 n (standing_sheet_lem s h) k y a
          (ap (λ (i : ℕ). both (ltb 0 k) (leb k i)) (sym (steps_are s h)) ∙ place_none _ _ _ e))

      module _ (spot : Place) (e : place_of 3 k s.sheet.steps ≡ Some spot) where
        amended_spot : (0 < k) × (k ≤ s.sheet.steps) × (k - 1 ≡ spot.step) × (s.sheet.steps ≡ spot.steps)
        unfolding place_of
        amended_spot =
            let q = place_inv _ _ _ spot e in
            let r = both_true (ltb 0 k) (leb k s.sheet.steps) q.0 in
            (ltb-true 0 k r.0, leb-true k s.sheet.steps r.1, q.1, q.2)

        pub amended_few : k ≤ 64
        amended_few = omega (arith, amended_spot.1, open_steps)

        pub amended_low : spot.step < 64
        amended_low = omega (arith, amended_spot.0, amended_spot.1, amended_spot.2, open_steps)

        pub amended_got : done (with_edit s 3 k y spot.step spot.steps) ≡ edit_session (amend k y) s
        amended_got =
            let q = amended_spot in
            let t : List Names = standing_sheet_lem s h in
            let c : s.sheet.steps ≡ length t = steps_are s h in
            let p : 1 ≤ k = omega (arith, q.0) in
            let b : k ≤ length t = omega (arith, q.1) in
            edited_got s h (amend k y) few 3 k y spot.step spot.steps (set t (k - 1) y) (amend_got n k y t a p b) (amend_logged k y) short_names
            (sym q.3 ∙ c ∙ sym (length-set t (k - 1) y))
            (ap (λ (i : ℕ). laid (page t) (i * n) y) (sym q.2) ∙ amend_page n open_few k y t (sheet_fits s h).0 a p b)

pub ruleset undone_as = (undone_17, undone_12, undone_got)

pub ruleset redone_as = (redone_17, redone_13, redone_got, sound_upto, reached)

pub ruleset edited_as = (may_done, open_few, entered_8, entered_9, entered_low, entered_got, idle_length, stricken_11, stricken_low, stricken_got, amended_8, amended_11, amended_few, amended_low, amended_got)

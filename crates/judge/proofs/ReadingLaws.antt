-- What a law's bytes give, as the evaluator answers. Assumes nothing.
use Prim.Native.Nat.{ℕ, suc, ◌+◌, ◌≤◌, ◌<◌}
use mathlib.Core.Path.{◌≡◌, refl, sym, ap, ◌∙◌, subst}
use mathlib.Core.List.{List, []}
use mathlib.Core.Option.{none, some}
use mathlib.Core.Bool.{Bool, true, false}
use native.Mathlib.Omega.{arith}
use lib.IntN.{ℤ}
use lib.ListN.{length, get_or, drop, drop_of_length-le}
use lib.Seq.{drop-drop, get_or-drop}
use Rattle.bmap.specs.Plain.{if_else}
use borrow.Author.Tests.{le-leb}
use lib.Dec.{leb}
use Rattle.bmap.specs.Limits.{most_depth, most_steps}
use Rattle.bmap.specs.Number.{Valued, value, no_value, with1}
use Rattle.bmap.specs.declared.Reason.TheVariants.{ZeroDivisor}
use Rattle.bmap.specs.Tree.{Expr, Con, allowed_e, allowed_c}
use Rattle.bmap.specs.Code.{parse_e, parse_c}
use Rattle.bmap.specs.Meaning.{History, eval_e, eval_c}
use Rattle.bmap.specs.Domain.{Domain, Names, Law, executable, effect, must, has}
use Rattle.bmap.specs.Payload.{context}
use Rattle.bmap.specs.Accept.{counts_of}
use Rattle.bmap.specs.Judge.{fine, sets_if, sets, settled}
use Rattle.law.specs.Evaluate.{history_of, Meant, malformed, gives, at_position, value_at, truth_at, evaluated}
use Rattle.std.specs.Prelude.{Option as Maybe, Some, None}
use Rattle.law.proofs.Agree.{Agree, agree_e, agree_c}
use Rattle.law.proofs.Bits.{no_bit}
use Rattle.index.specs.Index.{law_number, no_law}
use Rattle.judge.specs.Told.{Says, Lawful, Seen, Occurring, frame_of, con_of, place_of, asks_of}
use Rattle.judge.specs.Settings.{setting, setting_from}
use Rattle.judge.proofs.ByteLaws.{Constrained}
use Rattle.judge.proofs.CheckLaws.{says, not_effect}
use Rattle.judge.proofs.LoopLaws.{rests}
use Rattle.judge.proofs.SettingLaws.{settled_none, settled_idle}

-- the constraint of a law, where it stands in its frame
pub stands : (d : Domain) (frame : List ℕ) (l : Law) → Says d frame l → Constrained (counts_of d) (asks_of l) (drop (place_of l) frame) (con_of l)
stands d frame (executable e c) w = subst (λ (b : List ℕ). Constrained (counts_of d) true b c) (drop-drop 1 2 frame) (says d frame (executable e c) w).1.1
stands d frame (effect e c f x) w = subst (λ (b : List ℕ). Constrained (counts_of d) true b c) (drop-drop 1 2 frame) (says d frame (effect e c f x) w).1.con
stands d frame (must s c) w = (says d frame (must s c) w).1

module _ (d : Domain) (asked : Bool) (h : History) (history : List ℤ) (j : ℕ) (seen : Seen asked d h history j) where
  agreed : Agree (context (counts_of d) asked) j (history_of history) h
  agreed = record { levels = λ k f p q. sym (seen.level k f p q); steps = λ a e k r p q. sym (seen.acted a k e p q r) }

  pub con_seen : (c : Con) → allowed_c (context (counts_of d) asked) c ≡ true → eval_c c (history_of history) j ≡ eval_c c h j
  con_seen c fit = agree_c agreed c fit

  pub expr_seen : (x : Expr) → allowed_e (context (counts_of d) asked) x ≡ true → eval_e x (history_of history) j ≡ eval_e x h j
  expr_seen x fit = agree_e agreed x fit

-- what the evaluator answers of a law's constraint, where the law stands at place p
pub truth_told : (d : Domain) (held : List ℕ) (p : ℕ) (l : Law) (h : History) (history : List ℤ) (j : ℕ) {at : ℕ} (w : Says d (drop p held) l) → at ≡ p + place_of l → Seen (asks_of l) d h history j
    → at_position j (truth_at most_depth held at history j) ≡ gives (eval_c (con_of l) h j) (at + (stands d (drop p held) l w).used)
truth_told d held p l h history j {at} w e seen =
    let s = stands d (drop p held) l w in
    let read : parse_c most_depth (drop at held) ≡ some (record { tree = con_of l; used = s.used }) = ap (λ (k : ℕ). parse_c most_depth (drop k held)) e ∙ (ap (parse_c most_depth) (sym (drop-drop (place_of l) p held)) ∙ s.read) in
    rw (le-leb j most_steps seen.within, read) (ap (λ (v : Valued Bool). gives v (at + s.used)) (con_seen d (asks_of l) h history j seen (con_of l) s.fit))

-- the same, of an answer that gives something, and of one that does not
pub told_some : {A : Type 0} {r : Maybe (A × ℕ)} {t v : A} {k n : ℕ} {m : Meant A} → evaluated r ≡ m → r ≡ Some (t, k) → m ≡ gives v n → (t ≡ v) × (k ≡ n)
told_some {A} {r} {t} {v} {k} {n} e q w = let z : gives t k ≡ gives v n = sym (ap evaluated q) ∙ (e ∙ w) in ((cc), (cc))

pub told_none : {A : Type 0} {r : Maybe (A × ℕ)} {v : A} {n : ℕ} {m : Meant A} → evaluated r ≡ m → r ≡ None → m ≡ gives v n → ⊥
told_none {A} {r} {v} {n} e q w = let z : ◌≡◌ {A = Meant A} malformed (gives v n) = sym (ap evaluated q) ∙ (e ∙ w) in cc

-- ---- an effect law

pub record Effect (d : Domain) (frame : List ℕ) (l : Law) : Type 0 where
  pub entry : ℕ
  pub con : Con
  pub fluent : ℕ
  pub expr : Expr
  pub is : l ≡ effect entry con fluent expr
  pub owner : entry ≡ get_or frame 2 0
  pub known : entry < length d.entries
  pub used : ℕ
  pub con_read : parse_c most_depth (drop 3 frame) ≡ some (record { tree = con; used = used })
  pub con_fit : allowed_c (context (counts_of d) true) con ≡ true
  pub target : fluent ≡ get_or frame (3 + used) 0
  pub expr_used : ℕ
  pub expr_read : parse_e most_depth (drop (3 + used + 1) frame) ≡ some (record { tree = expr; used = expr_used })
  pub expr_fit : allowed_e (context (counts_of d) true) expr ≡ true

pub effect_told : (d : Domain) (frame : List ℕ) (l : Law) → Says d frame l → get_or frame 0 0 ≡ 0xA6 → Effect d frame l
effect_told d frame (executable e c) w k = let z : get_or frame 0 0 ≡ 0xA5 = (says d frame (executable e c) w).0 in absurd (omega arith)
effect_told d frame (must s c) w k = absurd (not_effect (get_or frame 0 0) s k (says d frame (must s c) w).0)
effect_told d frame (effect e c f x) w k =
    let t = (says d frame (effect e c f x) w).1 in
    let u = t.con.used in
    let front : drop 1 (drop 2 frame) ≡ drop 3 frame = drop-drop 1 2 frame in
    let back : drop u (drop 1 (drop 2 frame)) ≡ drop (3 + u) frame = ap (drop u) front ∙ drop-drop u 3 frame in
    record {
      entry = e;
      con = c;
      fluent = f;
      expr = x;
      is = refl;
      owner = t.entry ∙ get_or-drop 2 frame 0 0;
      known = t.known;
      used = u;
      con_read = ap (parse_c most_depth) (sym front) ∙ t.con.read;
      con_fit = t.con.fit;
      target = t.fluent ∙ (ap (λ (l : List ℕ). get_or l 0 0) back ∙ (get_or-drop (3 + u) frame 0 0 ∙ ap (λ (i : ℕ). get_or frame i 0) (let z : 3 + u + 0 ≡ 3 + u = omega arith in z)));
      expr_used = t.expr.used;
      expr_read = ap (parse_e most_depth) (sym (ap (drop 1) back ∙ drop-drop 1 (3 + u) frame)) ∙ t.expr.read;
      expr_fit = t.expr.fit;
    }

module _ (d : Domain) (held : List ℕ) (p : ℕ) (l : Law) (h : History) (j : ℕ) (names : Names) (mask : ℕ) (e : Effect d (drop p held) l) (occurring : Occurring d names mask) where
  pub sets_if_lem : {t : Bool} → has mask (get_or held (p + 2) 0) ≡ t → sets d h j names l ≡ if_else t (sets_if e.fluent (eval_e e.expr h j) (eval_c e.con h j)) (value none)
  unfolding sets
  sets_if_lem {t} q =
      ap (λ (m : Law). sets d h j names m) e.is
      ∙ ap (λ (b : Bool). if_else b (sets_if e.fluent (eval_e e.expr h j) (eval_c e.con h j)) (value none)) (occurring e.entry e.known ∙ (ap (has mask) (e.owner ∙ get_or-drop p held 2 0) ∙ q))

  module _ (history : List ℤ) (seen : Seen true d h history j) where
    pub effect_truth : at_position j (truth_at most_depth held (p + 3) history j) ≡ gives (eval_c e.con h j) (p + 3 + e.used)
    effect_truth = rw (le-leb j most_steps seen.within, ap (parse_c most_depth) (sym (drop-drop 3 p held)) ∙ e.con_read) (ap (λ (v : Valued Bool). gives v (p + 3 + e.used)) (con_seen d true h history j seen e.con e.con_fit))

    pub effect_value : setting_from (get_or held (p + 3 + e.used) 0) (at_position j (value_at most_depth held (p + 3 + e.used + 1) history j)) ≡ sets_if e.fluent (eval_e e.expr h j) (value true)
    effect_value =
        let after : p + 3 + e.used + 1 ≡ p + (3 + e.used + 1) = omega arith in
        let place : p + (3 + e.used) ≡ p + 3 + e.used = omega arith in
        let read : parse_e most_depth (drop (p + 3 + e.used + 1) held) ≡ some (record { tree = e.expr; used = e.expr_used }) = ap (λ (k : ℕ). parse_e most_depth (drop k held)) after ∙ (ap (parse_e most_depth) (sym (drop-drop (3 + e.used + 1) p held)) ∙ e.expr_read) in
        let target : e.fluent ≡ get_or held (p + 3 + e.used) 0 = e.target ∙ (get_or-drop p held (3 + e.used) 0 ∙ ap (λ (k : ℕ). get_or held k 0) place) in
        rw (le-leb j most_steps seen.within, read, ← target) (ap (λ (v : Valued ℤ). with1 (λ z. value (some (setting e.fluent z))) v) (expr_seen d true h history j seen e.expr e.expr_fit))

-- nothing stands past the end
pub no_value_past : (frame : List ℕ) (at f : ℕ) (history : List ℤ) (j : ℕ) → length frame ≤ at → no_value ZeroDivisor ≡ setting_from f (at_position j (value_at most_depth frame (at + 1) history j))
unfolding parse_e
no_value_past frame at f history j h = rw (drop_of_length-le frame {i = at + 1} (omega arith)) (go (leb j most_steps))
  where
    go : (b : Bool) → no_value ZeroDivisor ≡ setting_from f (if_else b malformed malformed)
    go true = refl
    go false = refl

-- ---- no entry occurs

module _ (d : Domain) (h : History) (j : ℕ) (names : Names) (nobody : Occurring d names 0) where
  sets_nobody : (frame : List ℕ) (l : Law) → Says d frame l → sets d h j names l ≡ value none
  unfolding sets
  sets_nobody frame (executable e c) w = refl
  sets_nobody frame (effect e c f x) w = ap (λ (b : Bool). if_else b (sets_if f (eval_e x h j) (eval_c c h j)) (value none)) (nobody e (says d frame (effect e c f x) w).1.known ∙ sym (no_bit 0 0 e (omega arith) (omega arith)))
  sets_nobody frame (must s c) w = refl

  -- then no law sets anything
  pub settled_nobody : (held : List ℕ) (n : ℕ) → Lawful d held n → fine [] ≡ settled d h j names 0 [] d.laws
  settled_nobody held n lawful =
      sym (rests (λ k r. settled d h j names k [] r) d.laws no_law 0 (λ k. settled_none d h j names k [])
      (λ k p q. settled_idle d h j names k [] (law_number d k) (drop (suc k) d.laws) (sets_nobody (frame_of held k) (law_number d k) (lawful.law k (omega (arith, lawful.count))))))

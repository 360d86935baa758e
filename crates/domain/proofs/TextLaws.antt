-- The text of an accepted domain is no longer than its limits allow. Assumes nothing.
use Prim.Native.Nat.{ℕ, zero, suc, ◌+◌, ◌*◌, ◌≤◌}
use native.Mathlib.Omega.{arith}
use mathlib.Core.Path.{◌≡◌, refl, sym, ap, subst, ◌∙◌}
use mathlib.Core.Logic.{⊎_elim}
use mathlib.Core.Bool.{Bool, true, false}
use mathlib.Core.List.{List, [], ◌∷◌, ◌++◌, map}
use mathlib.Core.Option.{Option, none, some}
use lib.Dec.{eqb}
use lib.ListN.{length, drop, length-append}
use borrow.Author.Tests.{eqb-true}
use Rattle.bmap.specs.Plain.{both, if_else, maybe, flat}
use Rattle.bmap.specs.Limits.{most_payload}
use Rattle.bmap.specs.Refusal.{Answer, got, refused, need, then, read, at_line}
use Rattle.bmap.specs.Line.{Frame, stored, line_for, line_size}
use Rattle.bmap.specs.Domain.{Domain, Entry}
use Rattle.bmap.specs.Payload.{Item, agents, fluent, knowledge, entry, byte, agents_fit, limit_fits, fluent_fits, knowledge_fits, entry_fits, fluent_in, knowledge_in, entry_in, item_in}
use Rattle.bmap.specs.Accept.{Partial, nothing, counts_of, checked, add, complete, taken_from}
use Rattle.bmap.specs.Buffer.{Written}
use Rattle.bmap.specs.Store.{frame_at, zeros, frames_from, domain_in, text_of, write_domain}
use Rattle.bmap.specs.Theorems.{longest_domain, DomainTextFits, LimitIs}
use Rattle.bmap.specs.declared.limits.Counts.{Counts}
use Rattle.bmap.proofs.PlainLaws.{both_true}
use Rattle.bmap.proofs.PayloadLaws.{only_some, limit_in}
use Rattle.line.proofs.WriteLaws.{length_line}
use Rattle.domain.specs.Check.{refused_in}
use Rattle.domain.proofs.Rows.{length_snoc}
use Rattle.domain.proofs.CheckLaws.{room_agents}
use Rattle.domain.proofs.Passed.{Case, is_agents, is_fluent, is_knowledge, is_entry, is_law_lem, Passed, passed}
use Rattle.domain.proofs.Stands.{no_more, here, one, one_most, one_some, Few, with, accept_is}
use Rattle.domain.proofs.Accepted.{domained, refused_15}
use Rattle.domain.proofs.RoundTrip.{Fines, no_frames, and_frame, written_again}

-- ---- the size of a payload, by its kind

-- a test whose first part is the size
sized : (size : ℕ) (p : List ℕ) (b : Bool) → both (eqb (length p) size) b ≡ true → length p ≡ size
sized size p b e = eqb-true (length p) size (both_true (eqb (length p) size) b e).0

-- at most 8 bytes
limited : (p : List ℕ) → LimitIs p → length p ≤ 8
limited p l = ⊎_elim (λ six. omega (arith, six.0)) (λ eight. omega (arith, eight.0)) l

module _ (n : Counts) (k : ℕ) (p : List ℕ) (i : Item) (e : item_in n k p ≡ some i) where
  agents_size : k ≡ 0xA1 → length p ≡ 1
  unfolding item_in agents_fit
  agents_size q = sized 1 p _ (only_some (agents_fit p) (some (agents (byte p 0))) (rw q at e)).0

  fluent_size : k ≡ 0xA2 → length p ≤ 8
  unfolding item_in fluent_fits
  fluent_size q = limited p (limit_in p (both_true (limit_fits p) _ (only_some (fluent_fits p) (some (fluent (fluent_in p))) (rw q at e)).0).0)

  knowledge_size : k ≡ 0xA3 → length p ≡ 3
  unfolding item_in knowledge_fits
  knowledge_size q = sized 3 p _ (only_some (knowledge_fits n p) (some (knowledge (knowledge_in p))) (rw q at e)).0

  entry_size : k ≡ 0xA4 → length p ≡ 3
  unfolding item_in entry_fits
  entry_size q = sized 3 p _ (only_some (entry_fits n p) (some (entry (entry_in p))) (rw q at e)).0

-- ---- the lines of the frames so far

-- the most characters that the lines of a domain's frames have
abbrev lines_most : Domain → ℕ
lines_most d =
    one d.agents * line_size 1 + length d.fluents * line_size 8 + length d.knowledge * line_size 3 + length d.entries * line_size 3
    + length d.laws * line_size most_payload

few_lines : (d : Domain) → Few d → lines_most d ≤ longest_domain
few_lines d w = omega (arith, w.fluents, w.knowledge, w.entries, w.laws, one_most d.agents)

-- one frame more
module _ (latest : ℕ) (d : Domain) (es : List Entry) (f : Frame) (v : Passed latest (counts_of d) es f) (h : length f.payload ≤ most_payload) where
  abbrev More : Item → Type 0
  More i = lines_most d + length (line_for f) ≤ lines_most (add i d)

  line_more : More v.item
  line_more = go v.case
    where
      l : length (line_for f) ≡ line_size (length f.payload)
      l = length_line f.kind f.payload

      go : Case (counts_of d) f.kind f.payload v.item → More v.item
      go (is_agents k lo hi e) =
          subst More (sym e)
          (omega (
            arith,
            l,
            agents_size (counts_of d) f.kind f.payload v.item v.says k,
            one_some (byte f.payload 0) lo,
            ap one (room_agents (counts_of d) f.kind v.fits k),
          ))
      go (is_fluent k e) =
          subst More (sym e) (omega (arith, l, fluent_size (counts_of d) f.kind f.payload v.item v.says k, length_snoc d.fluents (fluent_in f.payload)))
      go (is_knowledge k e) =
          subst More (sym e) (omega (arith, l, knowledge_size (counts_of d) f.kind f.payload v.item v.says k, length_snoc d.knowledge (knowledge_in f.payload)))
      go (is_entry k e) =
          subst More (sym e) (omega (arith, l, entry_size (counts_of d) f.kind f.payload v.item v.says k, length_snoc d.entries (entry_in f.payload)))
      go (is_law_lem k x q e) = subst More (sym e) (omega (arith, l, length_snoc d.laws x))

-- the frames that are taken, after those so far
taken_lines : (lines : ℕ) (p : Partial) (fs : List Frame) (d : Domain) → Fines fs → taken_from lines p (map got fs) ≡ read d
    → lines_most p.domain + length (flat (map line_for fs)) ≤ lines_most d
unfolding taken_from flat
taken_lines lines p [] d no_frames e = ended (complete p.domain) e
  where
    ended : (b : Bool) → at_line lines (need b 7 (got p.domain)) read ≡ read d → lines_most p.domain + 0 ≤ lines_most d
    ended true q = let same : p.domain ≡ d = cc in subst (λ (x : Domain). lines_most p.domain + 0 ≤ lines_most x) same (omega arith)
    ended false q = absurd (let z : ◌≡◌ {A = ℕ} 0 1 = cc in omega arith)
taken_lines lines p (f ∷ fs) d (and_frame g gs) e =
    go (checked p.latest (counts_of p.domain) p.domain.entries f) refl
    (ap (λ a. at_line (suc lines) a (λ q. taken_from (suc lines) q (map got fs))) (sym (accept_is p f)) ∙ e)
    (λ q. taken_lines (suc lines) q fs d gs)
  where
    go : (a : Answer Item) → checked p.latest (counts_of p.domain) p.domain.entries f ≡ a
        → at_line (suc lines) (then a (λ i. got (with p f i))) (λ q. taken_from (suc lines) q (map got fs)) ≡ read d
        → ((q : Partial) → taken_from (suc lines) q (map got fs) ≡ read d → lines_most q.domain + length (flat (map line_for fs)) ≤ lines_most d)
        → lines_most p.domain + length (line_for f ++ flat (map line_for fs)) ≤ lines_most d
    go (refused n) c t rec = absurd (let z : ◌≡◌ {A = ℕ} 0 1 = cc in omega arith)
    go (got i) c t rec =
        let v = passed p.latest (counts_of p.domain) p.domain.entries f (sym (ap refused_in c)) in
        let same : v.item ≡ i = (let k = v.checks in cc) in
        let m : lines_most p.domain + length (line_for f) ≤ lines_most (add i p.domain)
        = subst (λ (j : Item). lines_most p.domain + length (line_for f) ≤ lines_most (add j p.domain)) same
        (line_more p.latest p.domain p.domain.entries f v g.most) in
        let r : lines_most (add i p.domain) + length (flat (map line_for fs)) ≤ lines_most d = rec (with p f i) t in
        omega (arith, length-append (line_for f) (flat (map line_for fs)))

-- ---- the frames of a store

stored_fine : (looks : ℕ) (s : List ℕ) (at : ℕ) (fs : List Frame) → frames_from looks s at ≡ some fs → Fines fs
unfolding frames_from
stored_fine zero s at fs e = absurd (let z : ◌≡◌ {A = ℕ} 0 1 = cc in omega arith)
stored_fine (suc looks) s at fs e = step (frame_at s at) refl e (λ f rest. stored_fine looks s (at + length (stored f)) rest)
  where
    more : (f : Frame) → frame_at s at ≡ some f → (o : Option (List Frame)) → maybe o none (λ rest. some (f ∷ rest)) ≡ some fs
        → ((rest : List Frame) → o ≡ some rest → Fines rest) → Fines fs
    more f fe none q rec = absurd (let z : ◌≡◌ {A = ℕ} 0 1 = cc in omega arith)
    more f fe (some rest) q rec =
        let n : f ∷ rest ≡ fs = cc in
        let h = here s at f fe in
        subst Fines n (and_frame (record { some_kind = λ z. h.some_kind (sym h.kind ∙ z); most = h.most }) (rec rest refl))

    step : (o : Option Frame) → frame_at s at ≡ o
        → maybe o (if_else (zeros (drop at s)) (some []) none) (λ f. maybe (frames_from looks s (at + length (stored f))) none (λ rest. some (f ∷ rest))) ≡ some fs
        → ((f : Frame) (rest : List Frame) → frames_from looks s (at + length (stored f)) ≡ some rest → Fines rest) → Fines fs
    step none o q rec = subst Fines (sym (no_more (zeros (drop at s)) q)) no_frames
    step (some f) o q rec = more f o (frames_from looks s (at + length (stored f))) q (rec f)

-- ---- the whole text

text_most : (s : List ℕ) (d : Domain) → domain_in s ≡ got d → length (text_of s) ≤ longest_domain
text_most s d e =
    let m = domained s d e in
    let text : text_of s ≡ flat (map line_for m.frames) = ap (λ o. maybe o [] (λ fs. flat (map line_for fs))) m.are in
    let l : 0 + length (flat (map line_for m.frames)) ≤ lines_most d
    = taken_lines 0 nothing m.frames d (stored_fine (suc (length s)) s 0 m.frames m.are) m.read_as in
    omega (arith, ap length text, few_lines d m.all.stands.few)

text_fits : (s text : List ℕ) (n : ℕ) → longest_domain ≤ length text → (write_domain s text).answer ≡ refused n → n ≡ 15
unfolding write_domain
text_fits s text n h e = go (domain_in s) refl
  where
    go : (a : Answer Domain) → domain_in s ≡ a → n ≡ 15
    go (got d) q =
        absurd (let w = ap (λ (w : Written). w.answer) (written_again s text d q (omega (arith, text_most s d q))) in let z : ◌≡◌ {A = ℕ} 0 1 = cc in omega arith)
    go (refused m) q =
        let w : refused m ≡ refused n = simp q at e in
        let same : n ≡ m = cc in
        same ∙ refused_15 s m q

-- THEOREM. No text of an accepted domain is longer than `longest_domain`, and a buffer of that length is never refused by 10.
pub domain_text_fits : DomainTextFits
domain_text_fits = record { most = text_most; room = text_fits }

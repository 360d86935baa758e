-- K8: what document 02 asks to be shown of laying, of stores, from what is so of lists of replacements. Assumes nothing.
use Prim.Native.Nat.{ℕ, ◌-◌, ◌≤◌}
use mathlib.Core.Path.{◌≡◌, refl, sym, ap, ◌∙◌}
use mathlib.Core.List.{List, [], ◌++◌, append-nil}
use lib.Dec.{leb}
use lib.IntN.{ℤ}
use lib.ListN.{length, take, replicate}
use lib.Seq.{take-append_seam}
use borrow.Author.Tests.{leb-true}
use Rattle.bmap.specs.Limits.{supplement_size, levels_size}
use Rattle.bmap.specs.Refusal.{Answer, got, refused, need, then}
use Rattle.bmap.specs.Domain.{Domain}
use Rattle.bmap.specs.Buffer.{Written}
use Rattle.bmap.specs.Store.{domain_in}
use Rattle.bmap.specs.Sheet.{sheet_of}
use Rattle.bmap.specs.Judge.{judge}
use Rattle.bmap.specs.Verdict.{Judgement, judgement}
use Rattle.bmap.specs.Supplement.{Replacement, replaced, supplement_in, judge_under}
use Rattle.bmap.specs.Laying.{ordered, laid, bytes_of, into_result, lay_supplements, order_supplement}
use Rattle.bmap.specs.Theorems.{Supplements, LaidAccepted, OrderedOrders, LayingAssociates, EmptyOnlyOrders, OverItself, ApartCommutes, JudgedUnderBoth}
use Rattle.line.proofs.Answers.{then_same, need_got, then_got_inv}
use Rattle.theorems.proofs.LayingLaws.{laid_associates, laid_empty, laid_itself, laid_apart, laid_lays, laid_fixed, ordered_keeps, ordered_stays, rising_ordered, replaced_ordered, replaced_laid}
use Rattle.supplement.proofs.EmptyLaws.{zeros_accepted}
use Rattle.supplement.proofs.WithinLaws.{few_laws, accepted_within}
use Rattle.supplement.proofs.LaidLaws.{accepts_laid, few_laid, laid_result, accepts_alike, asked_alike}

-- ---- what a call answers, by the replacements

-- what is left in a result buffer
abbrev left : List ℕ → Answer (List Replacement) → Written
left result a = into_result result (need (leb supplement_size (length result)) 10 a)

abbrev laid_for : List ℕ → List ℕ → Domain → Answer (List Replacement)
laid_for lower upper d = then (supplement_in d lower) (λ l. then (supplement_in d upper) (λ u. got (laid l u)))

abbrev ordered_for : List ℕ → Domain → Answer (List Replacement)
ordered_for supplement d = then (supplement_in d supplement) (λ s. got (ordered s))

-- where every domain says so, for a refusal too
only_orders : (store lower upper supplement result : List ℕ) → ((d : Domain) → laid_for lower upper d ≡ ordered_for supplement d)
    → lay_supplements store lower upper result ≡ order_supplement store supplement result
unfolding lay_supplements order_supplement
only_orders store lower upper supplement result same = ap (left result) (then_same (domain_in store) (laid_for lower upper) (ordered_for supplement) same)

-- where both are accepted
both_laid_lem : {store lower upper : List ℕ} {d : Domain} {l u : List Replacement} (result : List ℕ) → Supplements store lower upper d l u
    → lay_supplements store lower upper result ≡ left result (got (laid l u))
unfolding lay_supplements
both_laid_lem result both = rw (both.domain, both.below, both.above) refl

-- ---- of any two

-- THEOREM. "laying the empty one over or under another only orders it".
pub empty_only_orders : EmptyOnlyOrders
empty_only_orders = record {
  supplements = laid_empty;
  over = λ store supplement result zeros. only_orders store supplement (replicate zeros 0) supplement result (λ d.
      rw (zeros_accepted d zeros) (then_same (supplement_in d supplement) (λ s. got (laid s [])) (λ s. got (ordered s)) (λ s. ap got (laid_empty s).0)));
  under = λ store supplement result zeros. only_orders store (replicate zeros 0) supplement supplement result (λ d.
      rw (zeros_accepted d zeros) (then_same (supplement_in d supplement) (λ s. got (laid [] s)) (λ s. got (ordered s)) (λ s. ap got (laid_empty s).1)));
}

itself : (y : Answer (List Replacement)) → then y (λ l. then y (λ u. got (laid l u))) ≡ then y (λ s. got (ordered s))
itself (got s) = ap got (laid_itself s)
itself (refused n) = refl

-- THEOREM. "one laid over itself is itself once ordered".
pub over_itself : OverItself
over_itself = record {
  supplements = laid_itself;
  calls = λ store supplement result. only_orders store supplement supplement supplement result (λ d. itself (supplement_in d supplement));
}

-- THEOREM. "it does not matter which of two without a common number is the upper".
pub apart_commutes : ApartCommutes
apart_commutes = record {
  supplements = laid_apart;
  calls = λ store lower upper result d l u both apart.
      both_laid_lem result both
      ∙ ap (λ (s : List Replacement). left result (got s)) (laid_apart l u apart)
      ∙ sym (both_laid_lem result (record { domain = both.domain; below = both.above; above = both.below }));
}

-- ---- what is so of an accepted supplement

-- a judgement under it is one by the laws replaced
abbrev judged_by : ℕ → Domain → List ℕ → List ℤ → Judgement
judged_by agents d sheet levels = judgement levels (need (leb levels_size (length levels)) 10 (then (sheet_of agents sheet) (λ steps. got (judge d steps))))

judged_under_lem : (store supplement : List ℕ) (d : Domain) (s : List Replacement) → domain_in store ≡ got d → supplement_in d supplement ≡ got s
    → (sheet : List ℕ) (levels : List ℤ) → judge_under store supplement sheet levels ≡ judged_by d.agents (replaced s d) sheet levels
unfolding judge_under
judged_under_lem store supplement d s g e sheet levels = rw (g, e) refl

-- a call that lays had both accepted, and room
record Answered (store lower upper result : List ℕ) : Type 0 where
  d : Domain
  l : List Replacement
  u : List Replacement
  both : Supplements store lower upper d l u
  room : supplement_size ≤ length result

answered : (store lower upper result : List ℕ) (m : ℕ) → (lay_supplements store lower upper result).answer ≡ got m → Answered store lower upper result
unfolding lay_supplements
answered store lower upper result m e =
    let (s, p) = laid_got (need (leb supplement_size (length result)) 10 (then (domain_in store) (laid_for lower upper))) e in
    let (wide, q) = need_got (leb supplement_size (length result)) 10 (then (domain_in store) (laid_for lower upper)) s p in
    let (d, domain, r) = then_got_inv (domain_in store) (laid_for lower upper) s q in
    let (l, below, t) = then_got_inv (supplement_in d lower) (λ l. then (supplement_in d upper) (λ u. got (laid l u))) s r in
    let (u, above, k) = then_got_inv (supplement_in d upper) (λ u. got (laid l u)) s t in
    record { d = d; l = l; u = u; both = record { domain = domain; below = below; above = above }; room = leb-true supplement_size (length result) wide }
  where
    laid_got : (y : Answer (List Replacement)) → (into_result result y).answer ≡ got m → (s : List Replacement) × (y ≡ got s)
    laid_got (got s) e = (s, refl)
    laid_got (refused n) e = absurd cc

-- ---- of what is accepted again

-- THEOREM. What is laid is again a supplement that the domain accepts.
pub laid_accepted : LaidAccepted
laid_accepted store lower upper result d l u both room =
    let is = laid_result store lower upper result d l u both room in
    let bytes = bytes_of (laid l u) in
    let zeros = length result - length bytes in
    let accepts : (zeros : ℕ) → supplement_in d (bytes_of (laid l u) ++ replicate zeros 0) ≡ got (laid l u) = accepts_laid d lower upper l u both.below both.above in
    let low = accepted_within store lower d l both.domain both.below in
    let high = accepted_within store upper d u both.domain both.above in
    record {
      lays = laid_lays l u low high;
      fixed = λ r. laid_fixed l u r low high;
      fits = few_laid d lower upper l u both.below both.above;
      answer = ap (λ (w : Written). w.answer) is;
      whole = ap (λ (w : Written). supplement_in d w.buffer) is ∙ accepts zeros;
      used =
          ap (λ (w : Written). supplement_in d (take (length bytes) w.buffer)) is
          ∙ ap (supplement_in d) (take-append_seam bytes (replicate zeros 0) ∙ sym (append-nil bytes)) ∙ accepts 0;
    }

-- THEOREM. What ordering is, and that it changes no law in force.
pub ordered_orders : OrderedOrders
ordered_orders store supplement result d s g e room =
    let within = accepted_within store supplement d s g e in
    let same = ordered_keeps s within in
    let laws = replaced_ordered s d (few_laws store d g) in
    let whole : supplement_in d (order_supplement store supplement result).buffer ≡ got (ordered s)
    = ap (λ (w : Written). supplement_in d w.buffer) (sym (over_itself.calls store supplement result))
    ∙ (laid_accepted store supplement supplement result d s s (record { domain = g; below = e; above = e }) room).whole ∙ ap got (laid_itself s) in
    record {
      same = same;
      rising = rising_ordered s;
      stays = ordered_stays s within;
      laws = laws;
      whole = whole;
      asked = λ n.
          asked_alike store d g n (order_supplement store supplement result).buffer supplement (ordered s) s whole e (same n);
      judged = λ sheet levels.
          judged_under_lem store (order_supplement store supplement result).buffer d (ordered s) g whole sheet levels
          ∙ ap (λ (x : Domain). judged_by d.agents x sheet levels) laws
          ∙ sym (judged_under_lem store supplement d s g e sheet levels);
    }

-- THEOREM. "laying three gives the same whichever pair is laid first".
pub laying_associates : LayingAssociates
laying_associates = record {
  supplements = laid_associates;
  calls = λ store a b c first second result m n one two.
      let x = answered store a b first m one in
      let y = answered store b c second n two in
      let same : y.d ≡ x.d = (let z = sym y.both.domain ∙ x.both.domain in cc) in
      let above : supplement_in x.d c ≡ got y.u = ap (λ (d : Domain). supplement_in d c) (sym same) ∙ y.both.above in
      let lower = (laid_accepted store a b first x.d x.l x.u x.both x.room).whole in
      let upper = (laid_accepted store b c second x.d x.u y.u (record { domain = x.both.domain; below = x.both.above; above = above }) y.room).whole in
      both_laid_lem result (record { domain = x.both.domain; below = lower; above = above })
      ∙ ap (λ (s : List Replacement). left result (got s)) (laid_associates x.l x.u y.u)
      ∙ sym (both_laid_lem result (record { domain = x.both.domain; below = x.both.below; above = upper }));
}

-- THEOREM. "Judging a domain under the combined supplement equals judging the domain, first replaced by the lower and then by the
-- upper".
pub judged_under_both : JudgedUnderBoth
judged_under_both store lower upper result d l u both room =
    let laws = replaced_laid l u d (few_laws store d both.domain) in
    let whole = (laid_accepted store lower upper result d l u both room).whole in
    record {
      alike = accepts_alike d lower l both.below;
      laws = laws;
      judged = λ sheet levels.
          judged_under_lem store (lay_supplements store lower upper result).buffer d (laid l u) both.domain whole sheet levels
          ∙ ap (λ (x : Domain). judged_by d.agents x sheet levels) laws;
    }

-- Where laws stand, law after law. Assumes nothing.
use Prim.Native.Nat.{ℕ, ◌+◌, ◌≤◌, ◌<◌, min}
use mathlib.Core.Path.{◌≡◌, sym, ap, ◌∙◌, subst}
use mathlib.Core.List.{List}
use native.Mathlib.Omega.{arith}
use native.Mathlib.Decide.{dec_lt, ℕ_discrete}
use lib.ListN.{length, get_or, set, take, replicate, get_or-replicate}
use lib.Seq.{get_or-set_same, get_or-set_other, get_or-take, length-take-le}
use Rattle.std.specs.Prelude.{Option, Some, None}
use Rattle.bmap.specs.Limits.{most_entries}
use Rattle.judge.specs.Told.{Spans, Ordered, no_run}
use Rattle.judge.specs.declared.reading.Run.{Run}
use Rattle.judge.specs.declared.reading.Runs.{Runs}

module _ (has : ℕ → Type 0) (n : ℕ) where
  pub spans_none : Spans has n 0 (record { from = n; to = 0 })
  spans_none = record { starts = omega arith; ends = omega arith; before = λ i p q. absurd (omega arith); after = λ i p q. absurd (omega arith) }

  module _ (k : ℕ) (run : Run) (spans : Spans has n k run) where
    pub spans_with : Spans has n (k + 1) (record { from = min run.from k; to = k + 1 })
    spans_with = record {
      starts = omega (arith, spans.starts);
      ends = omega arith;
      before = λ i p q. spans.before i (omega arith) (omega arith);
      after = λ i p q. absurd (omega arith);
    }

    pub spans_past : (has k → ⊥) → Spans has n (k + 1) run
    spans_past h = record {
      starts = spans.starts;
      ends = omega (arith, spans.ends);
      before = λ i p q. elim (dec_lt i k) [ yes r ↦ spans.before i p r | no r ↦ let z : k ≡ i = omega arith in subst (λ (m : ℕ). has m → ⊥) z h ];
      after = λ i p q. elim (dec_lt i k) [ yes r ↦ spans.after i p r | no r ↦ let z : k ≡ i = omega arith in subst (λ (m : ℕ). has m → ⊥) z h ];
    }

-- what is so of the same numbers
pub spans_same : {had has : ℕ → Type 0} (n : ℕ) (run : Run) → ((i : ℕ) → i < n → has i → had i) → Spans had n n run → Spans has n n run
spans_same n run same spans = record {
  starts = spans.starts;
  ends = spans.ends;
  before = λ i p q h. spans.before i p q (same i q h);
  after = λ i p q h. spans.after i p q (same i q h);
}

-- ---- the laws of each entry

abbrev pub OwnsSoFar : List (Option ℕ) → ℕ → ℕ → List Run → Type 0
OwnsSoFar owners n k own = (i : ℕ) → i < most_entries → Spans (λ l. get_or owners l None ≡ Some i) n k (get_or own i no_run)

pub owns_none : (owners : List (Option ℕ)) (n : ℕ) {run : Run} → run ≡ record { from = n; to = 0 } → OwnsSoFar owners n 0 (replicate most_entries run)
owns_none owners n {run} e i h = subst (Spans (λ l. get_or owners l None ≡ Some i) n 0) (sym e ∙ sym (get_or-replicate most_entries i run no_run h)) (spans_none (λ l. get_or owners l None ≡ Some i) n)

module _ (owners : List (Option ℕ)) (n k : ℕ) (own : List Run) (so_far : OwnsSoFar owners n k own) where
  pub owns_past : ((i : ℕ) → i < most_entries → get_or owners k None ≡ Some i → ⊥) → OwnsSoFar owners n (k + 1) own
  owns_past p i h = spans_past (λ l. get_or owners l None ≡ Some i) n k (get_or own i no_run) (so_far i h) (p i h)

  pub owns_with : (o : ℕ) {run : Run} → get_or owners k None ≡ Some o → length own ≡ most_entries → o < most_entries → run ≡ record { from = min (get_or own o no_run).from k; to = k + 1 } → OwnsSoFar owners n (k + 1) (set own o run)
  owns_with o {run} is long p e i h = elim (ℕ_discrete o i) [
    | yes q ↦ subst (Spans (λ l. get_or owners l None ≡ Some i) n (k + 1))
        (ap (λ (m : ℕ). record { from = min (get_or own m no_run).from k; to = k + 1 }) (sym q) ∙ (sym e ∙ (sym (get_or-set_same own o run no_run (omega arith)) ∙ ap (λ (m : ℕ). get_or (set own o run) m no_run) q)))
        (spans_with (λ l. get_or owners l None ≡ Some i) n k (get_or own i no_run) (so_far i h))
    | no q ↦ subst (Spans (λ l. get_or owners l None ≡ Some i) n (k + 1)) (sym (get_or-set_other own o i run no_run (λ r. q (sym r))))
        (spans_past (λ l. get_or owners l None ≡ Some i) n k (get_or own i no_run) (so_far i h) (λ r. q (let z : ◌≡◌ {A = Option ℕ} (Some o) (Some i) = sym is ∙ r in cc)))
  ]

-- of the owners of the first n laws, and so of all
pub ordered_all : (held : List ℕ) (owners : List (Option ℕ)) (n : ℕ) {runs : Runs} → n ≤ length owners → Ordered held (take n owners) (length (take n owners)) runs → Ordered held owners n runs
ordered_all held owners n {runs} h told =
    let ordered : Ordered held (take n owners) n runs = subst (λ (k : ℕ). Ordered held (take n owners) k runs) (length-take-le n owners h) told in
    record {
      executable = λ i p. spans_same n (get_or runs.own i no_run) (λ l q e. get_or-take n owners l None q ∙ e) (ordered.executable i p);
      effect = ordered.effect;
      fixed = ordered.fixed;
      concurrency = ordered.concurrency;
      goal = ordered.goal;
    }

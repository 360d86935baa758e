use mathlib.Core.Path.{ap, ◌∙◌}
use Rattle.bmap.specs.Domain.{Domain}
use Rattle.bmap.specs.Sheet.{rows}
use Rattle.bmap.specs.Judge.{judge}
use Rattle.judge.specs.Told.{Lawful}
use Rattle.judge.proofs.IndexLaws.{is_under, domain_here, only_one, index_lawful, index_ranged, index_entered, index_agents, index_knowing}
use Rattle.judge.proofs.OwnLaws.{ordered_all}
use native.Mathlib.Omega.{arith}
use Rattle.judge.proofs.judgement.judge_steps.Goals as goal

pub returns : goal.returns
returns c = record {
  few = c.run_sheet.ensures.few;
  judged = λ d f.
      let w = is_under c.args.store.now c.args.supplement.now f.of in
      let lawful : Lawful (domain_here w) c.hold_laws.new.held c.args.under.index.counts.laws = index_lawful w c.hold_laws.new.held c.hold_laws.ensures in
      c.run_sheet.ensures.judged (domain_here w) c.args.under.index.counts.laws (record {
        lawful = lawful;
        owned = c.all_owners-owners.ensures (domain_here w) lawful (index_knowing w c.all_knowers-table.result (omega (arith, c.requires.limits.fluents)) (omega (arith, c.requires.limits.knowledge)) c.all_knowers-table.ensures);
        ordered = ordered_all _ c.all_owners-owners.result c.args.under.index.counts.laws (omega (arith, c.requires.limits.laws)) c.all_runs-runs.ensures;
        ranged = index_ranged w;
        entered = index_entered w;
        agents = index_agents w;
      })
      ∙ ap (λ (e : Domain). judge e (rows c.args.under.index.counts.agents c.args.n c.args.sheet.now)) (only_one w f);
}

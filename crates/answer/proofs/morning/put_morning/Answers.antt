use Rattle.std.proofs.Common.{[], ◌∷◌, ◌++◌, refl, ap, ◌∙◌, arith}
use Rattle.bmap.specs.declared.limits.Counts.{Counts}
use Rattle.bmap.specs.Supplement.{replaced}
use Rattle.answer.proofs.ProgramLaws.{counts_speak}
use Rattle.answer.proofs.MorningLaws as laws
use Rattle.answer.proofs.morning.put_morning.Goals as goal

pub loop-m-init : goal.loop-m-init
loop-m-init c = record {
  underway = laws.first_place c.requires.cut;
  long = refl;
  along = λ d s k. record { judged = []; kept = laws.nothing_judged refl refl refl; report = refl };
}

pub next_sheet-requires : goal.next_sheet-requires
next_sheet-requires c = record { few = c.requires.few; underway = c.loop-m.invariant.underway; begun = c.loop-m-test.true; room = omega (arith, c.loop-m.invariant.long) }

pub loop-m-preserved : goal.loop-m-preserved
loop-m-preserved c = record {
  underway = c.in_ok-m.ensures.next_underway.0;
  long = omega (arith, c.next_sheet.auto.levels, c.loop-m.invariant.long);
  along = λ d s k.
      let a = c.loop-m.invariant.along d s k in
      let g = c.in_ok-m.ensures.next_is d s a.judged k a.kept in
      record { judged = a.judged ++ (g.sheet ∷ []); kept = g.kept; report = a.report ∙ g.report };
}

pub returns : goal.returns
unfolding replaced
returns c = λ d s k.
    let a = c.loop-m.invariant.along d s k in
    laws.report_ends (replaced s d) _ a.judged c.loop-m.m _ a.kept (ap (λ (n : Counts). n.fluents) (counts_speak k)) c.loop-m-test.false a.report c.sheets.ensures.put c.figures.ensures

use Rattle.std.proofs.Common.{ap, le_refl}
use Rattle.bmap.specs.declared.limits.Counts.{Counts}
use Rattle.answer.proofs.ProgramLaws.{counts_speak, put_judgement, refused_not}
use Rattle.answer.proofs.program.put_judged.Goals as goal

pub returns-in-Ok : goal.returns-in-Ok
returns-in-Ok c = λ d s steps k sheet.
    put_judgement _ _ _ _ _ (c.judge_found.ensures.levels_after k.found) (le_refl _) d s steps k.domain k.accepted sheet _ c.in-Ok.is (c.judge_found.ensures.states k.found) (ap (λ (n : Counts). n.fluents) (counts_speak k)) c.states.ensures.put c.put_verdict.ensures

pub returns-in_default : goal.returns-in_default
returns-in_default c = λ d s steps k sheet.
    absurd (refused_not _ _ _ _ _ (c.judge_found.ensures.levels_after k.found) (le_refl _) d s steps k.domain k.accepted sheet _ c.in_default.is)

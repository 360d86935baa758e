use mathlib.Core.Path.{sym, ◌∙◌}
use Rattle.bmap.specs.Judge.{each_from, holds}
use Rattle.judge.specs.Answer.{kind_of}
use Rattle.judge.proofs.LoopLaws.{each_none}
use Rattle.judge.proofs.CheckLaws.{run_starts, run_ends, others_pass}
use Rattle.judge.proofs.checks.check_in_step.Goals as goal

pub returns-then-run : goal.returns-then-run
returns-then-run c = λ d h s n kind lawful within seen. let f = holds s (kind_of c.args.fault) h c.args.j in
    sym (run_starts (λ k r. each_from k f r) d c.args.held.now n c.args.kind c.args.run lawful within (others_pass d c.args.held.now s (kind_of c.args.fault) h c.args.j kind)
    ∙ run_ends (λ k r. each_from k f r) d c.args.held.now n c.args.kind c.args.run lawful within (others_pass d c.args.held.now s (kind_of c.args.fault) h c.args.j kind) c.args.run.from c.if-run.true (each_none f))

use Rattle.std.proofs.Common.{ap, not, take, ◌∙◌, ◌≡◌}
use Rattle.bmap.specs.Plain.{all}
use borrow.Author.Tests.{lt-ltb}
use Rattle.domain.specs.Progress.{complete_in}
use Rattle.domain.proofs.CheckLaws.{none_false}
use Rattle.domain.proofs.progress.Progress.is_complete.Goals as goal

pub returns-then-n-gt0-3 : goal.returns-then-n-gt0-3
unfolding complete_in
returns-then-n-gt0-3 c =
    let n = c.args.self.now.index.counts in
    let some = c.if-n-gt0-3.true in
    let e : not c.contains.result ≡ all (λ b. b) (take n.entries c.args.self.now.ready)
    = ap not c.contains.ensures.value ∙ none_false _ in
    rw (lt-ltb 0 n.agents some.0, lt-ltb 0 n.fluents some.1, lt-ltb 0 n.entries some.2) e

use Rattle.std.proofs.Common.{ap, ◌∙◌}
use Rattle.std.specs.Option.{is_some}
use Rattle.domain.proofs.WriterLaws.{accepted_is}
use Rattle.domain.proofs.found.is_accepted.Goals as goal

pub returns : goal.returns
returns c = c.is_some.ensures ∙ ap is_some c.index_of.ensures ∙ accepted_is c.args.store.now

use Rattle.domain.proofs.Returns.{domain_lines_return, domain_returns}
use Rattle.domain.proofs.TextLaws.{domain_text_fits}
use Rattle.domain.proofs.shown.texts.Goals as goal

pub returns : goal.returns
returns c = record { lines_return = domain_lines_return; returns = domain_returns; fits = domain_text_fits }

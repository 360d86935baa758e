use Rattle.sheet.proofs.RoundTrip.{sheet_lines_return, sheet_returns}
use Rattle.sheet.proofs.TextLaws.{sheet_text_fits}
use Rattle.sheet.proofs.shown.texts.Goals as goal

pub returns : goal.returns
returns c = record { lines_return = sheet_lines_return; returns = sheet_returns; fits = sheet_text_fits }

-- The limit and one byte more decide: an input that is longer is refused as too long whatever follows. Assumes nothing.
use Rattle.std.proofs.Common.{◌≡◌, ℕ, ◌+◌, List, take}
use Rattle.bmap.specs.Limits.{most_input}
use Rattle.bmap.specs.Program.{output}
use Rattle.answer.proofs.AnsweredLaws.{long_unread}
use Rattle.answer.proofs.ProgramLaws.{long_output}

pub rest_unread : (input : List ℕ) → output (take (most_input + 1) input) ≡ output input
rest_unread = long_unread output long_output

-- The limit and one byte more decide: an input that is longer is refused as too long whatever follows. Assumes nothing.
use Rattle.std.proofs.Common.{◌≡◌, ℕ, ◌+◌, List, take}
use Rattle.bmap.specs.Limits.{most_input}
use Rattle.bmap.specs.Program.{low_water}
use Rattle.answer.proofs.AnsweredLaws.{long_unread}
use Rattle.answer.proofs.LowWaterLaws.{long_low_water}

pub rest_unread : (input : List ℕ) → low_water (take (most_input + 1) input) ≡ low_water input
rest_unread = long_unread low_water long_low_water

-- The sixteen bits of a value are the machine's.
use Rattle.std.proofs.Common.{◌≡◌, ◌∙◌, refl, ℤ, pos, negsuc, arith, ◌<◌, ◌/◌, ◌%◌}
use Rattle.bmap.specs.Number.{bits, bytes_of}
use mir.Syntax.{w16}
use mir.Val.{SFits, of_z}
use mir.Facts.{to_z-of_z}
use Rattle.number.proofs.bytes_of.Goals as goal

bits_are : (z : ℤ) → SFits w16 z → of_z w16 z ≡ bits z
bits_are (pos n) f = refl
bits_are (negsuc n) f = omega arith

bits_fit : (z : ℤ) → SFits w16 z → bits z < 65_536
bits_fit (pos n) f = omega arith
bits_fit (negsuc n) f = omega arith

pub returns : goal.returns
unfolding bytes_of
returns c =
    let small : bits c.args.z < 65_536 = bits_fit c.args.z c.ranges.z in
    let high : bits c.args.z / 256 % 256 ≡ bits c.args.z / 256 = omega arith in
    c.to_be_bytes.ensures ∙ rw (to_z-of_z c.ranges.z, bits_are c.args.z c.ranges.z, high)

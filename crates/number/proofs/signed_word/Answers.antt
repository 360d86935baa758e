-- What the machine reads of sixteen bits is their two's complement.
use Rattle.std.proofs.Common.{◌≡◌, ap, ◌∙◌, ℕ, suc, ◌-◌, arith}
use lib.Dec.{ltb}
use lib.IntN.{pos, negsuc}
use mir.Syntax.{w16}
use mir.Val.{to_z}
use mir.Facts.{to_z-of_z}
use Rattle.bmap.specs.Plain.{if_else}
use Rattle.bmap.specs.Number.{signed, signed_word}
use Rattle.number.proofs.signed_word.Goals as goal

read : (n : ℕ) → to_z w16 n ≡ signed n
read n =
    let missing : 65_536 - suc n ≡ 65_535 - n = omega arith in
    ap (λ (k : ℕ). if_else (ltb n 32_768) (pos n) (negsuc k)) missing

pub returns : goal.returns
unfolding signed_word
returns c = to_z-of_z {w = w16} (record { sfits = c.from_be_bytes.type_inv }) ∙ (c.from_be_bytes.ensures ∙ read _)

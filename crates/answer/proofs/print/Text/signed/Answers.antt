use Rattle.std.proofs.Common.{◌≡◌, [], ◌∷◌, refl, ap, length, arith, sym, subst}
use Rattle.bmap.specs.Program.{decimal, decimal_z, spaced}
use Rattle.answer.specs.Put.{Put}
use Rattle.answer.specs.declared.print.Text.{Text}
use Rattle.answer.proofs.PutLaws.{length_spaced, below_zero, from_zero, put_space, put_then, signed_short}
use Rattle.answer.proofs.print.Text.signed.Goals as goal
use Rattle.answer.proofs.print.Text.signed.Goals.{then-n-lt0, else-n-lt0}

pub byte-requires : goal.byte-requires
byte-requires c = omega (arith, length_spaced (decimal_z c.args.n))

pub byte-requires-then-n-lt0 : goal.byte-requires-then-n-lt0
byte-requires-then-n-lt0 c = omega (arith, length_spaced (decimal_z c.args.n), ap length (below_zero c.args.n c.ranges.n refl c.if-n-lt0.true))

pub digits-requires : goal.digits-requires
digits-requires c = elim c.if-n-lt0.branch [
  | then-n-lt0 w ↦
      let text : decimal_z c.args.n ≡ 45 ∷ decimal c.unsigned_abs.result = below_zero c.args.n c.ranges.n c.unsigned_abs.ensures.value w.if-n-lt0.true in
      rw w.self-is (omega (arith, length_spaced (decimal_z c.args.n), ap length text, c.byte.ensures.size, c.byte.ensures.place, w.byte-then-n-lt0.ensures.size, w.byte-then-n-lt0.ensures.place, c.requires))
  | else-n-lt0 w ↦
      let text : decimal_z c.args.n ≡ decimal c.unsigned_abs.result = from_zero c.args.n c.ranges.n c.unsigned_abs.ensures.value w.if-n-lt0.false in
      rw w.self-is (omega (arith, length_spaced (decimal_z c.args.n), ap length text, c.byte.ensures.size, c.byte.ensures.place, c.requires))
]

pub returns : goal.returns
returns c =
    let text : Put c.args.self.now (spaced (decimal_z c.args.n ∷ [])) c.digits.new.self = elim c.if-n-lt0.branch [
      | then-n-lt0 w ↦
          rw (below_zero c.args.n c.ranges.n c.unsigned_abs.ensures.value w.if-n-lt0.true)
          (put_space c.byte.ensures (put_then (subst (λ (m : Text). Put c.byte.new.self (45 ∷ []) m) (sym w.self-is) w.byte-then-n-lt0.ensures) c.digits.ensures))
      | else-n-lt0 w ↦
          rw (from_zero c.args.n c.ranges.n c.unsigned_abs.ensures.value w.if-n-lt0.false)
          (put_space (subst (λ (m : Text). Put c.args.self.now (32 ∷ []) m) (sym w.self-is) c.byte.ensures) c.digits.ensures)
    ] in
    record { put = text; upper_bound = omega (arith, text.place, signed_short c.args.n c.ranges.n) }

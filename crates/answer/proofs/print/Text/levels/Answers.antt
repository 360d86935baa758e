use Rattle.std.proofs.Common.{◌≡◌, ℤ, get_or, pos, arith, rules, FitsSigned, to_z, of_z, w16, w64}
use Rattle.std.proofs.lemmas.Int.{to_z-of_z}
use Rattle.bmap.specs.Program.{spaced}
use Rattle.answer.proofs.PutLaws.{put_nothing, levels_more, level_short}
use Rattle.answer.proofs.print.Text.levels.Goals as goal

pub loop-level-init : goal.loop-level-init
unfolding spaced
loop-level-init c = (omega arith, put_nothing _ (omega arith))

pub signed-requires : goal.signed-requires
signed-requires c =
    let level : ℤ = get_or c.args.levels.now c.loop-level.level-index (pos 0) in
    let fits : FitsSigned w16 level = search rules in
    let same : to_z w64 (of_z w64 c.from.result) ≡ level = search (rules, to_z-of_z) in
    rw same (omega (arith, level_short level fits, c.loop-level.invariant.1.size))

pub loop-level-preserved : goal.loop-level-preserved
loop-level-preserved c =
    let level : ℤ = get_or c.args.levels.now c.loop-level.level-index (pos 0) in
    let fits : FitsSigned w16 level = search rules in
    let same : to_z w64 (of_z w64 c.from.result) ≡ level = search (rules, to_z-of_z) in
    let put = rw (same) at c.signed.ensures.put in
    (omega (arith, level_short level fits, put.place), levels_more c.args.levels.now _ c.loop-level-test.true same c.loop-level.invariant.1 c.signed.ensures.put)

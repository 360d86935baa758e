use Rattle.std.proofs.Common.{◌≡◌, ℤ, ◌+◌, ◌*◌, ◌+ℤ◌, get_or, pos, arith, rules, ◌∙◌, FitsSigned, to_z, of_z, w16, w64}
use Rattle.std.proofs.lemmas.Int.{ints, to_z-of_z}
use Rattle.answer.proofs.FiguresLaws.{found, figures_begin, figures_next, lower_is, higher_is}
use Rattle.answer.proofs.figures.figures_of.Goals as goal

pub loop-k-init : goal.loop-k-init
loop-k-init c =
    let level : ℤ = get_or c.args.states.now.levels.now c.args.fluent (pos 0) in
    let fits : FitsSigned w16 level = search rules in
    let same : to_z w64 (of_z w64 c.from-first.result) ≡ level = search (rules, to_z-of_z) in
    (omega (arith, ints), omega (arith, ints), figures_begin _ _ _ c.requires.2 same)

pub loop-k-preserved : goal.loop-k-preserved
loop-k-preserved c =
    let level : ℤ = get_or c.args.states.now.levels.now (c.loop-k.k * c.args.states.now.fluents + c.args.fluent) (pos 0) in
    let fits : FitsSigned w16 level = search rules in
    let next : ℤ = to_z w64 (of_z w64 c.from-next.result) in
    let same : next ≡ level = search (rules, to_z-of_z) in
    let lowest : ℤ = to_z w64 c.loop-k.lowest-bits in
    let highest : ℤ = to_z w64 c.loop-k.highest-bits in
    let sum : ℤ = to_z w64 c.loop-k.sum-bits in
    let total : to_z w64 (of_z w64 (sum +ℤ next)) ≡ sum +ℤ next = omega (arith, ints) in (
      omega (arith, ints),
      omega (arith, ints),
      figures_next _ _ _ c.requires.2 (found lowest highest sum c.loop-k.k) same
          (to_z-of_z w64 _ (record { sfits = c.min-lowest.type_inv }) ∙ c.min-lowest.ensures.value ∙ lower_is lowest next)
          (to_z-of_z w64 _ (record { sfits = c.max-highest.type_inv }) ∙ c.max-highest.ensures.value ∙ higher_is highest next)
          total c.loop-k.invariant.2,
    )

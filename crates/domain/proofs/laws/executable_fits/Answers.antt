use Rattle.std.proofs.Common.{ap, ◌∙◌, drop, arith}
use Rattle.bmap.specs.declared.limits.Context.{Context}
use Rattle.bmap.specs.Tree.{allowed_c}
use Rattle.bmap.specs.Code.{parse_c}
use Rattle.law.specs.Check.{end_of}
use Rattle.domain.proofs.LawLaws.{executable_not, executable_law}
use Rattle.domain.proofs.laws.executable_fits.Goals as goal

pub returns-then-p-eq0 : goal.returns-then-p-eq0
returns-then-p-eq0 c = executable_not c.args.n c.args.p.now (λ h. omega (arith, c.byte_at-entry.ensures, c.then-p-eq0.either))

pub returns : goal.returns
returns c =
    let p = c.args.p.now in
    c.is_last.ensures
    ∙ executable_law c.args.n p (omega arith) (omega (arith, c.byte_at-entry.ensures)) _
    (c.check_constraint.ensures ∙ ap (λ (x : Context). end_of (allowed_c x) 1 (parse_c 16 (drop 1 p))) c.context_of.ensures)

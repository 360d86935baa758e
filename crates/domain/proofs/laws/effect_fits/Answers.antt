use Rattle.std.proofs.Common.{◌+◌, ap, ◌∙◌, drop, arith}
use Rattle.bmap.specs.declared.limits.Context.{Context}
use Rattle.bmap.specs.Tree.{allowed_e, allowed_c}
use Rattle.bmap.specs.Code.{parse_e, parse_c}
use Rattle.law.specs.Check.{end_of}
use Rattle.domain.proofs.LawLaws.{effect_not, effect_refused, effect_end, effect_law}
use Rattle.domain.proofs.laws.effect_fits.Goals as goal

pub returns-then-p-eq0 : goal.returns-then-p-eq0
returns-then-p-eq0 c = effect_not c.args.n c.args.p.now (λ h. omega (arith, c.byte_at-entry.ensures, c.then-p-eq0.either))

pub returns-in_default : goal.returns-in_default
returns-in_default c =
    let p = c.args.p.now in
    effect_refused c.args.n p (omega arith) (omega (arith, c.byte_at-entry.ensures))
    (c.in_default.ensures ∙ ap (λ (x : Context). end_of (allowed_c x) 1 (parse_c 16 (drop 1 p))) c.context_of-x.ensures)

pub returns-then-next-p : goal.returns-then-next-p
returns-then-next-p c =
    let p = c.args.p.now in
    effect_end c.args.n p (omega arith) (omega (arith, c.byte_at-entry.ensures)) c.in-Some.next
    (c.in-Some.ensures ∙ ap (λ (x : Context). end_of (allowed_c x) 1 (parse_c 16 (drop 1 p))) c.context_of-x.ensures)
    (λ h. omega (arith, c.byte_at-fluent.ensures, c.then-next-p.either))

pub returns : goal.returns
returns c =
    let p = c.args.p.now in
    let next = c.in-Some.next in
    c.is_last.ensures
    ∙ effect_law c.args.n p (omega arith) (omega (arith, c.byte_at-entry.ensures)) next
    (c.in-Some.ensures ∙ ap (λ (x : Context). end_of (allowed_c x) 1 (parse_c 16 (drop 1 p))) c.context_of-x.ensures)
    (omega arith) (omega (arith, c.byte_at-fluent.ensures)) _
    (c.check_expression.ensures ∙ ap (λ (x : Context). end_of (allowed_e x) (next + 1) (parse_e 16 (drop (next + 1) p))) c.context_of-x.ensures)

use Rattle.std.proofs.Common.{ap, sym, ◌∙◌, inl, inr}
use Rattle.bmap.specs.declared.limits.Context.{Context}
use Rattle.bmap.specs.Tree.{allowed_c}
use Rattle.bmap.specs.Code.{parse_c}
use Rattle.bmap.specs.Domain.{static, concurrency, goal}
use Rattle.law.specs.Check.{end_of}
use Rattle.domain.specs.Check.{is_some}
use Rattle.bmap.specs.Payload.{law_in}
use Rattle.domain.proofs.LawLaws.{must_law}
use Rattle.domain.proofs.laws.law_fits.Goals as goals

pub returns-in-167 : goals.returns-in-167
returns-in-167 c =
    let n = c.args.n in
    let p = c.args.p.now in
    let e = c.check_constraint.ensures ∙ ap (λ (x : Context). end_of (allowed_c x) 0 (parse_c 16 p)) c.context_of.ensures in
    c.is_last.ensures
    ∙ elim c.in-167.is [
      | inl k ↦ must_law n p _ static e ∙ ap (λ i. is_some (law_in n i p)) (sym k)
      | inr k ↦ must_law n p _ goal e ∙ ap (λ i. is_some (law_in n i p)) (sym k)
    ]

pub returns-in-168 : goals.returns-in-168
returns-in-168 c =
    let n = c.args.n in
    let p = c.args.p.now in
    c.is_last-in-168.ensures
    ∙ must_law n p _ concurrency (c.check_constraint-in-168.ensures ∙ ap (λ (x : Context). end_of (allowed_c x) 0 (parse_c 16 p)) c.context_of-in-168.ensures)
    ∙ ap (λ i. is_some (law_in n i p)) (sym c.in-168.is)

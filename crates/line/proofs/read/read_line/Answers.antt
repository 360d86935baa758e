use mathlib.Core.Path.{◌≡◌, sym, ap, ◌∙◌}
use native.Mathlib.Omega.{arith}
use borrow.Author.Rules.{rules}
use borrow.Author.Tests.{eqb-true, eqb-false}
use Rattle.std.specs.Prelude.{Err}
use Rattle.line.specs.Read.{said}
use Rattle.line.proofs.LineLaws.{read_no_room, read_nothing, read_whole, read_begins, read_done}
use Rattle.line.proofs.read.read_line.Goals as goal

pub returns-then-out-lt-FRAME : goal.returns-then-out-lt-FRAME
returns-then-out-lt-FRAME c =
    let (a, b) = read_no_room c.args.text.now c.args.out.now c.if-out-lt-FRAME.true in record { answer = a; buffer = b }

pub returns-then-is_empty : goal.returns-then-is_empty
returns-then-is_empty c =
    let (a, b) = read_nothing c.args.text.now c.args.out.now (omega arith) (eqb-true _ _ (sym c.if-is_empty.ensures)) in record { answer = a; buffer = b }

pub returns-in-Some : goal.returns-in-Some
returns-in-Some c =
    let (a, b) = read_whole c.args.text.now c.args.out.now c.decode.new.out c.in-Some.bytes (omega arith) c.in-Some.ensures c.decode.ensures in
    record { answer = a; buffer = b }

pub line_of-requires : goal.line_of-requires
line_of-requires c =
    read_begins c.args.text.now c.args.out.now c.spell-n.new.out c.spell-n.result (omega arith) c.spell-n.ensures.count c.spell-n.ensures.buffer (omega (arith, eqb-false _ _ (sym c.if-is_empty.ensures)))

pub returns-in_err-line_of : goal.returns-in_err-line_of
returns-in_err-line_of c =
    let e : c.from_residual.result ≡ Err c.in_err-line_of.field-0.0 = search rules in
    let (a, b) = read_done c.args.text.now c.args.out.now c.spell-n.new.out c.spell-n.result (omega arith) c.spell-n.ensures.count c.spell-n.ensures.buffer _ c.in_err-line_of.ensures in
    record { answer = ap said e ∙ a; buffer = b }

pub returns : goal.returns
returns c =
    let (a, b) = read_done c.args.text.now c.args.out.now c.spell-n.new.out c.spell-n.result (omega arith) c.spell-n.ensures.count c.spell-n.ensures.buffer _ c.in_ok-line_of.ensures in
    record { answer = a; buffer = b }

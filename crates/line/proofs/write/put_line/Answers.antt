use native.Mathlib.Omega.{arith}
use Rattle.line.proofs.WriteLaws.{put_long, put_short, put_done}
use Rattle.line.proofs.write.put_line.Goals as goal

pub returns-then-payload-gt-PAYLOAD : goal.returns-then-payload-gt-PAYLOAD
returns-then-payload-gt-PAYLOAD c =
    let (a, b) = put_long c.args.kind c.args.payload.now c.args.out.now c.if-payload-gt-PAYLOAD.true in record { answer = a; buffer = b }

pub returns-then-out-size : goal.returns-then-out-size
returns-then-out-size c =
    let (a, b) = put_short c.args.kind c.args.payload.now c.args.out.now (omega arith) c.if-out-size.true in record { answer = a; buffer = b }

pub returns : goal.returns
returns c =
    let (a, b) = put_done c.args.kind c.args.payload.now c.args.out.now c.put_bytes.new.out c.put_bytes-2.new.out (omega arith) (omega arith) c.put_bytes.ensures c.put_bytes-2.ensures in
    record { answer = a; buffer = b }

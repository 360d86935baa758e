use Rattle.std.proofs.Common.{length, refl, ap, ◌∙◌, arith}
use Rattle.std.proofs.Math.Seq.{length-sets}
use Rattle.answer.proofs.PutLaws.{put_copied}
use Rattle.answer.proofs.print.Text.word.Goals as goal

pub returns : goal.returns
returns c =
    let t = c.args.self.now in
    let bytes = put_copied t.out.now c.args.word.now t.at c.requires c.copy_from_slice.ensures.after in
    record { same = refl; size = ap length bytes ∙ length-sets t.out.now t.at c.args.word.now; place = refl; fits = omega (arith, c.requires, ap length bytes, length-sets t.out.now t.at c.args.word.now); bytes = bytes }

use Rattle.std.proofs.Common.{◌+◌, ap}
use Rattle.index.proofs.PartLaws.{part_bytes, part_place}
use Rattle.index.proofs.part.Goals as goal

pub returns : goal.returns
returns c =
    let s = c.args.store in
    record {
      contents = part_bytes s.now c.args.at c.min.result c.args.size c.min-2.result c.min.ensures c.min-2.ensures;
      place = λ h. ap (λ k. (s.ref_ptr.0, k + s.ref_ptr.1)) (part_place s.now c.args.at c.min.result c.args.size c.min-2.result c.min.ensures h);
    }

use Rattle.supplement.proofs.LayingTheorems.{laid_accepted, ordered_orders, laying_associates, empty_only_orders, over_itself, apart_commutes, judged_under_both}
use Rattle.supplement.proofs.shown.layings.Goals as goal

pub returns : goal.returns
returns c = record {
  accepted = laid_accepted;
  ordered = ordered_orders;
  associates = laying_associates;
  empty = empty_only_orders;
  itself = over_itself;
  apart = apart_commutes;
  in_turn = judged_under_both;
}

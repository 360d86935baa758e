-- Each turn has less left.
pub mod TurnLaws

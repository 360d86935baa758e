-- What is shown of the definitions alone.
-- K8: lists by law number, what fixes one, and supplements laid over one another.
pub mod ByNumberLaws
pub mod RisingLaws
pub mod LayingLaws
-- K1: what is read of an input decides its report.
pub mod UnreadLaws
pub mod LongTexts
-- K3: quotient and remainder.
pub mod DivisionLaws
-- K4: laws that look back.
pub mod LookBackLaws
-- K6: what is so of every state that is written, and the limits of their changes.
pub mod ReachedLaws
pub mod ChangesLaws

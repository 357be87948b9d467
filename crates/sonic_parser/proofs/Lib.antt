mod BeginningLemmas
mod BlockLemmas
pub mod DescentLemmas
pub mod FaultLemmas
pub mod HonestLemmas
mod RefusalLemmas
mod NumberRunLemmas
pub mod SkippingLemmas
mod SpaceLemmas
mod TextLemmas
mod UncheckedLemmas

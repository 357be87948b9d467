pub mod BlockLemmas
pub mod BoolLemmas
pub mod BitLemmas
pub mod CountLemmas
mod SumLemmas
pub mod OutsideLemmas
mod ParityLemmas
pub mod EscapeLemmas
mod InsideLemmas
mod LaneLemmas
mod LowestLemmas
pub mod OnesLemmas
mod ClosingLemmas
mod NextBitLemmas
mod StringBlockLemmas
mod ElementLemmas
mod ViewLemmas
pub mod RunLemmas

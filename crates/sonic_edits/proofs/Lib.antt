mod EditingLemmas
mod ElementLemmas
pub mod LineOutcomes
mod LineTests
mod ReadingLemmas
mod SayingLemmas
pub mod SoundLemmas

mod Answered
mod AnswerLemmas
pub mod BulkLemmas
pub mod Calls
mod ChangeLemmas
pub mod CopyLemmas
pub mod DocumentLemmas
pub mod EditLemmas
mod Folds
mod IntegerLemmas
mod ItemLemmas
mod KeptTextLemmas
mod LeadingLemmas
pub mod LedPartLemmas
mod Lent
mod LentTexts
mod LevelLemmas
mod LevelWalk
mod Lists
pub mod Loans
pub mod MeaningLemmas
pub mod MeantPathLemmas
mod OpenedLemmas
mod OpeningLemmas
mod OpenLemmas
mod PartTextLemmas
mod PutLawLemmas
mod PutLemmas
mod ReachLemmas
mod Steps
mod TextLemmas
pub mod UntouchedLemmas
pub mod UnwrittenLemmas
mod Utf8Lemmas
pub mod ValueLemmas
mod WalkLemmas

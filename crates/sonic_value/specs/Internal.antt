-- What serves private clauses and invariants alone.
pub mod Clones
pub mod Comparisons
pub mod EqualityLaws
pub mod Fillers
pub mod Inserted
pub mod Keeping
pub mod Keys
pub mod Loans
pub mod OpenSchemas
pub mod OpenTexts
pub mod ReaderViews
pub mod Readers
pub mod ValueCounts

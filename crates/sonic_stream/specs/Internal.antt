-- What serves the invariant of `RecordStream` alone.
pub mod Counts
pub mod StreamViews

-- What serves walks through a text: invariants, on which no public clause rests.
pub mod Collected
pub mod Columns
pub mod CursorViews
pub mod Each
pub mod Fill
pub mod FirstAnswers
pub mod Follow
pub mod Marks
pub mod Roots
pub mod Table
pub mod View
pub mod Visits
pub mod Walk

pub mod Internal
pub mod LineRows
pub mod LineTexts
pub mod Pieces
pub mod Streams

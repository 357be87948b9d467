pub mod Ascii
pub mod BracketLemmas
mod CodepointLemmas
pub mod Completions
pub mod Decimals
pub mod EndLemmas
mod EscapeFaultLemmas
mod EscapeLemmas
mod FirstByteLemmas
mod HexDigitLemmas
pub mod Insides
pub mod Items
mod KeyLemmas
pub mod LevelLemmas
pub mod LiteralLemmas
pub mod NumberBytes
pub mod Numbers
mod OrdinaryLemmas
pub mod Outcomes
pub mod PartItems
pub mod Parts
pub mod PlacedLemmas
pub mod Places
pub mod PlainStrings
pub mod Same
pub mod SameFaults
mod SameStrings
pub mod SameValues
pub mod Stops
pub mod QuotedLemmas
mod QuotedTextLemmas
mod QuoteLemmas
mod ReadingLemmas
mod StringReadingLemmas
pub mod StringTexts
pub mod Strings
mod TableLemmas
pub mod TreeLemmas
pub mod ValueCompletions
pub mod ValueParts
pub mod Values
pub mod Within
-- What is written as a string is one.
pub mod WrittenLemmas

-- What specs/Answers.antt and specs/Causes.antt rest on.
-- paths have one answer
pub mod One
-- what a walk says of it
pub mod Walk
-- the spans of an answer, and the causes of a refusal
pub mod Cause
-- where they are those of each path alone
pub mod Agree
-- what each path is told by itself
pub mod Each

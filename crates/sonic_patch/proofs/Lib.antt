-- A text says a patch, or it says none for a reason.
mod DecisionLemmas
-- What is decided for a form is what is decided for its tree.
mod EditDecisionLemmas
-- The elements of an array, as an iterator gives them.
mod ElementLemmas
-- What a piece of a pointer says, from tilde to tilde.
mod EscapeLemmas
-- Which tokens are an index.
mod IndexLemmas
-- The tokens of a pointer are keys.
mod KeyLemmas
-- What values without parts mean, by their type.
mod LeafLemmas
-- Trees have one signature exactly where they are the same.
mod MarkLemmas
-- What the members of an object say as an operation.
mod OperationLemmas
-- A text says one list of operations, or has one reason.
pub mod OutcomeLemmas
-- What operations make of forms is what they make of their trees.
mod PatchLemmas
-- The pieces of a pointer, and the tokens that they say.
mod PieceLemmas
-- What is decided at the container of the last token.
mod PlanLemmas
-- What the errors of reading say.
mod RefusalLemmas
-- Where tokens lead in a form.
mod ResolveLemmas
-- Sameness of trees is an equivalence.
pub mod SameLemmas
-- What the shapes of labels and of values without parts represent.
mod ScalarLemmas
-- Numbers that are given to shapes name signatures.
mod ShapeLemmas
-- What a patch says is sound, and means operations of trees.
pub mod SoundLemmas
-- What the tags of a value make of cells, and what slots represent.
mod StackLemmas
-- What the program makes of a value by one operation.
mod StepLemmas
-- Trees with the same tags are one.
mod TagLemmas
-- Operations are made, or one is the first that isn't.
pub mod UnmadeLemmas
-- What a walk has come to after a step, and which tags remain.
mod WalkLemmas
-- What strings by themselves denote.
mod WordLemmas

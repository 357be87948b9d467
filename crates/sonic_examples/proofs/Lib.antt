-- The last value around a place, by a loop over all of them.
mod AroundLemmas
-- A loop over an iterator sees exactly the elements.
mod ElementLemmas

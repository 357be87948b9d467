-- The last value around a place, by a loop over all of them.
use Rattle.std.proofs.Common.{inl, inr, ℕ, ◌+◌, List, arith}
use Rattle.std.proofs.lemmas.Bool.{cases_eq}
use Rattle.std.specs.Prelude.{Option, Some, None, IfNone, IfSome}
use Rattle.sonic_index.specs.declared.entry.Entry.{Entry}
use Rattle.sonic_examples.specs.Around.{IsAround, NoneAround}

-- of no values none is around the place
pub none_yet : (es : List Entry) (place n : ℕ) → NoneAround es place n n
none_yet es place n i from below = absurd (omega arith)

-- nor is one of some and of one more
none_more : {es : List Entry} {place n m : ℕ} → NoneAround es place n m → ¬ IsAround es place m → NoneAround es place n (m + 1)
none_more {m = m} none here i from below = elim (cases_eq i m) [
  | inl same ↦ rw same here
  | inr other ↦ none i from (omega arith)
]

-- what was found stays the last after a value that isn't around the place
pub stays_last : {es : List Entry} {place m : ℕ} (found : Option ℕ) → IfSome found (λ i. IsAround es place i × NoneAround es place (i + 1) m)
    → ¬ IsAround es place m → IfSome found (λ i. IsAround es place i × NoneAround es place (i + 1) (m + 1))
stays_last None last here = tt
stays_last (Some i) last here = (last.0, none_more last.1 here)

-- and where nothing was found there is still none
pub stays_none : {es : List Entry} {place m : ℕ} (found : Option ℕ) → IfNone found (NoneAround es place 0 m) → ¬ IsAround es place m
    → IfNone found (NoneAround es place 0 (m + 1))
stays_none None none here = none_more none here
stays_none (Some i) none here = tt

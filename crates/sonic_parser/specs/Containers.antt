-- How a container goes on: after its opening bracket, and after an item.
use Rattle.std.specs.Prelude.{◌≡◌, ◌⊎◌, ℕ, ◌+◌, List}
use Rattle.sonic_text.specs.declared.kind.Kind.{Kind}
use Rattle.sonic_text.specs.declared.stop.Stop.{Stop}
use Rattle.sonic_text.specs.Places.{byte, after_space, stop_at}
use Rattle.sonic_text.specs.Values.{closing}
use Rattle.sonic_text.specs.Faults.{NothingFits, code_after_item}

-- after what ends at e the closing bracket comes, and ends at j
abbrev pub IsEnd : List ℕ → Kind → ℕ → ℕ → Type 0
IsEnd t kind e j = (byte t (after_space t e) ≡ closing kind) × (j ≡ after_space t e + 1)

-- after the item whose value ends at e a comma comes, and the next item is expected at h
abbrev pub IsSeparated : List ℕ → ℕ → ℕ → Type 0
IsSeparated t e h = (byte t (after_space t e) ≡ 44) × (h ≡ after_space t (after_space t e + 1))

-- one of the two comes
abbrev pub GoesOn : List ℕ → Kind → ℕ → Type 0
GoesOn t kind e = (byte t (after_space t e) ≡ 44) ⊎ (byte t (after_space t e) ≡ closing kind)

-- neither comes, for this reason
abbrev pub IsSeparatorFault : List ℕ → Kind → ℕ → Stop → Type 0
IsSeparatorFault t kind e s = NothingFits t e (closing kind) × (s ≡ stop_at t (after_space t e) (code_after_item kind))

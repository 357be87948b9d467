-- The bytes that a slice of an input shows.
use Rattle.std.specs.Prelude.{ℕ, Bool, true, false, List, slice_range}
use Rattle.sonic_input.specs.declared.shared.SharedSlice.{SharedSlice}
use Rattle.sonic_input.specs.declared.slice.JsonSlice.{JsonSlice}
use Rattle.sonic_input.specs.declared.slice.JsonSlice.TheVariants.{Raw, Shared}

-- the bytes of its range
abbrev pub shared_bytes : SharedSlice → List ℕ
shared_bytes shared = slice_range shared.whole.now shared.start shared.end

-- its bytes, whether they lie in a plain slice or in a part of shared bytes
abbrev pub slice_bytes : JsonSlice → List ℕ
slice_bytes (Raw bytes) = bytes.now
slice_bytes (Shared shared) = slice_range shared.whole.now shared.start shared.end

-- it is a part of shared bytes
abbrev pub is_shared : JsonSlice → Bool
is_shared (Raw bytes) = false
is_shared (Shared shared) = true

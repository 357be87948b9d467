-- What carries over from one block to the next.
use Rattle.std.specs.Prelude.{◌≡◌, ℕ, ◌-◌, ◌^◌, ◌≤◌, if◌then◌else◌, List}
use Rattle.sonic_blocks.specs.Outside.{is_escaped_at, is_inside_at}

-- what carries over to the block at p: 1 where p is escaped, and all bits where it is inside a string, else 0
pub record AreCarried (t : List ℕ) (s p escape string : ℕ) : Type 0 where
  pub from : s ≤ p
  pub escapes : escape ≡ (if is_escaped_at t s p then 1 else 0)
  pub strings : string ≡ (if is_inside_at t s p then 2 ^ 64 - 1 else 0)

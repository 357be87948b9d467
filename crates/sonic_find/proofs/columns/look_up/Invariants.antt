use Rattle.std.proofs.Common.{◌≡◌, ◌≢◌, ◌<◌, ℕ, List, map}
use Rattle.std.specs.Prelude.{Some, slice_get}
use Rattle.sonic_text.specs.Strings.{strict, IsString}
use Rattle.sonic_find.proofs.columns.look_up.Given as goal

abbrev pub invariant-loop-number : goal.invariant-loop-number
invariant-loop-number l = record {
  same : (k : List ℕ) → slice_get (map (λ k. k.now) l.keys) l.column ≡ Some k → IsString strict l.text l.place l.end k;
  other : (n : ℕ) (k : List ℕ) → n < l.number → slice_get (map (λ k. k.now) l.keys) n ≡ Some k → n ≢ l.column → ¬ IsString strict l.text l.place l.end k;
}

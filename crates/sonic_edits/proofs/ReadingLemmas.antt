-- What the calls that read a line answer, and the texts of the values that they are given.
use Rattle.std.proofs.Common.{◌≡◌, ap₂, sym, refl, ◌<◌, ◌≤◌, ◌-◌, List, [], ◌∷◌, get_or, take, drop, length, map, Option, Some, None, Result, Ok, Err, arith}
use Rattle.std.proofs.Math.Seq.{take-length}
use Rattle.std.specs.Prelude.{IfOk, IfSome}
use Rattle.sonic_lazy.specs.LazyValues.{raw_bytes}
use Rattle.sonic_lazy.specs.declared.lazyvalue.LazyValue.{LazyValue}

-- the texts of values, where they are so many
pub no_text : (vs : List LazyValue) → length vs < 1 → map raw_bytes vs ≡ []
no_text [] l = refl
no_text (v ∷ vs) l = absurd (omega arith)

pub one_text : (vs : List LazyValue) (v : LazyValue) → 1 ≤ length vs → length vs < 2 → v ≡ get_or vs 0 v → map raw_bytes vs ≡ raw_bytes v ∷ []
one_text [] v m l e = absurd (omega arith)
one_text (x ∷ []) v m l e = rw e refl
one_text (x ∷ y ∷ vs) v m l e = absurd (omega arith)

pub two_texts : (vs : List LazyValue) (v w : LazyValue) → 2 ≤ length vs → length vs < 3 → v ≡ get_or vs 0 v → w ≡ get_or vs 1 w
    → map raw_bytes vs ≡ raw_bytes v ∷ raw_bytes w ∷ []
two_texts [] v w m l e f = absurd (omega arith)
two_texts (x ∷ []) v w m l e f = absurd (omega arith)
two_texts (x ∷ y ∷ []) v w m l e f = ap₂ (λ (a b : LazyValue). raw_bytes a ∷ raw_bytes b ∷ []) (sym e) (sym f)
two_texts (x ∷ y ∷ z ∷ vs) v w m l e f = absurd (omega arith)

pub more_texts : (vs : List LazyValue) (v w : LazyValue) → 2 ≤ length vs → v ≡ get_or vs 0 v → w ≡ get_or vs 1 w
    → map raw_bytes vs ≡ raw_bytes v ∷ raw_bytes w ∷ map raw_bytes (take (length vs - 2) (drop 2 vs))
more_texts [] v w m e f = absurd (omega arith)
more_texts (x ∷ []) v w m e f = absurd (omega arith)
more_texts (x ∷ y ∷ vs) v w m e f =
    let count : length (x ∷ y ∷ vs) - 2 ≡ length vs = omega arith in
    let rest : take (length (x ∷ y ∷ vs) - 2) vs ≡ vs = rw count (take-length vs) in
    rw rest (ap₂ (λ (a b : LazyValue). raw_bytes a ∷ raw_bytes b ∷ map raw_bytes vs) (sym e) (sym f))

-- what is said of an answer, said more weakly
pub ok_weaker : {T E : Type 0} {P Q : T → Type 0} (r : Result T E) → ((t : T) → P t → Q t) → IfOk r P → IfOk r Q
ok_weaker (Ok t) f h = f t h
ok_weaker (Err e) f h = tt

pub some_weaker : {T : Type 0} {P Q : T → Type 0} (o : Option T) → ((t : T) → P t → Q t) → IfSome o P → IfSome o Q
some_weaker (Some t) f h = f t h
some_weaker None f h = tt

use Rattle.std.proofs.Common.{◌≡◌, ℕ, ◌+◌, ◌-◌, ◌≤◌, ◌++◌, List, length, take, drop, arith, refl, ap, ◌∙◌, take-add}
use Rattle.std.proofs.lemmas.Bool.{OnTrue_from}
use Rattle.std.proofs.lemmas.Bool.Decides.{Decides-eqb}
use Rattle.std.proofs.lemmas.List.{take_at, drop_at, append_assoc, length-take-le, length-drop, take_rest}
use Rattle.std.proofs.lemmas.Slice.Eq.{starts_is}
use Rattle.sonic_text.proofs.key.goes_on.Goals as goal

-- a piece that follows the first n bytes
joined : (key piece rest : List ℕ) (n : ℕ) → drop n key ≡ piece ++ rest → take (n + length piece) key ≡ take n key ++ piece
joined key piece rest n e = take-add n (length piece) key ∙ ap (λ x. take n key ++ x) (ap (take (length piece)) e ∙ take_at piece rest (length piece) refl)

pub returns-clause-yes : goal.returns-clause-yes
returns-clause-yes c =
    let a = c.args in
    let s = starts_is Decides-eqb (drop a.done a.key.now) a.piece.now c.starts_with.result (rw (take_rest a.key.now a.done) at c.starts_with.ensures.value) in
    OnTrue_from c.starts_with.result ((a.done + length a.piece.now ≤ length a.key.now) × (take (a.done + length a.piece.now) a.key.now ≡ take a.done a.key.now ++ a.piece.now)) (λ h. (omega (arith, c.starts_with.ensures.bound h, length-drop a.done a.key.now, length-take-le (length a.key.now - a.done) (drop a.done a.key.now)), joined a.key.now a.piece.now _ a.done (s.0 h)))

pub returns-clause-no : goal.returns-clause-no
returns-clause-no c =
    let a = c.args in
    let s = starts_is Decides-eqb (drop a.done a.key.now) a.piece.now c.starts_with.result (rw (take_rest a.key.now a.done) at c.starts_with.ensures.value) in
    λ f rest e.
    let h : drop a.done a.key.now ≡ a.piece.now ++ rest = ap (drop a.done) (e ∙ append_assoc (take a.done a.key.now) a.piece.now rest) ∙ drop_at (take a.done a.key.now) (a.piece.now ++ rest) a.done (length-take-le a.done a.key.now c.requires) in
    cc (s.1 rest h, f)

-- What was made and what is left, after a piece was added.
use Rattle.std.proofs.Common.{◌≡◌, ◌∙◌, ℕ, ◌+◌, ◌≤◌, List, ◌++◌, length, take, append_assoc, length-append, arith, sym, ap}
use Rattle.std.proofs.lemmas.List.{length-take-le, take-take}
use Rattle.std.proofs.lemmas.Simd.{length-put_chunk, take_more_put_chunk}
use Rattle.std.proofs.Math.Seq.{take-append-add}
use lib.Lanes.{put_chunk}
use Rattle.sonic_min.specs.declared.output.Output.{Output}
use Rattle.sonic_min.specs.Internal.Outputs.{Stores, Adds, IsMade, IsSplit}

-- two pieces are stored one after the other
pub then_stores : {a b c p q : List ℕ} (at next : ℕ) → next ≡ at + length p → Stores a at p b → Stores b next q c → Stores a at (p ++ q) c
then_stores {a} {b} {c} {p} {q} at next same x y =
    let there : at + length p ≡ next = omega (arith, same) in
    let far : at + length (p ++ q) ≡ next + length q = omega (arith, same, length-append p q) in
    record {
      len = y.len ∙ x.len;
      bytes = ap (λ n. take n c) far ∙ y.bytes ∙ ap (λ s. s ++ q) (ap (λ n. take n b) (sym there) ∙ x.bytes) ∙ append_assoc (take at a) p q;
    }

-- a piece more is made
made_on : {out now : Output} {s p : List ℕ} → IsMade out s → Adds out p now → IsMade now (s ++ p)
made_on {out} {now} {s} {p} m a = record {
  count = omega (arith, m.count, a.count, length-append s p);
  bytes = a.bytes ∙ ap (λ b. b ++ p) m.bytes;
}

-- and less is left
pub split_on : {out now : Output} {all : List ℕ} (p r : List ℕ) → IsSplit out (p ++ r) all → Adds out p now → IsSplit now r all
split_on p r s a = record {
  written = s.written ++ p;
  made = made_on s.made a;
  whole = append_assoc s.written p r ∙ s.whole;
}

-- of 32 lanes that are stored the first n are a piece
pub lanes_stored : (room lanes piece : List ℕ) (at n : ℕ) → length lanes ≡ 32 → n ≤ 32 → at + n + 32 ≤ length room → piece ≡ take n lanes → Stores room at piece (put_chunk at room lanes)
lanes_stored room lanes piece at n long few fits is =
    let size : length piece ≡ n = ap length is ∙ length-take-le n lanes (omega arith) in
    let before : length (take at room) ≡ at = length-take-le at room (omega arith) in
    let far : at + length piece ≡ length (take at room) + n = omega arith in
    let all : take (at + 32) (put_chunk at room lanes) ≡ take at room ++ lanes = take_more_put_chunk at room lanes (at + 32) (omega arith) (omega arith) in
    record {
      len = length-put_chunk at room lanes;
      bytes = sym (take-take (at + length piece) (at + 32) (put_chunk at room lanes) (omega arith)) ∙ ap (take (at + length piece)) all
          ∙ ap (λ m. take m (take at room ++ lanes)) far ∙ take-append-add (take at room) lanes n ∙ ap (λ p. take at room ++ p) (sym is);
    }

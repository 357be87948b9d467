use Rattle.std.proofs.Common.{◌≡◌, ◌∙◌, sym, ◌↔◌, ℕ, Bool, false, IsTrue, List, refl, arith}
use Rattle.std.specs.Prelude.{Option, Some, None, Result, Ok, Err, slice_get, IfSome, IfNone, IfOk, IfErr}
use Rattle.std.specs.Result.{result_ok}
use Rattle.sonic_text.specs.Strings.{IsEscapedString, IsString, strict}
use Rattle.sonic_text.specs.Paths.{key, index}
use Rattle.sonic_pointer.specs.Paths.{HasNextNode}
use Rattle.sonic_find.specs.Internal.Walk.{Container, IsChildOf}
use Rattle.std.proofs.lemmas.Result.{IfErr-weaker, err_from_is_err_and}
use Rattle.sonic_text.specs.Values.{no_head, key_head}
use Rattle.sonic_text.proofs.Values.{key-longer}
use Rattle.sonic_find.specs.Internal.View.{container_at}
use Rattle.sonic_find.proofs.walk.head.Goals as goal
use Rattle.sonic_find.proofs.walk.head.Goals.{in-Err, in_default-found}

-- of a key
key_child : {t : List ℕ} {start end : ℕ} (a : Container) (o : Option ℕ) (b : List ℕ) → IsString strict t start end b
    → IfSome o (λ i. (b : List ℕ) → IsString strict t start end b → slice_get a.children i ≡ Some (key b))
    → IfNone o ((b : List ℕ) → IsString strict t start end b → ¬ HasNextNode a.point.asked.paths a.point.prefix (key b)) → IsChildOf a o (key b)
key_child a (Some c) b s some none = some b s
key_child a None b s some none = none b s

-- of an index
index_child : (a : Container) (found : Result ℕ ℕ) (n : ℕ) → IfOk found (λ i. slice_get a.children i ≡ Some (index n))
    → IfErr found (λ next. ¬ HasNextNode a.point.asked.paths a.point.prefix (index n)) → IsChildOf a (result_ok found) (index n)
index_child a (Ok c) n is absent = is
index_child a (Err next) n is absent = absent

-- no backslash is in a key that was found to have none
plain_key : (t : List ℕ) (start end : ℕ) (escaped : Bool) → IsTrue escaped ↔ IsEscapedString t start end → escaped ≡ false → ¬ IsEscapedString t start end
plain_key t start end escaped both none h = absurd (let yes = both.1 h in cc)

pub returns-in_err-key-clause-err : goal.returns-in_err-key-clause-err
returns-in_err-key-clause-err c =
    let p = err_from_is_err_and c.from_residual.result c.from_residual.ensures.1 in
    rw (p.1, p.2) (c.in-Object.is, c.in_err-key.ensures.err)

pub returns-then-key-clause-item : goal.returns-then-key-clause-item
returns-then-key-clause-item c =
    let x = c.in_ok-key.ensures.ok in
    let some = rw (c.text.ensures, c.in_ok-key.ensures.moved, c.in_ok-key.ensures.ok.start) at c.of_key.ensures.some in
    let none = rw (c.text.ensures, c.in_ok-key.ensures.moved, c.in_ok-key.ensures.ok.start) at c.of_key.ensures.none in
    record {
      node = key x.bytes;
      head = rw c.in-Object.is record { label = Some x.bytes; head = key_head x.key; name = refl };
      is = key_child (container_at c.args.walk.now c.args.level.now) c.of_key.result x.bytes x.string some none;
    }

pub returns-then-key-clause-later : goal.returns-then-key-clause-later
returns-then-key-clause-later c = omega (arith, key-longer c.in_ok-key.ensures.ok.key)

pub of_plain_key-requires-clause-plain : goal.of_plain_key-requires-clause-plain
of_plain_key-requires-clause-plain c =
    rw (c.text-2.ensures, c.in_ok-key.ensures.moved, c.in_ok-key.ensures.ok.start)
    (plain_key _ _ _ c.in_ok-key.key.escaped c.in_ok-key.ensures.ok.escaped c.if-key.false)

pub returns-clause-item : goal.returns-clause-item
returns-clause-item c =
    let x = c.in_ok-key.ensures.ok in
    let some = rw (c.text-2.ensures, c.in_ok-key.ensures.moved, c.in_ok-key.ensures.ok.start) at c.of_plain_key.ensures.some in
    let none = rw (c.text-2.ensures, c.in_ok-key.ensures.moved, c.in_ok-key.ensures.ok.start) at c.of_plain_key.ensures.none in
    record {
      node = key x.bytes;
      head = rw c.in-Object.is record { label = Some x.bytes; head = key_head x.key; name = refl };
      is = key_child (container_at c.args.walk.now c.args.level.now) c.of_plain_key.result x.bytes x.string some none;
    }

pub returns-clause-later : goal.returns-clause-later
returns-clause-later c = omega (arith, key-longer c.in_ok-key.ensures.ok.key)

pub returns-then-passed-next_child-clause-item : goal.returns-then-passed-next_child-clause-item
returns-then-passed-next_child-clause-item c = record {
  node = index c.args.passed;
  head = rw c.in_default.is record { label = None; head = no_head refl; name = refl };
  is = c.requires.none c.args.passed (omega arith) c.if-passed-next_child.true;
}

pub returns-in_default-clause-item : goal.returns-in_default-clause-item
returns-in_default-clause-item c =
    let found = c.index_from-found.result in
    let absent = IfErr-weaker found _ _ (λ next e. e.absent) c.index_from-found.ensures.err in
    let same : c.match-found.found ≡ found = elim c.match-found.branch [ in-Err w ↦ w.found-is ∙ sym w.in-Err.is | in_default-found w ↦ w.found-is ] in
    record {
      node = index c.args.passed;
      head = rw c.in_default.is record { label = None; head = no_head refl; name = refl };
      is = rw (c.ok.ensures.value, same)
          (index_child (container_at c.args.walk.now c.args.level.now) found c.args.passed c.index_from-found.ensures.ok absent);
    }

pub returns-in_default-clause-none : goal.returns-in_default-clause-none
returns-in_default-clause-none c =
    elim c.match-found.branch [
      | in-Err w ↦ rw w.next_child-is (rw w.in-Err.is at c.index_from-found.ensures.err).none_before
      | in_default-found w ↦ rw w.next_child-is c.requires.none
    ]

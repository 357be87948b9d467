use Rattle.std.proofs.Common.{◌≡◌, ◌≢◌, ◌↔◌, ap, ℕ, List, Bool, true, false, nat_eq, arith, refl}
use Rattle.std.specs.Prelude.{IsTrue, Some, None}
use Rattle.std.proofs.lemmas.Bool.Decides.{nat_tests}
use Rattle.sonic_text.specs.Strings.{IsString, strict}
use Rattle.sonic_text.specs.Paths.{Node, key, index}
use Rattle.sonic_text.specs.Values.{IsKey, no_head, key_head}
use Rattle.sonic_text.proofs.Strings.{string_one}
use Rattle.sonic_find.specs.Paths.{kind_of, IsNamed}
use Rattle.std.proofs.lemmas.Result.{err_from_is_err_and}
use Rattle.sonic_lazy_tests.proofs.reference.is_named.Goals as goal

-- the item that is expected is named by this node, or by another, as the test says
abbrev pub IsTested : List ℕ → ℕ → ℕ → ℕ → Node → Bool → Type 0
IsTested t n h v node is_it = (item : Node) × IsNamed t (kind_of node) n h v item × (is_it ≡ true → item ≡ node) × (is_it ≡ false → item ≢ node)

-- a member's key is compared
member_tested : {t : List ℕ} {n h v i j : ℕ} {b k : List ℕ} {same : Bool} → IsString strict t i j b → IsKey strict t h v b
    → IsTrue same ↔ IsString strict t i j k → IsTested t n h v (key k) same
member_tested {t} {i = i} {j} {b} {k} {same} x y test = (
  key b,
  record { label = Some b; head = key_head y; name = refl },
  (λ e. ap key (string_one x (test.0 e)).1),
  λ e one.
      let bytes : b ≡ k = cc one in
      let z : IsString strict t i j k = rw bytes at x in
      let yes : same ≡ true = test.1 z in
      absurd (cc (yes, e)),
)

-- an element's number is
element_tested : {t : List ℕ} {h : ℕ} (m n : ℕ) → IsTested t n h h (index m) (nat_eq m n)
element_tested m n = (
  index n,
  record { label = None; head = no_head refl; name = refl },
  (λ e. let same : n ≡ m = grind (arith, nat_tests) in ap index same),
  λ e one.
      let same : n ≡ m = cc one in grind (arith, nat_tests),
)

pub returns-in_err-string-in-Key-clause-err : goal.returns-in_err-string-in-Key-clause-err
returns-in_err-string-in-Key-clause-err c =
    let p = err_from_is_err_and c.from_residual.result c.from_residual.ensures.1 in
    rw (p.1, p.2, c.in-Key.is) (refl, rw c.requires.reads at c.in_err-string-in-Key.ensures.err)

pub returns-in_ok-string-in-Key-clause-item : goal.returns-in_ok-string-in-Key-clause-item
returns-in_ok-string-in-Key-clause-item c =
    let y = c.in_ok-string-in-Key.ensures.ok in
    let test = rw (c.text.ensures, c.in_ok-string-in-Key.ensures.moved, c.offset-start.ensures.place) at c.same_key.ensures in
    rw c.in-Key.is (member_tested (rw c.requires.reads at y.string) (rw c.requires.reads at y.key) test)

pub returns-in-Index-clause-item : goal.returns-in-Index-clause-item
returns-in-Index-clause-item c = rw c.in-Index.is (element_tested c.in-Index.number c.args.passed)

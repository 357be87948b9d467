-- The values of a document (RFC 8259, sections 2 to 5): its root, and the direct parts of each.
use Rattle.std.specs.Prelude.{ℕ, ◌<◌, ◌≤◌, List, Option}
use Rattle.sonic_text.specs.declared.kind.Kind.{Kind}
use Rattle.sonic_text.specs.Strings.{strict}
use Rattle.sonic_text.specs.Values.{ItemHead, IsValue, ItemsFit}
use Rattle.sonic_find.specs.Documents.{IsAlone}

-- a direct part of a container of this kind: where its item is expected, what the key of a member denotes or nothing for an element, and where its value
-- begins and ends
pub record Part : Type 0 where
  pub kind : Kind
  pub item : ℕ
  pub label : Option (List ℕ)
  pub start : ℕ
  pub end : ℕ

-- it comes after n others of the container at i
pub record IsPartAt (t : List ℕ) (i n : ℕ) (x : Part) : Type 0 where
  pub before : ItemsFit strict t x.kind i n x.item
  pub head : ItemHead strict t x.kind x.item x.start x.label
  pub value : IsValue strict t x.start x.end

-- from i to j is a value of the document: its root, or a direct part of one (keys are none)
pub data IsNode (t : List ℕ) : ℕ → ℕ → Type 0 where
  root : {i j : ℕ} → IsAlone t i j → IsNode t i j
  part : {i j n : ℕ} {x : Part} → IsNode t i j → IsPartAt t i n x → IsNode t x.start x.end

-- of the values from i to j and from p to q the second is in a direct part of the first, or after it
pub data AreNested (t : List ℕ) (i j p q : ℕ) : Type 0 where
  inside : {n : ℕ} {x : Part} → IsPartAt t i n x → x.start ≤ p → q ≤ x.end → AreNested t i j p q
  apart : j < p → AreNested t i j p q

-- The members of an object, passed one after the other.
use Rattle.std.proofs.Common.{◌≡◌, ◌≢◌, ◌∙◌, inl, inr, ap, sym, ℕ, ◌+◌, ◌≤◌, List, [], length, get_or, arith, refl, subst}
use Rattle.std.proofs.lemmas.Bool.{cases_eq}
use Rattle.std.proofs.lemmas.Option.{slice_get_within, slice_get-get_or, same_Some}
use Rattle.std.specs.Prelude.{Some, slice_get}
use Rattle.sonic_find.proofs.GetLemmas.{past_items}
use Rattle.sonic_find.proofs.PathLemmas.Lead.{first_unnamed, named_leads, one_more_unnamed}
use Rattle.sonic_find.specs.Internal.Columns.{kept_by, HasMembers, HasMembersUpTo, IsBlank, IsColumnKey, IsInObject, IsKept, IsObjectRow, IsPast, IsSoFar}
use Rattle.sonic_find.specs.Paths.{IsNamed, goes_on, found_here}
use Rattle.sonic_find.specs.declared.outcome.PathOutcome.{PathOutcome}
use Rattle.sonic_find.specs.declared.outcome.PathOutcome.TheVariants.{Found, Missing, Fails}
use Rattle.sonic_find.specs.declared.span.Span.{Span}
use Rattle.sonic_parser.specs.Containers.{IsEnd}
use Rattle.sonic_text.proofs.Places.{space_stays, byte_within}
use Rattle.sonic_text.specs.Paths.{Node, key, index}
use Rattle.sonic_text.specs.Places.{byte, after_space}
use Rattle.sonic_text.specs.Strings.{strict}
use Rattle.sonic_text.specs.Values.{IsKey, IsValue, ItemsFit, first_item, next_item, key_head, filled}
use Rattle.sonic_text.specs.declared.kind.Kind.TheVariants.{Object}

-- before the first member nothing is known
pub members_start : {t : List ℕ} {i h : ℕ} (keys : List (List ℕ)) (row : List (PathOutcome Span)) → byte t i ≡ 123 → h ≡ after_space t (i + 1) → byte t h ≡ 34 → IsBlank row
    → HasMembers t i keys row h
members_start {t} {i} {h} keys row opens place quote blank =
    let fit : ItemsFit strict t Object i 0 h = first_item opens place (λ e. (let clash = sym quote ∙ e in absurd cc)) refl in
    record {
      n = 0;
      fit = fit;
      each = λ c k x is there. rw (blank c x there) (first_unnamed (key k) fit);
    }

-- a key with its colon
pub member_key : {t : List ℕ} {keys : List (List ℕ)} {h v long column : ℕ} (is : IsColumnKey t keys h long column) → v ≡ after_space t (h + long) → IsKey strict t h v is.label
member_key {t} {keys} {h} {v} {long} is place =
    let ends = is.ends in
    let within = byte_within t is.end (λ e. (let clash = sym is.colon ∙ e in absurd cc)) in
    let here : after_space t is.end ≡ is.end = space_stays t is.end within (rw is.colon refl) in
    record {
      end = is.end;
      string = is.string;
      colon = rw here is.colon;
      value_start = place ∙ ap (after_space t) (ends ∙ ap (λ e. e + 1) (sym here));
    }

-- which names the member
named_here : {t : List ℕ} {n h v : ℕ} {b : List ℕ} → IsKey strict t h v b → IsNamed t Object n h v (key b)
named_here {b = b} is = record { label = Some b; head = key_head is; name = refl }

-- the column of the member
past_same : (t : List ℕ) (i n h : ℕ) (k label : List ℕ) (value : Span) (x : PathOutcome Span) → IsSoFar t i n h k x → IsKey strict t h value.start label → k ≡ label
    → IsValue strict t value.start value.end → IsPast t i n h label k (kept_by value x)
past_same t i n h k label value (Found x) before is same end = before
past_same t i n h k label value (Missing q) before is same end = (named_leads before (rw same (named_here is)), end)
past_same t i n h k label value (Fails s) before is same end = before

-- another column
past_other : (t : List ℕ) (i n h : ℕ) (k label : List ℕ) (x : PathOutcome Span) → IsSoFar t i n h k x → k ≢ label → IsPast t i n h label k x
past_other t i n h k label (Found x) before other = before
past_other t i n h k label (Missing q) before other = (before, other)
past_other t i n h k label (Fails s) before other = before

-- each column
past_each : {t : List ℕ} {i h long column : ℕ} {keys : List (List ℕ)} {row now : List (PathOutcome Span)} (value : Span) (before : HasMembers t i keys row h)
    (is : IsColumnKey t keys h long column) → value.start ≡ after_space t (h + long) → IsValue strict t value.start value.end → IsKept row column value now
    → (c : ℕ) (k : List ℕ) (x : PathOutcome Span) → slice_get keys c ≡ Some k → slice_get now c ≡ Some x → IsPast t i before.n h is.label k x
past_each {t} {i} {h} {long} {column} {keys} {row} {now} value before is place end kept c k x named there =
    elim (cases_eq c column) [
      | inl e ↦
          let within = slice_get_within now c x there in
          let many = kept.long in
          let old = get_or row c x in
          let had : slice_get row c ≡ Some old = slice_get-get_or row c x (omega (arith, within, many)) in
          let same : k ≡ is.label = is.same k (subst (λ m. slice_get keys m ≡ Some k) e named) in
          let becomes : slice_get now column ≡ Some (kept_by value old) = kept.same old (subst (λ m. slice_get row m ≡ Some old) e had) in
          let now_is : kept_by value old ≡ x = same_Some (kept_by value old) x (sym becomes ∙ subst (λ m. slice_get now m ≡ Some x) e there) in
          subst (λ y. IsPast t i before.n h is.label k y) now_is (past_same t i before.n h k is.label value old (before.each c k old named had) (member_key is place) same end)
      | inr other ↦ past_other t i before.n h k is.label x (before.each c k x named (sym (kept.other c other) ∙ there)) (is.other c k named other)
    ]

-- the member is passed
pub members_past : {t : List ℕ} {i h long column : ℕ} {keys : List (List ℕ)} {row now : List (PathOutcome Span)} (value : Span) → HasMembers t i keys row h
    → IsColumnKey t keys h long column → value.start ≡ after_space t (h + long) → IsValue strict t value.start value.end → IsKept row column value now
    → HasMembersUpTo t i keys now value.end
members_past value before is place end kept = record {
  n = before.n;
  h = _;
  v = value.start;
  label = is.label;
  fit = before.fit;
  at = member_key is place;
  value = end;
  each = past_each value before is place end kept;
}

-- equal nodes are equal keys
bytes : Node → List ℕ
bytes (key a) = a
bytes (index n) = []

same_key : {a b : List ℕ} → key a ≡ key b → b ≡ a
unfolding bytes
same_key e = sym (ap bytes e)

-- a column goes on with it
goes : (t : List ℕ) (i n h v next : ℕ) (label k : List ℕ) (x : PathOutcome Span) → IsKey strict t h v label → ItemsFit strict t Object i (n + 1) next
    → IsPast t i n h label k x → IsSoFar t i (n + 1) next k x
goes t i n h v next label k (Found y) at fit past = past
goes t i n h v next label k (Missing q) at fit past = one_more_unnamed past.0 (named_here at) (λ e. past.1 (same_key e)) fit refl
goes t i n h v next label k (Fails s) at fit past = past

-- a comma comes behind it: another member is expected
pub members_more : {t : List ℕ} {i e next : ℕ} {keys : List (List ℕ)} {row : List (PathOutcome Span)} → HasMembersUpTo t i keys row e
    → byte t (after_space t e) ≡ 44 → next ≡ after_space t (after_space t e + 1) → HasMembers t i keys row next
members_more {t} {i} {e} {next} past comma behind =
    let fit : ItemsFit strict t Object i (past.n + 1) next = next_item past.fit (key_head past.at) past.value comma behind refl in
    record { n = past.n + 1; fit = fit; each = λ c k x named there. goes t i past.n past.h past.v next past.label k x past.at fit (past.each c k x named there) }

-- a column ends with it
ends : (t : List ℕ) (i n h v e j : ℕ) (label k : List ℕ) (x : PathOutcome Span) → IsKey strict t h v label → IsValue strict t v e → IsEnd t Object e j
    → IsPast t i n h label k x → IsInObject t i j k x
ends t i n h v e j label k (Found y) at value end past = goes_on past.0 (found_here past.1)
ends t i n h v e j label k (Missing q) at value end past =
    past_items past.0 (record { name = _; item = named_here at; same = λ is. absurd cc; other = λ is e. past.1 (same_key e) }) value end []
ends t i n h v e j label k (Fails s) at value end past = past

-- the closing brace comes behind it
pub members_end : {t : List ℕ} {i e j : ℕ} {keys : List (List ℕ)} {row : List (PathOutcome Span)} → HasMembersUpTo t i keys row e → IsEnd t Object e j → j ≤ length t
    → IsObjectRow t i keys row j
members_end {t} {i} {e} {j} past end within = record {
  value = filled past.fit (key_head past.at) past.value end.0 end.1;
  within = within;
  each = λ c k x named there. ends t i past.n past.h past.v e j past.label k x past.at past.value end (past.each c k x named there);
}

-- An input has one report by `list`, and what is listed of it makes that.
use Rattle.std.proofs.Common.{◌≡◌, ◌∙◌, sym, ap, inl, inr, refl, ℕ, ◌+◌, List, [], ◌∷◌, ◌++◌, true, false, append_assoc, append-nil}
use Rattle.std.proofs.lemmas.Grind.{flat_map-append}
use Rattle.std.specs.List.{flat_map}
use Rattle.std.specs.Prelude.{Option, Some, None}
use Rattle.std.specs.Borrow.{Bor}
use Rattle.std.specs.declared.borrow.CowStr.{CowStr}
use Rattle.sonic_error.specs.declared.error.Error.{Error}
use Rattle.sonic_lazy.proofs.ListingLemmas.{listing_one}
use Rattle.sonic_lazy.specs.Items.{Item, closed, stopped, Listing, IsItemAt, no_items, one_more_item, EndsItems, IsListing}
use Rattle.sonic_lazy.specs.Iterators.{IteratorState, iterator_over, ShowsElement, ShowsMember, IsNextError, out_of_memory as no_memory, no_next_item, IsOver}
use Rattle.sonic_lazy.specs.LazyValues.{raw_bytes}
use Rattle.sonic_lazy.specs.declared.lazyvalue.LazyValue.{LazyValue}
use Rattle.sonic_text.specs.Values.{ItemHead, no_head}
use Rattle.sonic_text.specs.declared.kind.Kind.{Kind}
use Rattle.sonic_text.specs.declared.kind.Kind.TheVariants.{Array, Object}
use Rattle.sonic_text.specs.Strings.{strict}
use Rattle.sonic_reports.proofs.GetLemmas.{Same, SomeText}
use Rattle.sonic_reports.proofs.ReplyLemmas.{line_at}
use Rattle.sonic_reports.specs.Commands.Items.{listed_kind, line_of_item, line_of_ending, status_of_ending, IsListReport}
use Rattle.sonic_reports.specs.Internal.Listed.{IsLastError, out_of_memory, last_stop, EndsBy, AreLinesOf, AreListed}
use Rattle.sonic_reports.specs.Internal.Replies.{line_of_shown, line_of_member, text_of_lines, IsLineOf}
use Rattle.sonic_reports.specs.declared.commands.list.Listed.{Listed}
use Rattle.sonic_reports.specs.declared.status.Status.{Status}
use Rattle.sonic_reports.specs.declared.status.Status.TheVariants.{Done, DocumentError}

-- an input has one report by `list`
pub list_report_one : {input text other : List ℕ} {status ending : Status} → IsListReport input text status → IsListReport input other ending
    → Same text status other ending
list_report_one {input} r s =
    let same : s.listing ≡ r.listing = (listing_one input true (listed_kind input)).one s.listing r.listing s.is r.is in (
      s.lines ∙ ap (λ (l : Listing). flat_map (line_of_item input) l.items ++ line_of_ending input l.ending) same ∙ sym r.lines,
      s.ending ∙ ap (λ (l : Listing). status_of_ending l.ending) same ∙ sym r.ending,
    )

-- and has some
pub list_report_some : (input : List ℕ) → SomeText (IsListReport input)
list_report_some input =
    let one = (listing_one input true (listed_kind input)).some in
    (_, _, record { listing = one.0; is = one.1; lines = refl; ending = refl })

-- no items have no lines
pub no_lines : {t : List ℕ} {kind : Kind} → AreLinesOf t kind 0 []
no_lines = record { items = []; are = no_items refl refl; lines = refl }

-- one more line
texts_more : {X : Type 0} (text : X → List ℕ) (xs : List X) (x : X) → flat_map text (xs ++ x ∷ []) ≡ flat_map text xs ++ text x
texts_more text xs x = flat_map-append text xs (x ∷ []) ∙ ap (λ rest. flat_map text xs ++ rest) (append-nil (text x))

-- of one more item
lines_more : {X : Type 0} (text : X → List ℕ) {t : List ℕ} {kind : Kind} {n : ℕ} (xs : List X) (x : X) (item : Item) → AreLinesOf t kind n (flat_map text xs)
    → IsItemAt t kind n item → text x ≡ line_of_item t item → AreLinesOf t kind (n + 1) (flat_map text (xs ++ x ∷ []))
lines_more text {t} xs x item lines is same = record {
  items = lines.items ++ item ∷ [];
  are = one_more_item lines.are is refl refl;
  lines = texts_more text xs x ∙ ap (λ l. l ++ text x) lines.lines ∙ ap (λ l. flat_map (line_of_item t) lines.items ++ l) same
      ∙ sym (texts_more (line_of_item t) lines.items item);
}

-- an element has no label
no_label : {t : List ℕ} {h v : ℕ} {label : Option (List ℕ)} → ItemHead strict t Array h v label → label ≡ None
no_label (no_head e) = refl

-- its line is that of its text
pub element_more : {t : List ℕ} {n : ℕ} (texts : List (Bor (List ℕ))) (text : Bor (List ℕ)) {value : LazyValue} → AreLinesOf t Array n (flat_map line_of_shown texts)
    → ShowsElement t n value → text.now ≡ raw_bytes value → AreLinesOf t Array (n + 1) (flat_map line_of_shown (texts ++ text ∷ []))
element_more {t} texts text lines x same =
    let label = no_label x.is.head in
    lines_more line_of_shown texts text x.item lines x.is (rw (same, x.shown, label) refl)

-- and the line of a member that of its key and its text
pub member_more : {Z : Type 0} {t : List ℕ} {n : ℕ} (members : List (CowStr Z × Bor (List ℕ))) (text : Bor (List ℕ)) {member : CowStr Z × LazyValue}
    → AreLinesOf t Object n (flat_map line_of_member members) → ShowsMember {Z = Z} t n member → text.now ≡ raw_bytes member.1
    → AreLinesOf t Object (n + 1) (flat_map line_of_member (members ++ (member.0, text) ∷ []))
member_more {Z} {t} members text {member} lines x same =
    lines_more line_of_member members (member.0, text) x.item lines x.is (rw (same, x.shown, x.key, append_assoc) refl)

-- an iterator that has given so many items
abbrev Gave : IteratorState → List ℕ → Kind → ℕ → Type 0
Gave it t kind n = it ≡ record (iterator_over kind t true true) { given = n }

-- its error is where the items stop
pub last_error : {it : IteratorState} {t : List ℕ} {kind : Kind} {e : Error} → Gave it t kind it.given → IsNextError it e → IsLastError t kind it.given e
last_error g (no_memory plain takes) = out_of_memory plain
last_error {it} {t} {kind} g (no_next_item {s} ends at) =
    let end : EndsItems t true kind it.given (stopped s) = rw g at ends in
    last_stop s end (rw g at at)

-- and where it is over the container is closed
pub over_closed : {it now : IteratorState} {t : List ℕ} {kind : Kind} → Gave it t kind it.given → IsOver it now → EndsItems t true kind it.given closed
over_closed {it} {t} {kind} g over = elim over.reason [
  | inl ended ↦ (let going : it.ended ≡ false = rw g refl in absurd cc)
  | inr ends ↦ rw g at ends
]

-- what was listed with no error is the report
pub listed_done : {t text : List ℕ} {listed : Listed} {status : Status} → AreListed t (listed_kind t) listed → listed.error ≡ None
    → text ≡ text_of_lines listed.lines ++ [] → status ≡ Done → IsListReport t text status
listed_done {t} x e text s =
    let ending : EndsBy t (listed_kind t) x.count None = rw e at x.ending in
    let lines = x.lines in
    record {
      listing = record { items = lines.items; ending = closed };
      is = record { count = x.count; items = lines.are; ending = ending };
      lines = text ∙ ap (λ l. l ++ []) lines.lines;
      ending = s;
    }

-- with an error its line is the last
last_line : {t text line : List ℕ} {kind : Kind} {listed : Listed} {error : Error} {status : Status} → kind ≡ listed_kind t → (x : AreListed t kind listed)
    → IsLastError t kind x.count error → IsLineOf line error → text ≡ text_of_lines listed.lines ++ line → status ≡ DocumentError → IsListReport t text status
last_line k x (out_of_memory plain) line text s = absurd (line.memory plain.code)
last_line {t} {line = bytes} {kind} k x (last_stop stop ends at) line text s =
    let lines = x.lines in
    let is : IsListing t true kind (record { items = lines.items; ending = stopped stop }) = record { count = x.count; items = lines.are; ending = ends } in
    let last : bytes ≡ line_of_ending t (stopped stop) = line_at at line in
    record {
      listing = record { items = lines.items; ending = stopped stop };
      is = rw k at is;
      lines = text ∙ ap (λ l. l ++ bytes) lines.lines ∙ ap (λ l. flat_map (line_of_item t) lines.items ++ l) last;
      ending = s;
    }

-- where there is one
pub listed_error : {t text line : List ℕ} {listed : Listed} {error : Error} {status : Status} → AreListed t (listed_kind t) listed → listed.error ≡ Some error
    → IsLineOf line error → text ≡ text_of_lines listed.lines ++ line → status ≡ DocumentError → IsListReport t text status
listed_error {t} {error = error} x e line text s =
    let ending : EndsBy t (listed_kind t) x.count (Some error) = rw e at x.ending in
    last_line refl x ending line text s

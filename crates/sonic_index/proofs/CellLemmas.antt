-- What the cells say of the entries that they keep.
use Rattle.std.proofs.Common.{◌≡◌, ◌≢◌, ◌∙◌, ◌==◌, inl, inr, ℕ, zero, suc, ◌+◌, ◌-◌, ◌<◌, ◌≤◌, List, false, length, get_or, arith, refl, sym, ap, subst}
use Rattle.std.proofs.lemmas.Bool.{cases_order}
use Rattle.std.proofs.lemmas.Bool.Decides.{Decides-eqb, eqb_tells}
use Rattle.std.proofs.lemmas.List.{length-map}
use Rattle.std.proofs.lemmas.Option.{get_or_from_slice_get, slice_get-map, slice_get_within}
use Rattle.std.specs.Prelude.{Option, None, Some, option_map, slice_get}
use Rattle.sonic_text.specs.declared.kind.Kind.{Kind}
use Rattle.sonic_text.specs.declared.kind.Kind.TheVariants.{Array, Object}
use Rattle.sonic_text.specs.Places.{byte, after_space}
use Rattle.sonic_text.specs.Strings.{escaped, strict, IsEscape, IsString}
use Rattle.sonic_text.specs.Strings.IsChar.{short_escape, unescaped, unicode_escape}
use Rattle.sonic_text.specs.Strings.IsUnicodeChar.{lone_high, lone_low, pair, scalar}
use Rattle.sonic_error.specs.declared.json_type.JsonType.{JsonType}
use Rattle.sonic_text.specs.Values.{opening, type_at}
use Rattle.sonic_text.proofs.Places.{byte_within}
use Rattle.sonic_text.proofs.Strings.{chain_later, chain_of, Chain, done as no_char, more as one_char}
use Rattle.sonic_text.proofs.Values.{items_open}
use Rattle.sonic_index.specs.declared.cell.Cell.{Cell}
use Rattle.sonic_index.specs.declared.entry.Entry.{Entry}
use Rattle.sonic_index.specs.declared.entry.Label.{Label}
use Rattle.sonic_index.specs.declared.entry.Label.TheVariants.{Root, Key, At}
use Rattle.sonic_index.specs.Entries.{IsLabelled, IsEntry, of_root, of_part, AreEntries}
use Rattle.sonic_index.specs.Internal.Cells.{char_length, end_of_string, quote_after, label_of, entry_of, entries_of}
use Rattle.sonic_index.proofs.EntryLemmas.{before_it, node_of, read_element}
use Rattle.sonic_index.proofs.NodeLemmas.{node_later}

-- numbers that differ are not equal
eq_no : (a b : ℕ) → a ≢ b → (a == b) ≡ false
eq_no a b n = elim (eqb_tells a b) [ inl (e, same) ↦ absurd (n same) | inr (e, other) ↦ e ]

-- a char is passed on the way to the quote
char_passed : (t : List ℕ) (p q n : ℕ) → 0 < n → byte t p ≢ 34 → p + char_length t p ≡ q → quote_after t n p ≡ quote_after t (n - 1) q
char_passed t p q zero some other e = absurd (omega arith)
char_passed t p q (suc n) some other e = let back : suc n - 1 ≡ n = omega arith in rw (eq_no (byte t p) 34 other, e, back) refl

-- of an escape by its number
escape_passed : (t : List ℕ) (p n : ℕ) {m : ℕ} → 0 < n → IsEscape t p m → quote_after t n p ≡ quote_after t (n - 1) (p + 6)
escape_passed t p n some (b, u, h) =
    char_passed t p (p + 6) n some (λ e. omega (arith, b, e)) (rw ((Decides-eqb (byte t p) 92).1 b, (Decides-eqb (byte t (p + 1)) 117).1 u) refl)

-- no other escape has a u
no_u : (b c : ℕ) → escaped b ≡ Some c → b ≢ 117
unfolding escaped
no_u b c e u = absurd (let none : None ≡ Some c = rw u at e in cc)

-- so chars are, up to it
chars_passed : {t : List ℕ} {p q : ℕ} {b : List ℕ} (n : ℕ) → Chain strict t p q b → byte t q ≡ 34 → q ≤ p + n → quote_after t n p ≡ q
chars_passed {t} {p} {q} zero (no_char e f) quote l = sym e
chars_passed {t} {p} {q} (suc n) (no_char e f) quote l =
    let here : byte t p ≡ 34 = rw e at quote in
    rw ((Decides-eqb (byte t p) 34).1 here) (sym e)
chars_passed {t} {p} n (one_char (unescaped h e f) g d) quote l =
    let later = chain_later g in
    char_passed t p _ n (omega arith) h.1 (rw (eq_no (byte t p) 92 h.2) (sym e)) ∙ chars_passed (n - 1) g quote (omega arith)
chars_passed {t} {p} n (one_char (short_escape {c} h k e f) g d) quote l =
    let later = chain_later g in
    let other = no_u (byte t (p + 1)) c k in
    char_passed t p _ n (omega arith) (λ o. omega (arith, h, o)) (rw ((Decides-eqb (byte t p) 92).1 h, eq_no (byte t (p + 1)) 117 other) (sym e))
    ∙ chars_passed (n - 1) g quote (omega arith)
chars_passed {t} {p} n (one_char (unicode_escape h (scalar _ _ e f)) g d) quote l =
    let later = chain_later g in
    escape_passed t p n (omega arith) h ∙ rw (← e) (chars_passed (n - 1) g quote (omega arith))
chars_passed {t} {p} n (one_char (unicode_escape h (pair _ low _ e f)) g d) quote l =
    let later = chain_later g in
    let second : p + 6 + 6 ≡ p + 12 = omega arith in
    escape_passed t p n (omega arith) h ∙ escape_passed t (p + 6) (n - 1) (omega arith) low ∙ rw (second, ← e) (chars_passed (n - 1 - 1) g quote (omega arith))
chars_passed n (one_char (unicode_escape h (lone_high m _ _ e f)) g d) quote l = absurd cc
chars_passed n (one_char (unicode_escape h (lone_low m _ e f)) g d) quote l = absurd cc

pub string_end_is : {t : List ℕ} {k e : ℕ} {b : List ℕ} → IsString strict t k e b → end_of_string t k ≡ e
unfolding end_of_string
string_end_is {t} {k} s =
    let within = byte_within t s.close (λ z. omega (arith, z, s.closes)) in
    ap (λ o. o + 1) (chars_passed (length t) (chain_of s.chars) s.closes (omega (arith, within))) ∙ sym s.end

-- the three labels
pub label_root : (t : List ℕ) (parent cell : Cell) → parent.start ≡ cell.start → label_of t parent cell ≡ Root
label_root t parent cell e = rw ((Decides-eqb parent.start cell.start).1 e) refl

pub label_element : (t : List ℕ) (parent cell : Cell) → parent.start ≢ cell.start → byte t parent.start ≢ 123 → label_of t parent cell ≡ At cell.label
label_element t parent cell n o = rw (eq_no parent.start cell.start n, eq_no (byte t parent.start) 123 o) refl

pub label_member : (t : List ℕ) (parent cell : Cell) → parent.start ≢ cell.start → byte t parent.start ≡ 123 → label_of t parent cell ≡ Key cell.label (end_of_string t cell.label)
label_member t parent cell n o = rw (eq_no parent.start cell.start n, (Decides-eqb (byte t parent.start) 123).1 o) refl

-- the root has the number 0
pub root_number : {t : List ℕ} {es : List Entry} → AreEntries t es → (i : ℕ) (x : Entry) → slice_get es i ≡ Some x → after_space t 0 ≡ x.start → i ≡ 0
root_number {es = es} are i x e s = elim (cases_order i 0) [
  | inl same ↦ same
  | inr (inl less) ↦ absurd (omega arith)
  | inr (inr more) ↦ absurd (
      let y = before_it es 0 i x more e in
      let l = are.rising 0 i y.0 x more y.1 e in
      let o = node_later (node_of are y.0 (read_element es 0 y.1)) in
      omega arith)
]

-- the entry of a cell is read where the cell is
pub read_entry : (t : List ℕ) (cells : List Cell) (i : ℕ) {cell : Cell} → slice_get cells i ≡ Some cell → slice_get (entries_of t cells) i ≡ Some (entry_of t cells cell)
read_entry t cells i e = slice_get-map (entry_of t cells) cells i ∙ ap (option_map (entry_of t cells)) e

-- the parent of a cell is one of the cells, and a member's label is where its key begins
pub record IsCellOf (t : List ℕ) (cells : List Cell) (cell : Cell) : Type 0 where
  pub parent : cell.parent < length cells
  pub key : (p : Cell) → slice_get cells cell.parent ≡ Some p → p.start ≢ cell.start → byte t p.start ≡ 123 → (e : ℕ) × (b : List ℕ) × IsString strict t cell.label e b

key_at : {t : List ℕ} {k e : ℕ} {label : Label} (n h : ℕ) (kind : Kind) → opening kind ≡ 123 → IsLabelled t kind n h label → label ≡ Key k e → (e : ℕ) × (b : List ℕ) × IsString strict t k e b
key_at n h Array o l k = absurd (omega (arith, o))
key_at {t} {k} n h Object o (e, b, s, x) y =
    let same : h ≡ k = cc in
    let there : IsString strict t k e b = rw same at s in
    (e, b, there)

cell_case : (t : List ℕ) (cells : List Cell) (i : ℕ) (cell : Cell) → AreEntries t (entries_of t cells) → slice_get cells i ≡ Some cell
    → IsEntry t (entries_of t cells) (entry_of t cells cell) → IsCellOf t cells cell
cell_case t cells i cell are e (of_root alone p label kind) =
    let within = slice_get_within cells i cell e in
    record {
      parent = omega (arith, p);
      key = λ q f different opens.
          let zero = root_number are i (entry_of t cells cell) (read_entry t cells i e) alone.start in
          let here = subst (λ k. slice_get cells k ≡ Some cell) (zero ∙ sym p) e in
          let same : q ≡ cell = cc in
          absurd (different (ap (λ (c : Cell). c.start) same));
    }
cell_case t cells i cell are e (of_part {n} {part} p f y is) = record {
  parent = let l = slice_get_within (entries_of t cells) cell.parent p f in omega (arith, length-map cells (entry_of t cells));
  key = λ q g different opens.
      let there = read_entry t cells cell.parent g in
      let same : p ≡ entry_of t cells q = cc in
      let bracket : byte t q.start ≡ opening part.kind = rw (ap (λ (x : Entry). x.start) same) at (items_open y.before) in
      let parent : get_or cells cell.parent cell ≡ q = get_or_from_slice_get cells cell.parent q cell g in
      key_at {e = end_of_string t cell.label} n part.item part.kind (sym bracket ∙ opens) is.label (rw parent (label_member t q cell different opens));
}

pub cell_right : (t : List ℕ) (cells : List Cell) (i : ℕ) (cell : Cell) → AreEntries t (entries_of t cells) → slice_get cells i ≡ Some cell → IsCellOf t cells cell
cell_right t cells i cell are e = cell_case t cells i cell are e (are.sound (entry_of t cells cell) (read_element (entries_of t cells) i (read_entry t cells i e)))

-- what is read of a cell and its parent is the entry with its number
pub entry_read : (t : List ℕ) (cells : List Cell) (i : ℕ) (cell parent : Cell) {kind : JsonType} {label : Label} → slice_get cells i ≡ Some cell
    → slice_get cells cell.parent ≡ Some parent → kind ≡ type_at t cell.start → label ≡ label_of t parent cell
    → ◌≡◌ {A = Option Entry} (Some (record { start = cell.start; end = cell.end; parent = cell.parent; kind = kind; label = label })) (slice_get (entries_of t cells) i)
entry_read t cells i cell parent e f k l =
    let same : get_or cells cell.parent cell ≡ parent = get_or_from_slice_get cells cell.parent parent cell f in
    let labels : label_of t parent cell ≡ label_of t (get_or cells cell.parent cell) cell = ap (λ p. label_of t p cell) (sym same) in
    rw (k, l ∙ labels) (sym (read_entry t cells i e))

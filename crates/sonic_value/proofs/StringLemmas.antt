-- What a string of a text is read as.
use Rattle.std.proofs.Common.{◌≡◌, ◌∙◌, ap, refl, ℕ, ◌↔◌, List, true}
use Rattle.std.specs.Prelude.{IsTrue, Some}
use Rattle.sonic_parser.specs.ValueSpans.{IsStringSpan}
use Rattle.sonic_parser.specs.declared.value_span.ValueSpan.{ValueSpan}
use Rattle.sonic_text.proofs.Strings.{string_one}
use Rattle.sonic_text.specs.Places.{byte}
use Rattle.sonic_text.specs.Strings.{strict, IsString, IsEscapedString}
use Rattle.sonic_text.specs.Trees.{text}
use Rattle.sonic_text.specs.Trees.Means.{means_string}
use Rattle.sonic_text.specs.Values.{key_head, IsKey, IsValue}
use Rattle.sonic_text.specs.declared.kind.Kind.TheVariants.{Object}
use Rattle.sonic_value.proofs.ScalarLemmas.{string_there}
use Rattle.sonic_value.specs.Internal.Keeping.{kept_text}
use Rattle.sonic_value.specs.Internal.Readers.{Source, BeginsNoContainer, IsScalarSpan, IsKeptText, IsKept, IsHeadRead}

-- what it denotes is kept of a text in UTF-8
pub text_kept : {s : Source} {i j : ℕ} {b : List ℕ} → s.is_utf8 ≡ true → IsString strict s.text i j b → IsKeptText s i j b
text_kept {b = b} known denoted = record { bytes = b; string = denoted; is = rw known refl }

-- a string means what it denotes
pub string_kept : {s : Source} {i j : ℕ} {c : List ℕ} → IsKeptText s i j c → IsKept s i j (text c)
string_kept k = record { meant = text k.bytes; means = means_string k.string; is = ap text k.is }

-- and a key that was passed is read as it
pub key_read : {s : Source} {h v e : ℕ} {b c : List ℕ} → IsString strict s.text h e b → IsKey strict s.text h v b → IsKeptText s h e c
    → IsHeadRead s Object h v (Some c)
key_read {s} {b = b} denoted key k = record {
  label = Some b;
  head = key_head key;
  is = ap Some (k.is ∙ ap (kept_text s.is_utf8) (string_one k.string denoted).1);
}

-- a value that begins with a quote is a string
pub scalar_string : {t : List ℕ} {x : ValueSpan} → IsScalarSpan t x → byte t x.start ≡ 34 → IsStringSpan t x
scalar_string x b = let s = string_there x.value b in record { bytes = s.0; is = s.1; escaped = x.escaped }

-- what was passed is one, where no container begins
pub scalar_span : {t : List ℕ} {i j : ℕ} {x : ValueSpan} → x.start ≡ i → x.end ≡ j → IsValue strict t i j → BeginsNoContainer t i
    → IsTrue x.escaped ↔ IsEscapedString t i j → IsScalarSpan t x
scalar_span start end value begins escaped = record { value = rw (start, end) value; begins = rw start begins; escaped = rw (start, end) escaped }

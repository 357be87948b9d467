-- A value of a strict reader is one for either reader, and ends at the same place.
use Rattle.std.proofs.Common.{◌≡◌, ℕ, List}
use Rattle.std.specs.Prelude.{Bool, Option}
use Rattle.sonic_text.proofs.Values.{value_end_one}
use Rattle.sonic_text.specs.Strings.{strict, IsChar, AreChars, IsString}
use Rattle.sonic_text.specs.Strings.AreChars.{no_char, one_more}
use Rattle.sonic_text.specs.Strings.IsChar.{unescaped, short_escape, unicode_escape}
use Rattle.sonic_text.specs.Strings.IsUnicodeChar.{scalar, pair, lone_high, lone_low}
use Rattle.sonic_text.specs.Values.{ItemHead, no_head, key_head, IsValue, ItemsFit, first_item, next_item}
use Rattle.sonic_text.specs.Values.IsValue.{null_literal, true_literal, false_literal, number, string, empty, filled}
use Rattle.sonic_text.specs.declared.kind.Kind.{Kind}

module _ (m : Bool) where
  char_any : {t : List ℕ} {p q : ℕ} {b : List ℕ} → IsChar strict t p q b → IsChar m t p q b
  char_any (unescaped u e d) = unescaped u e d
  char_any (short_escape e s q d) = short_escape e s q d
  char_any (unicode_escape e (scalar h l q d)) = unicode_escape e (scalar h l q d)
  char_any (unicode_escape e (pair h f l q d)) = unicode_escape e (pair h f l q d)
  char_any (unicode_escape e (lone_high z h n q d)) = absurd cc
  char_any (unicode_escape e (lone_low z l q d)) = absurd cc

  chars_any : {t : List ℕ} {i k : ℕ} {b : List ℕ} → AreChars strict t i k b → AreChars m t i k b
  chars_any (no_char e d) = no_char e d
  chars_any (one_more x c e) = one_more (chars_any x) (char_any c) e

  string_any : {t : List ℕ} {i j : ℕ} {b : List ℕ} → IsString strict t i j b → IsString m t i j b
  string_any s = record { close = s.close; opens = s.opens; chars = chars_any s.chars; closes = s.closes; end = s.end }

  head_any : {t : List ℕ} {kind : Kind} {h v : ℕ} {l : Option (List ℕ)} → ItemHead strict t kind h v l → ItemHead m t kind h v l
  head_any (no_head e) = no_head e
  head_any (key_head y) = key_head (record { end = y.end; string = string_any y.string; colon = y.colon; value_start = y.value_start })

  mutual
    pub value_any : {t : List ℕ} {i j : ℕ} → IsValue strict t i j → IsValue m t i j
    value_any (null_literal h) = null_literal h
    value_any (true_literal h) = true_literal h
    value_any (false_literal h) = false_literal h
    value_any (number h) = number h
    value_any (string h) = string (string_any h)
    value_any (empty kind b c q) = empty kind b c q
    value_any (filled is y x c q) = filled (items_any is) (head_any y) (value_any x) c q

    items_any : {t : List ℕ} {kind : Kind} {i n h : ℕ} → ItemsFit strict t kind i n h → ItemsFit m t kind i n h
    items_any (first_item b e d z) = first_item b e d z
    items_any (next_item is y x c q z) = next_item (items_any is) (head_any y) (value_any x) c q z

  -- the end is the same
  pub end_any : {t : List ℕ} {i j k : ℕ} → IsValue strict t i j → IsValue m t i k → j ≡ k
  end_any x y = value_end_one (value_any x) y

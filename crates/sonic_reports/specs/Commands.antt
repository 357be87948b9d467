-- The commands, and the words of a command line that ask for them.
pub mod Edits
pub mod Entries
pub mod Fast
pub mod Fills
pub mod Generated
pub mod Get
pub mod Items
pub mod Patches
pub mod Rows
pub mod Texts
use Rattle.std.specs.Prelude.{◌≡◌, ◌≢◌, List, [], ◌∷◌, ℕ, ◌≤◌, codes}
use Rattle.std.specs.Fmt.{decimal}
use Rattle.sonic_pointer.specs.declared.rule.KeyRule.{KeyRule}
use Rattle.sonic_pointer.specs.declared.rule.KeyRule.TheVariants.{First, Last, Refuse}
use Rattle.sonic_reports.specs.declared.commands.Command.{Command}
use Rattle.sonic_reports.specs.declared.commands.Command.TheVariants as command

-- the word that names a rule for equal keys
abbrev pub rule_word : KeyRule → List ℕ
rule_word First = codes "first"
rule_word Last = codes "last"
rule_word Refuse = codes "refuse"

-- the most objects that `gen` makes
abbrev pub most_objects : ℕ
most_objects = 1000000

-- the most blanks for a level of depth that `indent` writes
abbrev pub most_blanks : ℕ
most_blanks = 8

-- the words ask for this command: no word asks for `get` by first equal keys, as the one word `get` does
pub data Asks (words : List (List ℕ)) : Command → Type 0 where
  no_word : words ≡ [] → Asks words (command.Get First)
  get_word : words ≡ codes "get" ∷ [] → Asks words (command.Get First)
  keys_words : {r : KeyRule} → words ≡ codes "get" ∷ codes "--keys" ∷ rule_word r ∷ [] → Asks words (command.Get r)
  list_word : words ≡ codes "list" ∷ [] → Asks words command.List
  edit_word : words ≡ codes "edit" ∷ [] → Asks words command.Edit
  fill_word : words ≡ codes "fill" ∷ [] → Asks words command.Fill
  fast_word : words ≡ codes "fast" ∷ [] → Asks words command.Fast
  indent_words : {n : ℕ} → words ≡ codes "indent" ∷ decimal n ∷ [] → n ≤ most_blanks → Asks words (command.Indent n)
  index_word : words ≡ codes "index" ∷ [] → Asks words command.Index
  lines_word : words ≡ codes "lines" ∷ [] → Asks words command.Lines
  min_word : words ≡ codes "min" ∷ [] → Asks words command.Min
  patch_word : words ≡ codes "patch" ∷ [] → Asks words command.Patch
  gen_words : {n : ℕ} → words ≡ codes "gen" ∷ decimal n ∷ [] → 1 ≤ n → n ≤ most_objects → Asks words (command.Gen n)

-- the words ask for some command
abbrev pub IsListed : List (List ℕ) → Type 0
IsListed words = (asked : Command) × Asks words asked

-- the command reads the source: each does but `gen`
abbrev pub Reads : Command → Type 0
Reads asked = (n : ℕ) → asked ≢ command.Gen n

-- the words ask for a command that reads the source
abbrev pub IsReading : List (List ℕ) → Type 0
IsReading words = (asked : Command) × Asks words asked × Reads asked

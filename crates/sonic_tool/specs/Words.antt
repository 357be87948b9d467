-- The words of a command line.
use Rattle.std.specs.Prelude.{◌≡◌, ℕ, List, [], ◌∷◌, drop, map, string_bytes, Result, Ok, IsErrAnd}
use Rattle.std.specs.IoError.{error_kind}
use Rattle.std.specs.Vec.Iter.{into_iter_items}
use Rattle.std.specs.declared.alloc.Global.{Global}
use Rattle.std.specs.declared.io.Error.{Error}
use Rattle.std.specs.declared.io.ErrorKind.TheVariants.{InvalidData}
use Rattle.std.specs.declared.string.String.{String}
use Rattle.std.specs.declared.vec.IntoIter.{IntoIter}

-- the arguments that the system gives, or why it gives none
abbrev pub Arguments : Type 0
Arguments = Result (IntoIter (String Global) Global) Error

-- some argument is no text
abbrev pub HasBrokenWord : Arguments → Type 0
HasBrokenWord arguments = IsErrAnd arguments (λ error. error_kind error ≡ InvalidData)

-- by the arguments that the system gives: all but the first, which is the program's name; where one is no text, one empty word, which is no command
pub data IsWords : Arguments → List (List ℕ) → Type 0 where
  texts : {arguments : IntoIter (String Global) Global} {words : List (List ℕ)} → words ≡ map string_bytes (drop 1 (into_iter_items arguments)) → IsWords (Ok arguments) words
  no_text : {arguments : Arguments} {words : List (List ℕ)} → HasBrokenWord arguments → words ≡ [] ∷ [] → IsWords arguments words

-- What the calls that judge a pointer answer.
use Rattle.std.specs.Prelude.{◌≡◌, ◌<◌, ℕ, List, [], ◌∷◌, length}
use Rattle.sonic_patch.specs.Internal.Pieces.{IsTokenText, IsReadBy, IsTokenEscape}
use Rattle.sonic_patch.specs.Pointers.{pieces, SaysToken, SaysTokens, SaysFewTokens}
use Rattle.sonic_patch.specs.declared.pointer.Beginning.{Beginning}
use Rattle.sonic_patch.specs.declared.pointer.Beginning.TheVariants.{Plain, Escape, Bad}
use Rattle.sonic_patch.specs.declared.pointer.Piece.{Piece}
use Rattle.sonic_patch.specs.declared.pointer.Piece.TheVariants.{Last, Before}
use Rattle.sonic_patch.specs.declared.pointer.Fit.{Fit}
use Rattle.sonic_patch.specs.declared.pointer.Fit.TheVariants.{Fits, TooLong, Bad as IsBad}

-- how the rest of a piece begins
abbrev pub IsBeginning : List ℕ → Beginning → Type 0
IsBeginning rest Plain = SaysToken rest rest
IsBeginning rest (Escape plain c more) = IsTokenEscape rest plain.now c more.now
IsBeginning rest Bad = ¬ IsTokenText rest

-- the piece that a text begins with
abbrev pub IsFirstPiece : List ℕ → Piece → Type 0
IsFirstPiece rest Last = pieces rest ≡ rest ∷ []
IsFirstPiece rest (Before piece behind) = (pieces rest ≡ piece.now ∷ pieces behind.now) × (length behind.now < length rest)

-- what is judged fits, where it is few; or it is too long, where it is one but not few; or it isn't one
abbrev pub IsJudged : Type 0 → Type 0 → Fit → Type 0
IsJudged few is_one Fits = few
IsJudged few is_one TooLong = is_one × ¬ few
IsJudged few is_one IsBad = ¬ is_one

-- what a text is as a pointer
abbrev pub IsFit : List ℕ → Fit → Type 0
IsFit t fit = IsJudged (IsReadBy SaysFewTokens t) (IsReadBy SaysTokens t) fit

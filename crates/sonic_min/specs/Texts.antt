-- The texts of a spelling: with no white space, and with a line for each part.
use Rattle.std.specs.Prelude.{◌≡◌, ℕ, ◌+◌, ◌*◌, List, [], ◌∷◌, ◌++◌, Option, Some, None, replicate}
use Rattle.std.specs.List.{AllPass}
use Rattle.sonic_text.specs.Places.{is_space}
use Rattle.sonic_text.specs.Trees.{Tree, Means}
use Rattle.sonic_text.specs.Values.{opening, closing}
use Rattle.sonic_find.specs.Documents.{IsAlone}
use Rattle.sonic_min.specs.Spellings.{Spelling, scalar, container, Parts, no_part, part, IsSpelled}

-- what stands between the parts: at a depth before a part and before the closing bracket, and after a colon
pub record Gaps : Type 0 where
  pub line : ℕ → List ℕ
  pub colon : List ℕ

-- they are white space
pub record AreSpace (g : Gaps) : Type 0 where
  pub line : (d : ℕ) → AllPass is_space (g.line d)
  pub colon : AllPass is_space g.colon

-- nothing, and lines with so many blanks for each level of depth
abbrev pub tight : Gaps
tight = record { line = λ d. []; colon = [] }

abbrev pub wide_gaps : ℕ → Gaps
wide_gaps width = record { line = λ d. 10 ∷ replicate (width * d) 32; colon = 32 ∷ [] }

-- a member's key with its colon, and nothing of an element
abbrev pub key_text : Gaps → Option (List ℕ) → List ℕ
key_text g None = []
key_text g (Some k) = k ++ 58 ∷ g.colon

-- what stands before the closing bracket: nothing where there are no parts
abbrev pub last_line : Gaps → ℕ → Parts → List ℕ
last_line g d no_part = []
last_line g d (part k x ps) = g.line d

abbrev mutual
  -- the text of a spelling at a depth, with these gaps
  pub spread : Gaps → ℕ → Spelling → List ℕ
  spread g d (scalar b) = b
  spread g d (container kind ps) = opening kind ∷ spread_parts g (d + 1) [] ps ++ last_line g d ps ++ closing kind ∷ []

  -- the parts' texts, with this before the first and a comma before each other
  pub spread_parts : Gaps → ℕ → List ℕ → Parts → List ℕ
  spread_parts g d before no_part = []
  spread_parts g d before (part k x ps) = before ++ g.line d ++ key_text g k ++ spread g d x ++ spread_parts g d (44 ∷ []) ps

-- without white space, and with a line for each part, this many blanks further in for each level
abbrev pub small : Spelling → List ℕ
small x = spread tight 0 x

abbrev pub wide : ℕ → Spelling → List ℕ
wide width x = spread (wide_gaps width) 0 x

-- the document is spelled so
pub record IsDocumentSpelled (t : List ℕ) (x : Spelling) : Type 0 where
  pub start : ℕ
  pub end : ℕ
  pub alone : IsAlone t start end
  pub spelled : IsSpelled t start end x

-- the document means this tree
pub record DocumentMeans (t : List ℕ) (v : Tree) : Type 0 where
  pub start : ℕ
  pub end : ℕ
  pub alone : IsAlone t start end
  pub means : Means t start end v

-- these bytes are the small text of the document
pub record IsSmallText (t text : List ℕ) : Type 0 where
  pub spelling : Spelling
  pub spelled : IsDocumentSpelled t spelling
  pub is : text ≡ small spelling

-- these bytes are the wide text of the document, with this many blanks for each level of depth
pub record IsWideText (t : List ℕ) (width : ℕ) (text : List ℕ) : Type 0 where
  pub spelling : Spelling
  pub spelled : IsDocumentSpelled t spelling
  pub is : text ≡ wide width spelling

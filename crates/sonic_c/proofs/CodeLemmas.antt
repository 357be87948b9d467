-- The table of codes has each at its number, and a number has one text.
use Rattle.std.proofs.Common.{◌≡◌, refl, sym, ap, ◌∙◌, ℕ, zero, suc, ◌<◌, ◌≤◌, ◌+◌, ◌-◌, ◌/◌, ◌%◌, Bool, true, ◌&&◌, nat_eq, nat_lt, if◌then◌else◌, List, [], ◌∷◌, ◌++◌, get_or, length, map, codes, arith}
use Rattle.std.proofs.lemmas.Bool.{and_parts, eqb-true}
use Rattle.sonic_error.specs.Texts.{code_text}
use Rattle.sonic_error.specs.declared.code.ErrorCode.{ErrorCode}
use Rattle.sonic_error.specs.declared.code.ErrorCode.TheVariants.{Message}
use Rattle.sonic_error.specs.declared.json_type.JsonType.TheVariants.{Null, Boolean, Number, String, Object, Array}
use Rattle.sonic_error.specs.declared.json_type.Note.TheVariants.{Mismatch}
use Rattle.sonic_error.specs.declared.json_type.Wanted.TheVariants.{Object as WantedObject}
use Rattle.sonic_c.specs.Codes.{code_number}
use Rattle.sonic_c.specs.declared.code.TheConstants.{CODES}

-- the codes have the numbers from k on
unfoldable numbered : ℕ → List ErrorCode → Bool
numbered k [] = true
numbered k (c ∷ cs) = nat_eq (code_number c) k && numbered (suc k) cs

numbered_at : (k : ℕ) (cs : List ErrorCode) (d : ErrorCode) → numbered k cs ≡ true → (i : ℕ) → i < length cs → code_number (get_or cs i d) ≡ k + i
unfolding numbered
numbered_at k [] d h i low = absurd (omega (arith, low))
numbered_at k (c ∷ cs) d h zero low = let e = eqb-true (code_number c) k (and_parts (nat_eq (code_number c) k) (numbered (suc k) cs) h).0 in omega arith
numbered_at k (c ∷ cs) d h (suc i) low =
    let rest = (and_parts (nat_eq (code_number c) k) (numbered (suc k) cs) h).1 in
    let e = numbered_at (suc k) cs d rest i (omega (arith, low)) in
    omega arith

-- the table has the code of each number at the index below it
pub table_number : (n : ℕ) (d : ErrorCode) → 1 ≤ n → n ≤ 32 → code_number (get_or CODES (n - 1) d) ≡ n
unfolding numbered
table_number n d some low = let e = numbered_at 1 CODES d refl (n - 1) (omega (arith, some, low)) in omega (arith, e, some)

-- the text of the code with this number
abbrev text_with : ℕ → List ℕ
text_with n =
    let found = get_or (codes "null" ∷ codes "boolean" ∷ codes "number" ∷ codes "string" ∷ codes "map" ∷ codes "sequence" ∷ []) ((n - 100) / 10) [] in
    let wanted = get_or (codes "a JSON object" ∷ codes "a JSON array" ∷ codes "a JSON number" ∷ []) ((n - 100) % 10) [] in
    if nat_lt n 100 then get_or (map code_text CODES) (n - 1) [] else (codes "invalid type: " ++ found ++ codes ", expected " ++ wanted)

with_number : (c : ErrorCode) → text_with (code_number c) ≡ code_text c
with_number (Message (Mismatch Null WantedObject)) = refl
with_number (Message (Mismatch Boolean WantedObject)) = refl
with_number (Message (Mismatch Number WantedObject)) = refl
with_number (Message (Mismatch String WantedObject)) = refl
with_number (Message (Mismatch Object WantedObject)) = refl
with_number (Message (Mismatch Array WantedObject)) = refl
with_number c = refl

-- codes of one number have one text
pub same_text : (c d : ErrorCode) → code_number c ≡ code_number d → code_text c ≡ code_text d
same_text c d e = sym (with_number c) ∙ ap text_with e ∙ with_number d

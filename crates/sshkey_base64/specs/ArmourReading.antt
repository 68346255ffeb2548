-- What is read of an armour.
use Rattle.std.specs.Prelude.{◌≡◌, ◌⊎◌, ℕ, List, ◌∷◌, ◌++◌, Result, Ok, Err, Vec}
use Rattle.sshkey_base.specs.declared.encoding.Error.TheVariants.{Base64}
use Rattle.sshkey_base.specs.declared.error.Error.{Error}
use Rattle.sshkey_base.specs.declared.error.Error.TheVariants.{Encoding, FormatEncoding, Memory}
use Rattle.sshkey_model.specs.Lines.{IsWithout}
use Rattle.sshkey_base64.specs.Armour.{Encloses, IsArmour, IsBase64, IsLineEnd, dash}

-- What stands between the two lines is the Base64 of no bytes.
abbrev pub HasOtherBody : List ℕ → Type 0
HasOtherBody text = (body : List ℕ) × Encloses text body × ((bytes : List ℕ) → IsBase64 body bytes → ⊥)

-- Why no bytes are read: memory ran out, which says nothing of the text; or one of the two lines is
-- missing; or what stands between is no Base64.
abbrev pub IsUnread : List ℕ → Error → Type 0
IsUnread text e = (e ≡ Memory) ⊎ (((e ≡ FormatEncoding) × ((body : List ℕ) → Encloses text body → ⊥)) ⊎ ((e ≡ Encoding Base64) × HasOtherBody text))

abbrev pub ReadsArmour : {Z : Type 0} → List ℕ → Result (Vec ℕ Z) Error → Type 0
ReadsArmour text (Ok bytes) = IsArmour text bytes.items
ReadsArmour text (Err e) = IsUnread text e

-- A text is an armour of no two strings of bytes.
abbrev pub OneArmour : Type 0
OneArmour = (text bytes others : List ℕ) → IsArmour text bytes → IsArmour text others → bytes ≡ others

-- ---- the parts of a text

abbrev pub FollowsLineEnd : List ℕ → List ℕ → Type 0
FollowsLineEnd text rest = (end : List ℕ) × IsLineEnd end × (text ≡ end ++ rest)

-- The text is cut before its first dash.
pub record CutsBeforeDash (text front back : List ℕ) : Type 0 where
  pub is : text ≡ front ++ back
  pub no_dash : IsWithout dash front
  pub begins : (rest : List ℕ) × (back ≡ dash ∷ rest)

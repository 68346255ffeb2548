-- What is told of a line of a file of authorities, keys that may sign certificates (sshd_config(5),
-- "TrustedUserCAKeys").
use Rattle.std.specs.List.{list_any, slice_split}
use Rattle.std.specs.Prelude.{◌≡◌, ◌≢◌, ◌⊎◌, ℕ, List, Bool, IsTrue, not, false, ◌&&◌, ◌==◌, ◌++◌, bytes_eq, length}
use Rattle.std.specs.Str.{IsUtf8}
use Rattle.sshkey_base.specs.declared.error.Error.{Error}
use Rattle.sshkey_calls.specs.Fingerprints.{GivesDigestOf}
use Rattle.sshkey_calls.specs.Numbers.{error_status}
use Rattle.sshkey_entries.specs.Fields.{CutsField, AreKeyFields, AreNoKeyFields, without_blanks, AreFields, HasKeyFault, NeedsKeyFields}
use Rattle.sshkey_entries.specs.Items.{is_comma}
use Rattle.sshkey_entries.specs.OtherKeys.{AreOtherKeyFields}
use Rattle.sshkey_model.specs.Keys.{Key}
use Rattle.sshkey_model.specs.Names.{Sha256}

-- ---- the key

-- Memory may be asked for: to read the fields, or for the key that they are.
abbrev pub NeedsKey : List ℕ → Type 0
NeedsKey fields = NeedsKeyFields fields ⊎ ((k : Key) × (comment : List ℕ) × AreKeyFields fields k comment)

-- 0 and the digest of the fingerprint of the key that the fields are; 61 for those of a key of a
-- later kind; else the fault of fields that are neither. 1 is memory.
pub record TellsFields (fields : List ℕ) (n : ℕ) (was answer : List ℕ) : Type 0 where
  pub key : n ≡ 0 → (k : Key) × (comment : List ℕ) × AreKeyFields fields k comment × GivesDigestOf Sha256 k answer
  pub no_key : n ≢ 0 → n ≢ 1 → AreNoKeyFields fields
  pub later : n ≡ 61 → AreOtherKeyFields fields
  pub fault : n ≢ 0 → n ≢ 1 → n ≢ 61 → ¬ AreOtherKeyFields fields × ((e : Error) × HasKeyFault fields e × (n ≡ error_status e))
  pub memory : n ≡ 1 → NeedsKey fields
  pub stays : n ≢ 0 → answer ≡ was

-- The line begins with two fields, which these bytes are, with what stands between them.
pub record BeginsWithFields (line fields : List ℕ) : Type 0 where
  pub name : List ℕ
  pub word : List ℕ
  pub rest : List ℕ
  pub two : AreFields line name word rest
  pub is : line ≡ fields ++ rest

-- That is told of its first two fields, blanks at its front aside; or these are no text.
pub record TellsAuthority (line : List ℕ) (n : ℕ) (was answer : List ℕ) : Type 0 where
  pub fields : List ℕ
  pub begins : BeginsWithFields (without_blanks line) fields
  pub told : IsUtf8 fields → TellsFields fields n was answer
  pub text : ¬ IsUtf8 fields → (n ≡ 4) × (answer ≡ was)

-- ---- for whom it may sign

-- The user is one of the names, which commas part, and has a name.
abbrev pub has_user : List ℕ → List ℕ → Bool
has_user list user = not (length user == 0) && list_any (λ name. bytes_eq name user) (slice_split is_comma list)

-- The first field is a list of names. Where it has the user, the same is told of what follows it;
-- else it is 3.
pub record TellsUserAuthority (line user : List ℕ) (n : ℕ) (was answer : List ℕ) : Type 0 where
  pub list : List ℕ
  pub rest : List ℕ
  pub first : CutsField (without_blanks line) list rest
  pub own : IsTrue (has_user list user) → TellsAuthority rest n was answer
  pub other : has_user list user ≡ false → (n ≡ 3) × (answer ≡ was)

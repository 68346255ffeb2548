-- What the laws say.
use Rattle.std.specs.Prelude.{◌≡◌, ◌↔◌, ℕ, List, [], Ok}
use Rattle.sshkey_model.specs.Parts.{Parts, flat, Fits}
use Rattle.sshkey_model.specs.Reading.{Front}
use Rattle.sshkey_model.specs.Names.{Hash}
use Rattle.sshkey_model.specs.Certificates.{SignedFields, AreSignedFields, HaveSignedPlaces, CertificateChoices, to_be_signed}
use Rattle.sshkey_model.specs.SshSignatures.{signed_data}

-- Two values have equal normal forms exactly if they are equal.
unfoldable pub DetermineValues : {V : Type 0} → (V → Type 0) → (V → Parts) → Type 0
DetermineValues {V} Is normal = (v w : V) → Is v → Is w → Fits (normal v) → Fits (normal w) → (flat (normal v) ≡ flat (normal w)) ↔ (v ≡ w)

-- The normal form is read back as the value, with nothing left.
unfoldable pub ReadBack : {V : Type 0} → (V → Type 0) → (V → Parts) → Front V → Type 0
ReadBack {V} Is normal read = (v : V) → Is v → Fits (normal v) → read (flat (normal v)) ≡ Ok (v, [])

-- The same with choices, which are all plain then: normalising twice is normalising once.
unfoldable pub ReadBackPlain : {V S : Type 0} → (V → Type 0) → (V → S → Parts) → (V → S) → Front (V × S) → Type 0
ReadBackPlain {V} Is spell plain read = (v : V) → Is v → Fits (spell v (plain v)) → read (flat (spell v (plain v))) ≡ Ok ((v, plain v), [])

-- Where a spelling fits, the normal form does.
abbrev pub NormalFits : {V S : Type 0} → (V → Type 0) → (V → S → Type 0) → (V → S → Parts) → (V → Parts) → Type 0
NormalFits {V} {S} Is HasPlace spell normal = (v : V) (s : S) → Is v → HasPlace v s → Fits (spell v s) → Fits (normal v)

-- Equal signed bytes, in any spelling, are of certificates that are equal in all that is signed,
-- and spelled alike.
abbrev pub DetermineFields : Type 0
DetermineFields = (c d : SignedFields) (s u : CertificateChoices) → AreSignedFields c → HaveSignedPlaces c s → Fits (to_be_signed c s) → AreSignedFields d → HaveSignedPlaces d u → Fits (to_be_signed d u) → flat (to_be_signed c s) ≡ flat (to_be_signed d u) → (c ≡ d) × (s ≡ u)

-- No certificate's signed bytes, in any spelling, are what an SSH signature is over.
unfoldable pub AreApart : Type 0
AreApart = (c : SignedFields) (s : CertificateChoices) (namespace reserved : List ℕ) (h : Hash) (digest : List ℕ) → AreSignedFields c → flat (to_be_signed c s) ≡ flat (signed_data namespace reserved h digest) → ⊥

-- What an SSH signature is over determines its parts.
abbrev pub DetermineSignedData : Type 0
DetermineSignedData = (n m r q : List ℕ) (h k : Hash) (d e : List ℕ) → Fits (signed_data n r h d) → Fits (signed_data m q k e) → flat (signed_data n r h d) ≡ flat (signed_data m q k e) → (n ≡ m) × (r ≡ q) × (h ≡ k) × (d ≡ e)

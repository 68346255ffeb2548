-- What is answered of bytes that are written to a room.
use Rattle.std.specs.Prelude.{◌≡◌, ◌⊎◌, ℕ, List, ◌++◌, length, take, ◌≢◌}
use Rattle.sshkey_base.specs.declared.encoding.Error.TheVariants.{Length}
use Rattle.sshkey_base.specs.declared.error.Error.{Error}
use Rattle.sshkey_base.specs.declared.error.Error.TheVariants.{Encoding, Memory}
use Rattle.sshkey_model.specs.Parts.{BoxesFit, Parts, flat}
use Rattle.sshkey_model.specs.Reading.{Front}
use Rattle.sshkey_calls.specs.Rooms.{TellsOf, GivesValue}
use Rattle.sshkey_model.specs.Certificates.{certificate_at, normal_certificate, SpellsCertificate}
use Rattle.sshkey_model.specs.Keys.{Key, normal_key, SpellsKey, key_data_at}
use Rattle.sshkey_model.specs.Signatures.{signature, signature_at, SpellsSignature}

-- What a call answers that writes the one content that `Wanted` tells, and how many bytes it has.
abbrev pub WritesContent : (List ℕ → Type 0) → ℕ → ℕ → ℕ → List ℕ → List ℕ → Type 0
WritesContent Wanted = GivesValue Wanted (λ content. content) (λ content len. len ≡ length content) (λ len. len)

-- What a call answers that writes the content that the value has which the bytes spell.
abbrev pub WritesOf : {V W : Type 0} → (V → List ℕ → Type 0) → Front W → (V → List ℕ) → List ℕ → ℕ → ℕ → ℕ → List ℕ → List ℕ → Type 0
WritesOf Spells read content_of bytes n was len before after = TellsOf Spells read bytes (λ v. WritesContent (λ content. content ≡ content_of v) n was len before after) n ((len ≡ was) × (after ≡ before))

-- ---- laid out, before it is written

-- There is no memory for the parts: `Length` exactly where a box of them is too long, else out of
-- memory.
abbrev pub IsNoRoomFor : Parts → Error → Type 0
IsNoRoomFor p e = ((BoxesFit p → ⊥) × (e ≡ Encoding Length)) ⊎ (BoxesFit p × (e ≡ Memory))

-- The parts were not added: a box of them is too long, and that is `Length`, or memory ran out.
abbrev pub IsNotAdded : Parts → Error → Type 0
IsNotAdded p e = ((BoxesFit p → ⊥) × (e ≡ Encoding Length)) ⊎ (e ≡ Memory)

-- A beginning of the bytes, perhaps none of them, follows what stood before.
abbrev pub AddsBeginning : List ℕ → List ℕ → List ℕ → Type 0
AddsBeginning before bytes after = (count : ℕ) × (after ≡ before ++ take count bytes)

-- What is answered of a normal form.

-- that of the key that the bytes spell
abbrev pub WritesNormalKey : List ℕ → ℕ → ℕ → ℕ → List ℕ → List ℕ → Type 0
WritesNormalKey = WritesOf SpellsKey key_data_at (λ k. flat (normal_key k))

-- of the certificate
abbrev pub WritesNormalCertificate : List ℕ → ℕ → ℕ → ℕ → List ℕ → List ℕ → Type 0
WritesNormalCertificate = WritesOf SpellsCertificate certificate_at (λ c. flat (normal_certificate c))

-- of the key that it certifies
abbrev pub WritesCertifiedKey : List ℕ → ℕ → ℕ → ℕ → List ℕ → List ℕ → Type 0
WritesCertifiedKey = WritesOf SpellsCertificate certificate_at (λ c. flat (normal_key c.signed.key))

-- of the signature
abbrev pub WritesNormalSignature : List ℕ → ℕ → ℕ → ℕ → List ℕ → List ℕ → Type 0
WritesNormalSignature = WritesOf SpellsSignature signature_at (λ g. flat (signature g))

-- the bytes spell a key, and are not its normal form
abbrev pub IsRenamedKey : List ℕ → Type 0
IsRenamedKey bytes = (k : Key) × SpellsKey k bytes × (bytes ≢ flat (normal_key k))

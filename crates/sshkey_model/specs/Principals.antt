-- Whom a certificate is for (PROTOCOL.certkeys: where no principals are listed, anybody).
use Rattle.std.specs.Prelude.{◌≡◌, ◌⊎◌, ℕ, List, [], Bool, Contains}
use Rattle.sshkey_model.specs.Certificates.{Certificate}
use Rattle.sshkey_model.specs.Fingerprints.{Fingerprint}
use Rattle.sshkey_model.specs.Verification.{Question}
use Rattle.sshkey_model.specs.Validity.{IsValid}

-- It lists no principals, which is to say all, or it lists these very bytes.
abbrev pub Allows : Certificate → List ℕ → Type 0
Allows c wanted = (c.signed.valid_principals ≡ []) ⊎ Contains c.signed.valid_principals wanted

-- It is valid, and allows the wanted principal.
pub record IsValidFor (accepts : Question → Bool) (fingerprints : List Fingerprint) (t : ℕ) (wanted : List ℕ) (c : Certificate) : Type 0 where
  pub valid : IsValid accepts fingerprints t c
  pub allowed : Allows c wanted

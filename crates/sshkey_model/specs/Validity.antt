-- When a certificate is valid (PROTOCOL.certkeys: its signature, `valid after` and `valid before`).
use Rattle.std.specs.Prelude.{ℕ, ◌^◌, ◌<◌, ◌≤◌, List, Bool, Contains}
use Rattle.sshkey_model.specs.Parts.{flat}
use Rattle.sshkey_model.specs.Names.{Sha256}
use Rattle.sshkey_model.specs.Certificates.{Certificate, normal_to_be_signed}
use Rattle.sshkey_model.specs.Fingerprints.{Fingerprint, fingerprint}
use Rattle.sshkey_model.specs.Verification.{Question, IsAccepted}

-- At the time t, for an authority with one of these fingerprints: the signature over the normal
-- signed bytes counts, the signature key's SHA-256 fingerprint is one of them, and t is a time in
-- the window.
pub record IsValid (accepts : Question → Bool) (fingerprints : List Fingerprint) (t : ℕ) (c : Certificate) : Type 0 where
  pub signature : IsAccepted accepts c.signed.signature_key (flat (normal_to_be_signed c.signed)) c.signature
  pub authority : Contains fingerprints (fingerprint Sha256 c.signed.signature_key)
  pub time : t < 2 ^ 63
  pub after : c.signed.valid_after ≤ t
  pub before : t < c.signed.valid_before

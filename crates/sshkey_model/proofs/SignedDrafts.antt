-- A draft that was signed is valid through its window.
use Rattle.std.proofs.Common.{◌≡◌, Bool, Contains, sym, subst, ap}
use Rattle.sshkey_model.specs.Names.{Sha256}
use Rattle.sshkey_model.specs.Keys.{Key}
use Rattle.sshkey_model.specs.Certificates.{SignedFields, Certificate}
use Rattle.sshkey_model.specs.Fingerprints.{fingerprint}
use Rattle.sshkey_model.specs.Verification.{Question}
use Rattle.sshkey_model.specs.Drafts.{Draft, IsSignedDraft, IsValidThrough}

pub signed_through : (accepts : Question → Bool) (k : Key) (d : Draft) (c : Certificate) → IsSignedDraft accepts k d c → IsValidThrough accepts (fingerprint Sha256 k) c
signed_through accepts k d c signed fingerprints t has time after before =
    let key : c.signed.signature_key ≡ k = ap (λ (u : SignedFields). u.signature_key) signed.fields in
    record {
      signature = rw signed.fields signed.signature;
      authority = subst (λ (j : Key). Contains fingerprints (fingerprint Sha256 j)) (sym key) has;
      time = time;
      after = after;
      before = before;
    }

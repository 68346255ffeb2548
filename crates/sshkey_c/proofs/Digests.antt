-- The fingerprints with some digests, one more at a time.
use Rattle.std.proofs.Common.{◌≡◌, ℕ, ◌+◌, ◌<◌, ◌++◌, List, [], ◌∷◌, ap, get_or, length, take, sym, ◌∙◌}
use Rattle.std.proofs.lemmas.List.{map-append, take_more}
use Rattle.sshkey_calls.specs.Validations.{authorities_of}
use Rattle.sshkey_calls.specs.declared.digest.Sha256Digest.{Sha256Digest}
use Rattle.sshkey_cert.specs.Validity.{fingerprint_of, fingerprints_of}
use Rattle.sshkey_fingerprints.specs.declared.fingerprint.Fingerprint.{Fingerprint}
use Rattle.sshkey_fingerprints.specs.declared.fingerprint.Fingerprint.TheVariants.{Sha256}
use Rattle.sshkey_model.specs.Fingerprints as model
use Rattle.sshkey_model.specs.Names as names

pub one_more : (digests : List Sha256Digest) (i : ℕ) (d : Sha256Digest) (found new : List Fingerprint) → i < length digests → fingerprints_of found ≡ authorities_of (take i digests) → new ≡ found ++ (Sha256 (get_or digests i d).bytes ∷ []) → fingerprints_of new ≡ authorities_of (take (i + 1) digests)
one_more digests i d found new lt so_far is =
    ap fingerprints_of is
    ∙ map-append fingerprint_of found (Sha256 (get_or digests i d).bytes ∷ [])
    ∙ ap (λ (fs : List model.Fingerprint). fs ++ (record { hash = names.Sha256; digest = (get_or digests i d).bytes } ∷ [])) so_far
    ∙ sym (ap authorities_of (take_more digests i d lt) ∙ map-append (λ (g : Sha256Digest). record { hash = names.Sha256; digest = g.bytes }) (take i digests) (get_or digests i d ∷ []))

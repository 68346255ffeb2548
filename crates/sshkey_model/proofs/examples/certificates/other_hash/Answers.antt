use Rattle.std.proofs.Common.{◌≡◌, zero, suc, [], ◌∷◌, length, refl, ap, ◌∙◌, arith}
use Rattle.std.specs.Prelude.{Contains}
use Rattle.sha2.specs.Sha256.{sha256, digest_bytes, hash_after, compress, rounds, schedule, first_words}
use Rattle.sshkey_model.specs.Parts.{flat}
use Rattle.sshkey_model.specs.Names.{Sha256, Sha512}
use Rattle.sshkey_model.specs.Fingerprints.{Fingerprint, fingerprint}
use Rattle.sshkey_model.specs.KeyExamples.{ed25519_key}
use Rattle.sshkey_model.specs.ValidityExamples.{right_fingerprint}
use Rattle.sshkey_model.proofs.examples.certificates.other_hash.Goals as goal

only_one : (f g : Fingerprint) → Contains (f ∷ []) g → f ≡ g
only_one f g (zero, lt, e) = e
only_one f g (suc k, lt, e) = absurd (omega arith)

shorter : fingerprint Sha256 ed25519_key ≡ right_fingerprint
unfolding flat sha256 digest_bytes hash_after compress rounds schedule first_words
shorter = refl

pub returns : goal.returns
returns c = (
  (λ v. let e : Sha512 ≡ Sha256 = ap (λ (f : Fingerprint). f.hash) (only_one _ _ v.authority) in cc e),
  (λ v. let e = ap (λ (f : Fingerprint). length f.digest) (only_one _ _ v.authority ∙ shorter) in absurd (omega (arith, e))),
  (λ v. let e : Sha512 ≡ Sha256 = ap (λ (f : Fingerprint). f.hash) (only_one _ _ v.authority) in cc e),
)

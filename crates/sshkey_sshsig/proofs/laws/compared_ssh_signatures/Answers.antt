use Rattle.std.proofs.Common.{◌≡◌, refl, ap}
use Rattle.std.specs.Cmp.{unsigned_Decides}
use Rattle.std.proofs.lemmas.Bool.Decides.{Decides-and, Decides-like}
use Rattle.std.proofs.lemmas.Slice.Eq.{bytes_eq-Decides}
use Rattle.sshkey_model.specs.SshSignatures.{SshSignature}
use Rattle.sshkey_base.proofs.Comparisons.{both}
use Rattle.sshkey_sshsig.specs.SshSignatures.{signer_of, given_of, ssh_signature_of}
use Rattle.sshkey_sshsig.proofs.laws.compared_ssh_signatures.Goals as goal

-- each field is the same
SameFields : SshSignature → SshSignature → Type 0
SameFields a b = (a.version ≡ b.version) × ((a.key ≡ b.key) × ((a.namespace ≡ b.namespace) × ((a.reserved ≡ b.reserved) × ((a.hash ≡ b.hash) × (a.signature ≡ b.signature)))))

together : (a b : SshSignature) → SameFields a b → a ≡ b
unfolding SameFields
together a b (version, (key, (namespace, (reserved, (hash, signature))))) = rw (version, key, namespace, reserved, hash, signature) refl

apart : (a b : SshSignature) → a ≡ b → SameFields a b
unfolding SameFields
apart a b same =
    (ap (λ (f : SshSignature). f.version) same, (ap (λ (f : SshSignature). f.key) same, (ap (λ (f : SshSignature). f.namespace) same, (ap (λ (f : SshSignature). f.reserved) same, (ap (λ (f : SshSignature). f.hash) same, ap (λ (f : SshSignature). f.signature) same)))))

pub returns-clause-equal : goal.returns-clause-equal
unfolding SameFields
returns-clause-equal c = λ x y is_x is_y. Decides-like _ (together _ _) (apart (ssh_signature_of x) (ssh_signature_of y))
    (Decides-and _ _ (unsigned_Decides _ _)
    (Decides-and _ _ (c.compared_keys.ensures.equal (signer_of x) (signer_of y) is_x is_y)
    (Decides-and _ _ (bytes_eq-Decides _ _)
    (Decides-and _ _ (bytes_eq-Decides _ _)
    (Decides-and _ _ (c.compared_hashes.ensures.equal x.hash_alg y.hash_alg) (c.compared_signatures.ensures.equal (given_of x) (given_of y)))))))

pub returns-clause-same : goal.returns-clause-same
unfolding SameFields
returns-clause-same c = λ x y is. together (ssh_signature_of x) (ssh_signature_of y)
    (both _ _ (unsigned_Decides _ _).0
    (both _ _ (c.compared_keys.ensures.same (signer_of x) (signer_of y))
    (both _ _ (bytes_eq-Decides _ _).0
    (both _ _ (bytes_eq-Decides _ _).0
    (both _ _ (c.compared_hashes.ensures.equal x.hash_alg y.hash_alg).0 (c.compared_signatures.ensures.equal (given_of x) (given_of y)).0)))) is)

use Rattle.std.proofs.Common.{◌≡◌, ℕ, List, bytes_eq, false, codes, inl, inr, refl}
use Rattle.std.proofs.lemmas.Bool.Decides.{not_from_Decides}
use Rattle.std.proofs.lemmas.Slice.Eq.{bytes_eq-Decides}
use Rattle.sshkey_entries.specs.OtherKeys.{IsFormerName}
use Rattle.sshkey_entries.proofs.examples.former_names.Goals as goal

neither : (name : List ℕ) → bytes_eq name (codes "ssh-xmss@openssh.com") ≡ false → bytes_eq name (codes "ssh-xmss-cert-v01@openssh.com") ≡ false → IsFormerName name → ⊥
neither name plain certified (inl is) = not_from_Decides _ (bytes_eq-Decides name (codes "ssh-xmss@openssh.com")) plain is
neither name plain certified (inr is) = not_from_Decides _ (bytes_eq-Decides name (codes "ssh-xmss-cert-v01@openssh.com")) certified is

pub returns : goal.returns
returns c = (inl refl, inr refl, neither (codes "ssh-xmss") refl refl, neither (codes "webauthn-sk-ecdsa-sha2-nistp256@openssh.com") refl refl)

-- The list of nothing revokes nothing.
use Rattle.std.proofs.Common.{◌≡◌, ℕ, List, [], ◌∷◌, true, false, Result, Ok, Err, bytes_eq, ap, refl, ◌∙◌}
use Rattle.std.proofs.lemmas.Slice.Eq.{bytes_eq-Decides}
use Rattle.std.specs.Int.Count.{count_leading_zeros}
use Rattle.sshkey_base.specs.declared.error.Error.{Error}
use Rattle.sshkey_krl.specs.KrlRef.{krl_bytes, krl_of}
use Rattle.sshkey_krl.specs.Krls.{krl_in}
use Rattle.sshkey_krl.specs.Revocation.{CertificateIdentity, begun, significant}
use Rattle.sshkey_krl.specs.Revocation as krl
use Rattle.sshkey_krl.specs.declared.krl_ref.KrlRef.{KrlRef}
use Rattle.sshkey_model.specs.Reading.{after_at, box_at, bytes_at, list_within, literal_at, number_at, string_at}
use Rattle.sshkey_revoked_keys.specs.declared.revoked_keys.RevokedKeys.{RevokedKeys}
use Rattle.sshkey_revoked_keys.specs.declared.revoked_keys.RevokedKeys.TheVariants.{Keys, Krl}
use Rattle.sshkey_entry_calls.specs.Revocations.{is_only_nothing, nothing, one_revokes, one_revokes_key}

-- ---- the list

read_nothing : krl_in nothing ≡ begun 0 0 []
unfolding after_at box_at bytes_at count_leading_zeros krl_in list_within literal_at number_at significant string_at
read_nothing = refl

module _ (k : KrlRef) (is : bytes_eq (krl_bytes k) nothing ≡ true) where
  is_begun : krl_of k ≡ begun 0 0 []
  is_begun = ap krl_in ((bytes_eq-Decides (krl_bytes k) nothing).0 is) ∙ read_nothing

  no_key : (key : List ℕ) → krl.revokes_key (krl_of k) key ≡ false
  no_key key = rw is_begun refl

  no_certificate : (key : List ℕ) (asked : CertificateIdentity) → krl.revokes (krl_of k) key asked ≡ false
  no_certificate key asked = rw is_begun refl

-- ---- the files

pub no_keys : (reads : List (Result RevokedKeys Error)) → is_only_nothing reads ≡ true → (key : List ℕ) → one_revokes_key reads key ≡ false
no_keys [] e key = absurd cc
no_keys (Ok (Krl k) ∷ []) e key = rw (no_key k e key) refl
no_keys (Ok (Keys keys) ∷ []) e key = absurd cc
no_keys (Err f ∷ []) e key = absurd cc
no_keys (read ∷ other ∷ reads) e key = absurd cc

pub no_certificates : (reads : List (Result RevokedKeys Error)) → is_only_nothing reads ≡ true → (key : List ℕ) (asked : CertificateIdentity) → one_revokes reads key asked ≡ false
no_certificates [] e key asked = absurd cc
no_certificates (Ok (Krl k) ∷ []) e key asked = rw (no_certificate k e key asked) refl
no_certificates (Ok (Keys keys) ∷ []) e key asked = absurd cc
no_certificates (Err f ∷ []) e key asked = absurd cc
no_certificates (read ∷ other ∷ reads) e key asked = absurd cc

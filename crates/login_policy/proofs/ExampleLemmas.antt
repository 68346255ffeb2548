-- What the worked examples cite: a login with all parts, and tests of texts and names.
use Rattle.std.proofs.Common.{◌≡◌, ◌≢◌, ℕ, ◌<◌, ◌≤◌, ◌^◌, true, false, not, ◌==◌, List, [], ◌∷◌, codes, bytes_eq, refl, sym, ◌∙◌, arith}
use Rattle.std.specs.Prelude.{All, Contains}
use Rattle.std.specs.Bool.{Decides}
use Rattle.std.specs.List.{list_all, list_any}
use Rattle.std.proofs.lemmas.Bool.Decides.{Decides-by_and, Decides-eqb, Decides-not}
use Rattle.std.proofs.lemmas.List.Elements.{All-nil}
use Rattle.openssh_limits.specs.Limits.{AreReadPrincipals}
use Rattle.sshkey_matching.specs.SourceAddresses.{IsNetworks}
use Rattle.sshkey_krl.specs.Revocations.{is_certificate_revoked}
use Rattle.sshkey_model.specs.CertificateExamples.{authority}
use Rattle.sshkey_model.specs.Fingerprints.{fingerprint}
use Rattle.sshkey_model.specs.Lines.{IsWithout}
use Rattle.sshkey_model.specs.Names.{Sha256}
use Rattle.sshkey_model.specs.OptionMaps.{value_of}
use Rattle.sshkey_model.specs.Options.{CertificateOption}
use Rattle.sshkey_model.specs.Certificates.{SignedFields}
use Rattle.sshkey_model.specs.Validity.{IsValid}
use Rattle.login_policy.specs.Examples.{IsLetIn, fields, of_fields, option}
use Rattle.login_policy.specs.KnownOptions.{Addresses, Command, IsKnownOption, IsPlainExtension, Verification, source_address}
use Rattle.login_policy.specs.Logins.{HasRightFields, IsAllowedFrom, Login}
use Rattle.login_policy.proofs.KnownOptions.{differ, found}

-- ---- texts and names

has_no_zero : (text : List ℕ) → Decides (list_all (λ c. not (c == 0)) text) (All (λ c. c ≢ 0) text)
has_no_zero text = Decides-by_and (λ c. not (c == 0)) (λ c. c ≢ 0) (list_all (λ c. not (c == 0))) (λ c. Decides-not (c == 0) (Decides-eqb c 0)) refl (λ x l. refl) text

pub zero_free : (text : List ℕ) → list_all (λ c. not (c == 0)) text ≡ true → IsWithout 0 text
zero_free text e = λ k l. (has_no_zero text).0 e k 0 l

pub all_free : (names : List (List ℕ)) → list_all (λ n. list_all (λ c. not (c == 0)) n) names ≡ true → All (IsWithout 0) names
all_free names e = λ k d l. zero_free _ ((Decides-by_and (λ n. list_all (λ c. not (c == 0)) n) (λ n. list_all (λ c. not (c == 0)) n ≡ true) (list_all (λ n. list_all (λ c. not (c == 0)) n)) (λ n. (λ t. t, λ t. t)) refl (λ x l. refl) names).0 e k d l)

pub never : false ≡ true → ⊥
never e = cc

pub not_among : (name : List ℕ) (names : List (List ℕ)) → list_any (bytes_eq name) names ≡ false → ¬ Contains names name
not_among name names unfound among = never (sym unfound ∙ found name names among)

-- a list of addresses with no networks is no option
pub no_networks : (value : List ℕ) → ¬ IsNetworks value → ¬ IsKnownOption (option source_address value)
no_networks value none known = elim known [
  | Command same given ↦ differ source_address (codes "force-command") refl same
  | Addresses same given ↦ none given.networks
  | Verification same nothing ↦ differ source_address (codes "verify-required") refl same
]

-- ---- a login

pub right : (user : List ℕ) (principals : List (List ℕ)) (end_ : ℕ) (options : List CertificateOption) → user ≢ [] → principals ≢ [] → AreReadPrincipals principals → All IsKnownOption options → HasRightFields user 0 (of_fields (record fields { valid_principals = principals; valid_before = end_; critical_options = options }))
right user principals end_ options named some read known = record {
  for_users = refl;
  accepted = refl;
  known = known;
  plain = All-nil IsPlainExtension;
  key_id = zero_free (codes "id") refl;
  principals = record { named = named; some = some; read = read };
}

pub valid : (principals : List (List ℕ)) (end_ time : ℕ) (options : List CertificateOption) → 100 ≤ time → time < end_ → time < 2 ^ 63 → IsValid (λ q. true) (fingerprint Sha256 authority ∷ []) time (of_fields (record fields { valid_principals = principals; valid_before = end_; critical_options = options }))
valid principals end_ time options begun lasts small = record { signature = refl; authority = (0, omega arith, refl); time = small; after = begun; before = lasts }

pub two_names : AreReadPrincipals fields.valid_principals
two_names = record { few = omega arith; no_zero = all_free fields.valid_principals refl }

pub let_in : (l : Login) (f : SignedFields) → HasRightFields l.user l.least_rsa_bits (of_fields f) → Contains f.valid_principals l.user → is_certificate_revoked l.revokes (of_fields f) ≡ false → IsValid l.accepts l.authorities l.time (of_fields f) → IsAllowedFrom (value_of source_address f.critical_options) l.client → IsLetIn l f
let_in l f right listed unrevoked valid from = record { fields = right; listed = listed; unrevoked = unrevoked; valid = valid; from = from }

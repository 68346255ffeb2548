-- What revocation files say, and where memory is asked for.
use denote.Ref.{Bor}
use Rattle.std.proofs.Common.{◌≡◌, ◌<◌, arith, ℕ, ◌+◌, List, [], ◌∷◌, ◌++◌, get_or, length, take, Bool, true, false, Result, refl}
use Rattle.std.proofs.lemmas.List.{take_more}
use Rattle.std.specs.List.{AllZip}
use Rattle.std.specs.Prelude.{if◌then◌else◌}
use Rattle.sshkey_base.specs.declared.error.Error.{Error}
use Rattle.sshkey_krl.specs.Revocation.{CertificateIdentity, certificate_identity}
use Rattle.sshkey_krl.specs.Revocations.{is_certificate_revoked}
use Rattle.sshkey_model.specs.Certificates.{Certificate}
use Rattle.sshkey_model.specs.Keys.{normal_key}
use Rattle.sshkey_model.specs.Parts.{flat}
use Rattle.sshkey_revoked_keys.specs.declared.revoked_keys.RevokedKeys.{RevokedKeys}
use Rattle.sshkey_entry_calls.specs.Revocations.{are_read, revoked_status}

-- ---- several files

module _ {R : Type 0} (Q : Bor (List ℕ) → R → Type 0) where
  -- one more was read
  read_more : (files : List (Bor (List ℕ))) (reads : List R) (file : Bor (List ℕ)) (read : R) → AllZip Q files reads → Q file read → AllZip Q (files ++ (file ∷ [])) (reads ++ (read ∷ []))
  read_more [] [] file read all q = (q, tt)
  read_more [] (r ∷ reads) file read all q = absurd all
  read_more (f ∷ files) [] file read all q = absurd all
  read_more (f ∷ files) (r ∷ reads) file read all q = (all.0, read_more files reads file read all.1 q)

  -- the file at that place was read
  pub read_next : (files : List (Bor (List ℕ))) (i : ℕ) (d : Bor (List ℕ)) → i < length files → (reads now : List R) (read : R) → AllZip Q (take i files) reads → Q (get_or files i d) read → now ≡ reads ++ (read ∷ []) → AllZip Q (take (i + 1) files) now
  read_next files i d l reads now read all q e = rw (take_more files i d l, e) (read_more (take i files) reads (get_or files i d) read all q)

-- the number of what they revoke is none of those that say something else
pub high_number : (reads : List (Result RevokedKeys Error)) → 1 < revoked_status reads
high_number reads = go (are_read reads)
  where
    go : (b : Bool) → 1 < (if b then 56 else 58)
    go true = omega arith
    go false = omega arith

-- the files are asked about the certificate
pub certificate_said : (says : List ℕ → CertificateIdentity → Bool) (c : Certificate) (key signer key_id : List ℕ) (serial : ℕ) → key ≡ flat (normal_key c.signed.key) → signer ≡ flat (normal_key c.signed.signature_key) → serial ≡ c.signed.serial → key_id ≡ c.signed.key_id → says key (certificate_identity signer serial key_id) ≡ is_certificate_revoked says c
certificate_said says c key signer key_id serial k s n i = rw (k, s, n, i) refl

-- Certificates are read as they are spelled.
use Rattle.std.proofs.Common.{◌≡◌, ℕ, eqb, Some, None, cond, Ok, Err, refl, sym, ap, subst, ◌∙◌, inl, inr}
use Rattle.std.specs.Int.{w32, w64}
use Rattle.std.proofs.lemmas.Bool.{eqb-true}
use Rattle.sshkey_model.specs.Parts.{number}
use Rattle.sshkey_model.specs.Reading.{FormatEncoding, Time}
use Rattle.sshkey_model.specs.Grammar.{IsSpelled, spelled}
use Rattle.sshkey_model.specs.Names.{Algorithm, Rsa}
use Rattle.sshkey_model.specs.CertificateNames.{IsCertified}
use Rattle.sshkey_model.specs.Keys.{key_algorithm, unhashed}
use Rattle.sshkey_model.specs.Certificates.{CertificateType, User, Host, type_number, is_time, type_from, type_at, time_at, signed_fields_at, certificate_at, AreSignedFields, HaveSignedPlaces, to_be_signed, IsCertificate, HasCertificatePlaces, certificate, certificate_type, IsTime, is_end, IsEnd, end_at}
use Rattle.sshkey_model.proofs.CombinedReaders.{done, ok_is, chosen, ReadsFront, Any, wide32, wide64, number_reads, string_reads, whole_reads, box_reads, then_reads, checked_reads, to_form, kept, as_front_form}
use Rattle.sshkey_model.proofs.CertificateNameReaders.{certificate_algorithm_reads}
use Rattle.sshkey_model.proofs.TextReaders.{text_reads, texts_reads}
use Rattle.sshkey_model.proofs.KeyReaders.{body_reads, key_reads}
use Rattle.sshkey_model.proofs.SignatureReaders.{signature_reads}
use Rattle.sshkey_model.proofs.OptionReaders.{options_reads}

type_takes : (n : ℕ) (k : CertificateType) → type_from n ≡ Ok k → n ≡ type_number k
type_takes n k e =
    elim (chosen (eqb n 1) (done User) (cond (eqb n 2) (Ok Host) (Err FormatEncoding)) (Ok k) e) [
      | inl one ↦ subst (λ (z : CertificateType). n ≡ type_number z) (ok_is User k one.1) (eqb-true _ _ one.0)
      | inr other ↦ elim (chosen (eqb n 2) (done Host) (Err FormatEncoding) (Ok k) other.1) [
        | inl two ↦ subst (λ (z : CertificateType). n ≡ type_number z) (ok_is Host k two.1) (eqb-true _ _ two.0)
        | inr none ↦ absurd (cc none.1)
      ]
    ]

type_again : (k : CertificateType) → type_from (type_number k) ≡ Ok k
type_again User = refl
type_again Host = refl

pub type_reads : ReadsFront Any certificate_type type_at
type_reads = checked_reads (record { takes = λ n k was e. (tt, ap (number w32) (type_takes n k e)); again = λ k is. (type_number k, tt, type_again k, refl) }) (number_reads w32 wide32)

pub time_reads : ReadsFront IsTime (number w64) time_at
time_reads = as_front_form (λ t h. h.1) (λ t h. (tt, h)) (checked_reads (kept is_time Time) (number_reads w64 wide64))

pub end_reads : ReadsFront IsEnd (number w64) end_at
end_reads = as_front_form (λ t h. h.1) (λ t h. (tt, h)) (checked_reads (kept is_end Time) (number_reads w64 wide64))

-- in a certificate no name has a hash
pub certified_plain : (a : Algorithm) → IsCertified a → a ≡ unhashed a
certified_plain (Rsa None) is = refl
certified_plain (Rsa (Some h)) is = absurd is
certified_plain _ is = refl

pub signed_fields_reads : ReadsFront (IsSpelled AreSignedFields HaveSignedPlaces) (spelled to_be_signed) signed_fields_at
unfolding signed_fields_at
signed_fields_reads = checked_reads (to_form
    (λ (name, (nonce, (key, (serial, (kind, (key_id, (principals, (after, (before, (critical, (extensions, (reserved, signer)))))))))))). (
      record { nonce = nonce; key = key; serial = serial; certificate_type = kind; key_id = key_id; valid_principals = principals; valid_after = after; valid_before = before; critical_options = critical.0; extensions = extensions.0; reserved = reserved; signature_key = signer.0 },
      record { critical_options = critical.1; extensions = extensions.1; signature_key = signer.1 },
    ))
    (λ a h. (let name : a.0 ≡ key_algorithm a.1.1.0 = certified_plain a.0 h.0 ∙ sym h.1.1.0.0 in (
      record {
        is = record { name = subst IsCertified name h.0; key = h.1.1.0.1; key_id = h.1.1.1.1.1.0; valid_principals = h.1.1.1.1.1.1.0; valid_after = h.1.1.1.1.1.1.1.0; valid_before = h.1.1.1.1.1.1.1.1.0; critical_options = h.1.1.1.1.1.1.1.1.1.0.is; extensions = h.1.1.1.1.1.1.1.1.1.1.0.is; signature_key = h.1.1.1.1.1.1.1.1.1.1.1.1.is };
        place = record { critical_options = h.1.1.1.1.1.1.1.1.1.0.place; extensions = h.1.1.1.1.1.1.1.1.1.1.0.place; signature_key = h.1.1.1.1.1.1.1.1.1.1.1.1.place };
      },
      rw name refl,
    )))
    (λ x h. (
      (key_algorithm x.0.key, (x.0.nonce, (x.0.key, (x.0.serial, (x.0.certificate_type, (x.0.key_id, (x.0.valid_principals, (x.0.valid_after, (x.0.valid_before, ((x.0.critical_options, x.1.critical_options), ((x.0.extensions, x.1.extensions), (x.0.reserved, (x.0.signature_key, x.1.signature_key))))))))))))),
      (h.is.name, (tt, ((certified_plain (key_algorithm x.0.key) h.is.name, h.is.key), (tt, (tt, (h.is.key_id, (h.is.valid_principals, (h.is.valid_after, (h.is.valid_before, (record { is = h.is.critical_options; place = h.place.critical_options }, (record { is = h.is.extensions; place = h.place.extensions }, (tt, record { is = h.is.signature_key; place = h.place.signature_key })))))))))))),
      refl,
      refl,
    )))
    (then_reads certificate_algorithm_reads (λ a. then_reads string_reads (λ _. then_reads (body_reads a) (λ _. then_reads (number_reads w64 wide64) (λ _. then_reads type_reads (λ _. then_reads text_reads (λ _. then_reads texts_reads (λ _. then_reads time_reads (λ _. then_reads end_reads (λ _. then_reads options_reads (λ _. then_reads options_reads (λ _. then_reads string_reads (λ _. box_reads (whole_reads key_reads))))))))))))))

pub certificate_reads : ReadsFront (IsSpelled IsCertificate HasCertificatePlaces) (spelled certificate) certificate_at
unfolding certificate_at
certificate_reads = checked_reads (to_form
    (λ (c, g). (record { signed = c.0; signature = g }, c.1)) (λ a h. (record { is = (h.0.is, h.1); place = h.0.place }, refl)) (λ x h. (((x.0.signed, x.1), x.0.signature), (record { is = h.is.0; place = h.place }, h.is.1), refl, refl)))
    (then_reads signed_fields_reads (λ _. box_reads (whole_reads signature_reads)))

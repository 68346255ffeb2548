-- Normal forms determine values, and are read back.
use Rattle.std.proofs.Common.{◌≡◌, List, [], ◌∷◌, sym, ap, ◌∙◌, append-nil}
use Rattle.sshkey_model.specs.Parts.{Parts, flat}
use Rattle.sshkey_model.specs.Reading.{Front}
use Rattle.sshkey_model.specs.Grammar.{IsSpelled, spelled}
use Rattle.sshkey_model.specs.Options.{CertificateOption, HasOptionPlaces, plain_nestings}
use Rattle.sshkey_model.specs.Certificates.{SignedFields, CertificateChoices, HaveSignedPlaces, plain_choices}
use Rattle.sshkey_model.specs.Laws.{DetermineValues, ReadBack, ReadBackPlain, DetermineFields}
use Rattle.sshkey_model.proofs.CombinedReaders.{ReadsFront, injective}
use Rattle.sshkey_model.proofs.CertificateReaders.{signed_fields_reads}

module _ {V : Type 0} {Is : V → Type 0} {spell : V → Parts} {read : Front V} (reads : ReadsFront Is spell read) where
  pub determined : DetermineValues Is spell
  unfolding DetermineValues
  determined v w v-is w-is v-fits w-fits = (injective reads v w v-is v-fits w-is w-fits, ap (λ (x : V). flat (spell x)))

  pub read_back : ReadBack Is spell read
  unfolding ReadBack
  read_back v is fits = ap read (sym (append-nil (flat (spell v)))) ∙ reads.again v [] is fits

module _ {V S : Type 0} {Is : V → Type 0} {HasPlace : V → S → Type 0} (spell : V → S → Parts) {read : Front (V × S)} (reads : ReadsFront (IsSpelled Is HasPlace) (spelled spell) read) (plain : V → S) (has : (v : V) → Is v → HasPlace v (plain v)) where
  pub determined_plain : DetermineValues Is (λ v. spell v (plain v))
  unfolding DetermineValues
  determined_plain v w v-is w-is v-fits w-fits =
      ((λ e. ap (λ (x : V × S). x.0) (injective reads (v, plain v) (w, plain w) (record { is = v-is; place = has v v-is }) v-fits (record { is = w-is; place = has w w-is }) w-fits e)), ap (λ (x : V). flat (spell x (plain x))))

  pub read_back_plain : ReadBackPlain Is spell plain read
  unfolding ReadBackPlain
  read_back_plain v is fits = ap read (sym (append-nil (flat (spell v (plain v))))) ∙ reads.again (v, plain v) [] (record { is = is; place = has v is }) fits

-- ---- plain choices have their places

pub plain_options_have : (os : List CertificateOption) → HasOptionPlaces os (plain_nestings os)
unfolding HasOptionPlaces
plain_options_have [] = tt
plain_options_have (o ∷ os) = (tt, plain_options_have os)

pub plain_choices_have : (c : SignedFields) → HaveSignedPlaces c (plain_choices c)
plain_choices_have c = record { critical_options = plain_options_have c.critical_options; extensions = plain_options_have c.extensions; signature_key = tt }

pub determine_fields : DetermineFields
determine_fields c d s u c-is s-has c-fits d-is u-has d-fits e =
    let both : (c, s) ≡ (d, u) = injective signed_fields_reads (c, s) (d, u) (record { is = c-is; place = s-has }) c-fits (record { is = d-is; place = u-has }) d-fits e in
    (ap (λ (x : SignedFields × CertificateChoices). x.0) both, ap (λ (x : SignedFields × CertificateChoices). x.1) both)

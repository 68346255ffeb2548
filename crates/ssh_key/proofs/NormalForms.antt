-- Where a plain reader takes what is spelled, normal forms determine values and are read back.
use Rattle.std.proofs.Common.{refl}
use Rattle.sshkey_model.specs.Grammar.{IsSpelled, spelled, value_at}
use Rattle.sshkey_model.specs.Laws.{DetermineValues, ReadBack, ReadBackPlain}
use Rattle.sshkey_model.specs.Parts.{Parts}
use Rattle.sshkey_model.specs.Reading.{Front}
use Rattle.sshkey_model.proofs.CombinedReaders.{ReadsFront}
use Rattle.sshkey_model.proofs.NormalForms.{determined, determined_plain, read_back, read_back_plain}
use Rattle.ssh_key.specs.NormalForms.{AreNormalForms}

-- what is known of both in closed words
pub opened : {V : Type 0} {Is : V → Type 0} {normal : V → Parts} {read : Front V} → DetermineValues Is normal → ReadBack Is normal read → AreNormalForms Is normal read
unfolding DetermineValues ReadBack
opened determine again = record { determine = determine; again = again }

pub normal_forms : {V : Type 0} {Is : V → Type 0} {spell : V → Parts} {read : Front V} → ReadsFront Is spell read → AreNormalForms Is spell read
normal_forms reads = opened (determined reads) (read_back reads)

-- the same where parts may be spelled in several ways, one of them plain
pub plain_forms : {V S : Type 0} {Is : V → Type 0} {HasPlace : V → S → Type 0} (spell : V → S → Parts) {read : Front (V × S)} → ReadsFront (IsSpelled Is HasPlace) (spelled spell) read → (plain : V → S) → ((v : V) → Is v → HasPlace v (plain v)) → AreNormalForms Is (λ v. spell v (plain v)) (value_at read)
unfolding DetermineValues ReadBackPlain
plain_forms spell reads plain has = record {
  determine = determined_plain spell reads plain has;
  again = λ v is fits. rw (read_back_plain spell reads plain has v is fits) refl;
}

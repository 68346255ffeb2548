-- Options with the choices of their spelling.
use Rattle.std.specs.Prelude.{ℕ, List, Bool, true, false}
use denote.Ref.{Bor}
use Rattle.sshkey_model.specs.Options.{CertificateOption, Nesting, Plain, Nested}
use Rattle.sshkey_cert_ref.specs.declared.certificate_options_ref.item.SpelledOption.{SpelledOption}

abbrev pub nesting : Bool → Nesting
nesting true = Nested
nesting false = Plain

abbrev pub value_pair_of : Bor (List ℕ) × Bool → List ℕ × Nesting
value_pair_of v = (v.0.now, nesting v.1)

abbrev pub pair_of : SpelledOption → CertificateOption × Nesting
pair_of o = (record { name = o.name.now; value = o.value.now }, nesting o.nested)

use Rattle.std.proofs.Common.{[], codes, refl, ap, arith}
use Rattle.sshkey_entries.specs.Fields.{without_front}
use Rattle.allowed_signers.specs.AllowedSigners.{OptionsPermit, no_terms}
use Rattle.allowed_signers.proofs.ExampleLemmas.{first_byte, without}
use Rattle.allowed_signers.proofs.examples.entries.Goals as goal

no_options : OptionsPermit (codes "file") 5 []
unfolding without_front
no_options = record {
  terms = no_terms;
  said = record { say = ([], refl, refl); no_comma = λ e. omega (arith, e); in_order = tt };
  permitted = record { no_authority = refl; in_namespace = tt; not_before = tt; not_after = tt };
}

pub returns : goal.returns
returns c = (
  record { own_key = refl; application = tt; options = no_options },
  λ e. omega (arith, ap first_byte e.own_key),
  record { own_key = refl; application = without 0 (codes "ssh:") refl; options = no_options },
  λ e. e.application 4 (omega arith) refl,
)

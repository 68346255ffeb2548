use Rattle.std.proofs.Common.{subst, sym}
use Rattle.std.specs.Prelude.{option_map, string_bytes}
use Rattle.sshkey_entries.specs.Answers.{Tells}
use Rattle.allowed_signers.specs.AllowedSigners.{AddsValue, terms_of}
use Rattle.allowed_signers.specs.declared.options.Word.{Word}
use Rattle.allowed_signers.proofs.options.SignerOptions.with_value.Goals as goal

pub returns-in-Namespaces : goal.returns-in-Namespaces
returns-in-Namespaces c = subst (λ (w : Word). Tells terms_of (AddsValue w (option_map string_bytes c.args.value) (terms_of c.args.self)) ⊥ c.with_namespaces.result) (sym c.in-Namespaces.is) c.with_namespaces.ensures

pub returns-in-ValidAfter : goal.returns-in-ValidAfter
returns-in-ValidAfter c = subst (λ (w : Word). Tells terms_of (AddsValue w (option_map string_bytes c.args.value) (terms_of c.args.self)) ⊥ c.with_start.result) (sym c.in-ValidAfter.is) c.with_start.ensures

pub returns-in-ValidBefore : goal.returns-in-ValidBefore
returns-in-ValidBefore c = subst (λ (w : Word). Tells terms_of (AddsValue w (option_map string_bytes c.args.value) (terms_of c.args.self)) ⊥ c.with_end.result) (sym c.in-ValidBefore.is) c.with_end.ensures

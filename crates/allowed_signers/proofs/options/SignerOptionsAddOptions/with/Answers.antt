use Rattle.std.proofs.Common.{Ok, ℕ}
use Rattle.std.specs.Prelude.{option_map, string_bytes}
use Rattle.sshkey_entries.proofs.OptionItems.{told_as, by_word}
use Rattle.allowed_signers.specs.AllowedSigners.{AddsOption, AddsValue, terms_of, words}
use Rattle.allowed_signers.proofs.options.SignerOptionsAddOptions.with.Goals as goal

pub returns-in-Some : goal.returns-in-Some
returns-in-Some c =
    let value = option_map string_bytes c.args.value in
    let adds = AddsOption c.args.name.now value (terms_of c.args.self) in
    told_as terms_of adds adds _ ⊥ (λ t a. a) (λ t a. a) (λ m. m.2) (λ m. absurd m) c.with_value.result
    (by_word {E = ℕ} terms_of (λ w. AddsValue w value (terms_of c.args.self)) (λ w. ⊥) words c.args.name.now c.in-Some.word c.in-Some.ensures (Ok c.with_value.result) c.with_value.ensures)

pub returns-in-None : goal.returns-in-None
returns-in-None c = ((λ t a. c.in-None.ensures a.0 a.1), λ m. m)

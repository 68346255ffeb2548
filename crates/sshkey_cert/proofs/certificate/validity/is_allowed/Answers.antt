use Rattle.std.proofs.Common.{◌≡◌, length, ◌∙◌, sym, arith}
use Rattle.std.proofs.lemmas.Bool.Decides.{nat_tests}
use Rattle.sshkey_cert.proofs.Given.{allows_texts}
use Rattle.sshkey_cert.proofs.certificate.validity.is_allowed.Goals as goal

pub returns-else-is_empty : goal.returns-else-is_empty
returns-else-is_empty c =
    let some : length c.args.principals.now ≡ 0 → ⊥ = λ none. grind (arith, nat_tests) in
    c.is_listed.ensures ∙ sym (allows_texts c.args.principal.now c.args.principals.now some)

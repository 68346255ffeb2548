use Rattle.std.proofs.Common.{◌≡◌, bytes_eq, sym, ◌∙◌}
use Rattle.std.specs.List.{list_any}
use Rattle.sshkey_model.proofs.Refusals.{contained, found, same_bytes}
use Rattle.sshkey_cert_ref.specs.Views.{texts_of}
use Rattle.sshkey_cert_ref.proofs.principals_ref.PrincipalsRef.contains.Goals as goal

pub returns : goal.returns
returns c =
    let ts = texts_of c.args.self.now in
    let w = c.args.text.now in
    let answer : c.is_listed.result ≡ list_any (bytes_eq w) ts = rw c.as_bytes.ensures.value at c.is_listed.ensures in
    (λ yes_. contained bytes_eq same_bytes w ts (sym answer ∙ yes_), λ has. answer ∙ found bytes_eq same_bytes w ts has)

use Rattle.std.proofs.Common.{Some, List, subst, ℕ}
use Rattle.std.specs.Prelude.{string_bytes}
use Rattle.sshkey_entries.specs.Answers.{Tells}
use Rattle.login_terms.specs.Options.{terms_of}
use Rattle.login_terms.specs.Values.{IsTunnel, MayBeTunnel}
use Rattle.sshkey_entries.specs.declared.reading.Reading.TheVariants.{Rejected}
use Rattle.login_terms.proofs.Added.{adds_none}
use Rattle.login_terms.proofs.terms.Terms.with_tunnel.Goals as goal

pub returns-in-Rejected : goal.returns-in-Rejected
returns-in-Rejected c =
    let s = terms_of c.args.self in
    let told = subst (λ (v : List ℕ). Tells (λ (n : ℕ). n) (IsTunnel v) (MayBeTunnel v) Rejected) c.as_str.ensures.value c.in-Rejected.ensures in
    (adds_none (IsTunnel (string_bytes c.args.value)) (MayBeTunnel (string_bytes c.args.value)) (λ (n : ℕ). record s { tunnel = Some n }) told.0, told.1)

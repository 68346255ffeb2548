use Rattle.std.proofs.Common.{◌≡◌, ℕ, List, rules, subst}
use Rattle.sshkey_calls.specs.Validations.{TellsFirstFor, authorities_of}
use Rattle.sshkey_calls.proofs.Validations.{says_good_for}
use Rattle.sshkey_c.proofs.certificate.raf_check_certificate_for.Goals as goal

pub returns-in-Ok-clause-first : goal.returns-in-Ok-clause-first
returns-in-Ok-clause-first c text accepts v =
    let same : c.in-Ok.principal.now ≡ c.args.principal.now = search rules in
    subst (λ (wanted : List ℕ). TellsFirstFor accepts (authorities_of c.args.authorities.now) c.args.unix_timestamp wanted c.args.certificate.now c.validate.result) same (c.validate.ensures.first accepts v)

pub returns-in-Ok-clause-exactly : goal.returns-in-Ok-clause-exactly
returns-in-Ok-clause-exactly c text accepts v = says_good_for accepts (authorities_of c.args.authorities.now) c.args.unix_timestamp c.args.certificate.now _ c.validate.ensures.spelled c.args.principal.now (returns-in-Ok-clause-first c text accepts v)

use Rattle.sshkey_calls.specs.Validations.{authorities_of}
use Rattle.sshkey_calls.proofs.Validations.{says_good}
use Rattle.sshkey_c.proofs.certificate.raf_check_certificate.Goals as goal

pub returns-clause-exactly : goal.returns-clause-exactly
returns-clause-exactly c accepts v = says_good accepts (authorities_of c.args.authorities.now) c.args.unix_timestamp c.args.certificate.now _ c.validate.ensures.spelled (c.validate.ensures.first accepts v)

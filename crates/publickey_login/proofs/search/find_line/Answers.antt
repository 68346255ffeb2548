use Rattle.sshkey_cert.specs.Certificates.{certificate_of}
use Rattle.sshkey_keys.specs.Keys.{key_of}
use Rattle.publickey_login.proofs.Searches.{authority_line, key_line, principal_line}
use Rattle.publickey_login.specs.Results.{asked_of}
use Rattle.publickey_login.proofs.search.find_line.Goals as goal

pub returns-in-Err : goal.returns-in-Err
returns-in-Err c = rw c.in-KeyLine.is (key_line (asked_of c.args.login.now) (key_of c.in-KeyLine.key.now) c.args.login.now.text.now c.in-Err.refusal c.in-Err.ensures.refused)

pub returns-in-AuthorityLine : goal.returns-in-AuthorityLine
returns-in-AuthorityLine c = rw c.in-AuthorityLine.is (authority_line (asked_of c.args.login.now) (certificate_of c.in-AuthorityLine.certificate.now) c.args.login.now.text.now c.find_authority_line.result c.find_authority_line.ensures.exactly c.find_authority_line.ensures.refused)

pub returns-in-PrincipalLine : goal.returns-in-PrincipalLine
returns-in-PrincipalLine c = rw c.in-PrincipalLine.is (principal_line (asked_of c.args.login.now) (certificate_of c.in-PrincipalLine.certificate.now) c.args.login.now.text.now c.find_principal_line.result c.find_principal_line.ensures.exactly c.find_principal_line.ensures.refused)

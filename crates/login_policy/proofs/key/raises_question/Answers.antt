use Rattle.std.proofs.Common.{◌∙◌}
use Rattle.sshkey_cert.specs.Certificates.{certificate_of}
use Rattle.sshkey_keys.specs.Questions.{question_of}
use Rattle.login_policy.proofs.Pendings.{raised}
use Rattle.login_policy.proofs.key.raises_question.Goals as goal

pub returns : goal.returns
returns c = c.is_some.ensures ∙ raised question_of (certificate_of c.args.certificate.now) _ _ _ c.question.result c.signature_key.ensures.value c.signature.ensures c.question.ensures

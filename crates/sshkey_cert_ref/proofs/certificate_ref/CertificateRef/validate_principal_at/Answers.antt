use Rattle.sshkey_model.proofs.Refusals.{none_where_wanted}
use Rattle.sshkey_cert.proofs.Given.{exactly}
use Rattle.sshkey_cert_ref.proofs.Answers.{told}
use Rattle.sshkey_cert_ref.proofs.certificate_ref.CertificateRef.validate_principal_at.Goals as goal

pub returns-clause-exactly : goal.returns-clause-exactly
returns-clause-exactly g c = exactly _ _ _ c.in_ok-first_refusal_for.ensures.first (none_where_wanted _ _ _ _ _) c.result_of_refusal.ensures

pub returns-clause-memory : goal.returns-clause-memory
returns-clause-memory g c = told _ _ _ c.result_of_refusal.ensures

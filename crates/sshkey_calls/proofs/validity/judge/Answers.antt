use Rattle.std.proofs.Common.{List, ℕ, ap}
use denote.Ref.{Bor}
use Rattle.sshkey_cert_ref.specs.CertificateRef.{certificate_of}
use Rattle.sshkey_calls.specs.Numbers.{refusal_status}
use Rattle.sshkey_calls.specs.Validations.{authorities_of, is_yes_number}
use Rattle.sshkey_calls.proofs.Validations.{principal_last}
use Rattle.sshkey_calls.proofs.validity.judge.Goals.{in-Ok, in-Err}
use Rattle.sshkey_calls.proofs.validity.judge.Goals as goal

pub returns-clause-told : goal.returns-clause-told
returns-clause-told c = elim c.match-first_refusal.branch [
  | in-Ok w ↦
      let last = principal_last (λ (p : Bor (List ℕ)). p.now) (λ _. is_yes_number c.args.is_verified) (authorities_of c.args.authorities.now) c.args.unix_timestamp (certificate_of c.args.certificate.now) c.args.principal w.is_allowed.result w.is_allowed.ensures in
      λ _. rw (w.result-is, w.refusal_status.ensures, w.refusal_with_principal.ensures, w.in-Ok.ensures, c.of.ensures) (ap refusal_status last)
  | in-Err w ↦ λ other. absurd (other w.result-is)
]

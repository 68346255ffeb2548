use Rattle.std.proofs.Common.{◌≡◌, Some, None, Ok, refl, subst, sym}
use Rattle.sshkey_cert.specs.Certificates.{certificate_of}
use Rattle.sshkey_cert.specs.Validity.{FindsRefusal, refusal_of}
use Rattle.sshkey_model.specs.Refusals.{first_refusal_for}
use Rattle.host_keys.specs.Answers.{OkExactly}
use Rattle.host_keys.specs.Hosts.{IsGoodFor, plain_name, signers}
use Rattle.host_keys.proofs.Certificates.{good, not_good}
use Rattle.host_keys.proofs.certificate.validate.Goals as goal
use Rattle.host_keys.proofs.certificate.validate.Goals.{in-Ok-None, in-Ok-Some, in-Err-first_refusal}

pub returns-clause-exactly : goal.returns-clause-exactly
returns-clause-exactly g c =
    let accepts = g.V.RawVerifier.accepts c.args.verifier.now in
    let host = plain_name c.args.host.now in
    let certificate = certificate_of c.args.certificate.now in
    let Good = IsGoodFor accepts c.args.unix_timestamp host certificate in
    let Finds = FindsRefusal (first_refusal_for accepts (signers certificate) c.args.unix_timestamp host certificate) in
    elim c.match-first_refusal.branch [
      | in-Ok-None w ↦
          let e : c.first_refusal.result ≡ Ok None = cc in
          let none : None ≡ first_refusal_for accepts (signers certificate) c.args.unix_timestamp host certificate = subst Finds e c.first_refusal.ensures in
          subst (OkExactly Good) (sym w.result-is) (good accepts c.args.unix_timestamp host certificate (c.in_default.ensures.exactly.0 refl) none)
      | in-Ok-Some w ↦
          let e : c.first_refusal.result ≡ Ok (Some w.in-Ok-Some.first) = cc in
          let some : Some (refusal_of w.in-Ok-Some.first) ≡ first_refusal_for accepts (signers certificate) c.args.unix_timestamp host certificate = subst Finds e c.first_refusal.ensures in
          subst (OkExactly Good) (sym w.result-is) (λ _. not_good accepts c.args.unix_timestamp host certificate w.in-Ok-Some.first some)
      | in-Err-first_refusal w ↦ subst (OkExactly Good) (sym w.result-is) (λ other. absurd (other refl))
    ]

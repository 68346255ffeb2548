use Rattle.std.proofs.Common.{sym}
use Rattle.sshkey_model.specs.CertificateNames.{certificate_name, certified}
use Rattle.sshkey_base.proofs.OtherNames.{named-none}
use Rattle.sshkey_base.proofs.algorithm.Algorithm.from_fixed_certificate_name.Goals as goal

pub returns-in_default : goal.returns-in_default
returns-in_default c =
    let d = c.in_default in
    sym (named-none certificate_name certified c.args.name.now (d.not-text, (d.not-text-2, (d.not-text-3, (d.not-text-4, (d.not-text-5, (d.not-text-6, (d.not-text-7, (d.not-text-8, tt)))))))))

use Rattle.std.proofs.Common.{◌≡◌, true, ◌∙◌}
use Rattle.std.specs.Prelude.{string_bytes}
use Rattle.sshkey_model.specs.Options.{may_follow}
use Rattle.sshkey_cert_values.specs.CertificateFields.{name_at_end}
use Rattle.sshkey_cert_values.proofs.OptionNames.{rise_more, insert_end}
use Rattle.sshkey_cert_values.proofs.options_map.gathered.Gathered.push.Goals as goal

pub returns-in_ok-insert-in-Few-clause-ok : goal.returns-in_ok-insert-in-Few-clause-ok
returns-in_ok-insert-in-Few-clause-ok c =
    let es = c.in-Few.options.entries in
    let above : may_follow (name_at_end es) (string_bytes c.args.name) ≡ true = rw c.in-Few.is at c.requires in
    rw c.in-Few.is (c.in_ok-insert-in-Few.ensures.entries ∙ insert_end es c.args.name c.args.value (rise_more es c.args.name c.args.value c.in_ok-insert-in-Few.ensures.was_ordered above))

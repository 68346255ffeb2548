use Rattle.std.proofs.Common.{subst}
use Rattle.sshkey_authorized_keys.specs.OpenSshEntries.{HasNoEnd}
use Rattle.sshkey_authorized_keys.proofs.OptionEnds.{cut_place, options_cut}
use Rattle.sshkey_authorized_keys.proofs.openssh.split_options.Goals as goal

pub split_at-requires : goal.split_at-requires
split_at-requires c = cut_place c.args.text.now c.as_bytes.result.now c.in-Some.end c.as_bytes.ensures.value c.in-Some.ensures

pub returns-in-Some : goal.returns-in-Some
returns-in-Some c = options_cut c.args.text.now c.as_bytes.result.now c.split_at.result.0.now c.split_at.result.1.now c.in-Some.end c.as_bytes.ensures.value c.in-Some.ensures c.split_at.ensures.front c.split_at.ensures.back

pub returns-in-None : goal.returns-in-None
returns-in-None c = subst HasNoEnd c.as_bytes.ensures.value c.in-None.ensures

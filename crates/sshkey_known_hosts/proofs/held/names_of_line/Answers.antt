use Rattle.std.proofs.Common.{◌∙◌, ◌<◌, arith, length, option_map, sym, tests}
use Rattle.sshkey_entries.specs.Items.{patterns}
use Rattle.sshkey_entries.specs.KnownHosts.{Patterns}
use Rattle.sshkey_known_hosts.specs.HostEntries.{marker_of}
use Rattle.sshkey_known_hosts.proofs.HeldNames.{any_name, plain_hosts}
use Rattle.sshkey_known_hosts.proofs.HostCuts.{for_others}
use Rattle.sshkey_known_hosts.proofs.held.names_of_line.Goals as goal

pub returns-then-not-is_without : goal.returns-then-not-is_without
returns-then-not-is_without c = any_name c.args.line.now

pub returns-in_default : goal.returns-in_default
returns-in_default c = any_name c.args.line.now

pub returns-then-is_empty : goal.returns-then-is_empty
returns-then-is_empty c = any_name c.args.line.now

pub returns : goal.returns
returns c hmac name other =
    let hosts = c.split_blank.result.0.now in
    let some : 0 < length hosts = grind (arith, tests, c.is_empty.ensures, c.if-is_empty.false) in
    let are = plain_hosts hosts some (λ here. cc (sym c.if-begins_with_bar.false ∙ c.begins_with_bar.ensures.1 here)) in
    for_others hmac name c.args.line.now c.skip_blanks.result.now c.skip_blanks.ensures (option_map marker_of c.in-Ok.field-0-0) c.in-Ok.unmarked.now hosts c.split_blank.result.1.now c.in-Ok.ensures c.split_blank.ensures
    (Patterns (patterns hosts)) are (c.is_without.ensures.0 c.if-not-is_without.false) (λ fits. other (c.names_of_patterns.ensures name fits))

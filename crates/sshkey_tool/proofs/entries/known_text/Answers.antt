use Rattle.std.proofs.lemmas.Result.{err_from_is_err_and}
use Rattle.sshkey_known_hosts.specs.HostEntries.{known_host_of}
use Rattle.sshkey_tool.proofs.ShownEntries.{writes_host}
use Rattle.sshkey_tool.proofs.entries.known_text.Goals as goal

pub returns-in_err-entry : goal.returns-in_err-entry
returns-in_err-entry c = let p = err_from_is_err_and c.from_residual.result c.from_residual.ensures.1 in rw (p.1, p.2) c.in_err-entry.ensures.reads

pub returns : goal.returns
returns c = writes_host c.args.line.now (known_host_of c.in_ok-entry.entry) c.to_string.result c.in_ok-entry.ensures.reads c.to_string.ensures

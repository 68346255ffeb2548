use Rattle.std.proofs.Common.{take}
use Rattle.sshkey_entries.specs.HostVerdicts.{known_name}
use Rattle.sshkey_keys.specs.Keys.{key_of}
use Rattle.sshkey_known_hosts.specs.Verdicts.{IsVerdict}
use Rattle.host_keys.specs.Hosts.{lines_of}
use Rattle.host_keys.proofs.texts.verdict_of_all.Given as goal

-- the verdict on the lines of the texts so far
abbrev pub invariant-loop-text : goal.invariant-loop-text
invariant-loop-text g l = IsVerdict (g.H.HostHasher.hmac l.hmac) (known_name l.host l.port) (key_of l.key) (lines_of (take l.text-index l.texts)) l.found

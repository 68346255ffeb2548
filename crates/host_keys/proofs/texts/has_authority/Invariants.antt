use Rattle.std.proofs.Common.{take}
use Rattle.sshkey_entries.specs.HostVerdicts.{known_name, IsAuthority}
use Rattle.sshkey_keys.specs.Keys.{key_of}
use Rattle.host_keys.specs.Hosts.{lines_of}
use Rattle.host_keys.proofs.texts.has_authority.Given as goal

-- no line of the texts so far has it as an authority's
abbrev pub invariant-loop-text : goal.invariant-loop-text
invariant-loop-text g l = IsAuthority (g.H.HostHasher.hmac l.hmac) (known_name l.host l.port) (key_of l.key) (lines_of (take l.text-index l.texts)) → ⊥

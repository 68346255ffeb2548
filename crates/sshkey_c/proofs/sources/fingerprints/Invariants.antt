use Rattle.std.proofs.Common.{◌≡◌, take}
use Rattle.sshkey_calls.specs.Validations.{authorities_of}
use Rattle.sshkey_cert.specs.Validity.{fingerprints_of}
use Rattle.sshkey_c.proofs.sources.fingerprints.Given as goal

-- those of the digests so far
abbrev pub invariant-loop-digest : goal.invariant-loop-digest
invariant-loop-digest l = fingerprints_of l.found.items ≡ authorities_of (take l.digest-index l.digests)

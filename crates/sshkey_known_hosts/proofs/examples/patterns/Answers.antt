use Rattle.std.proofs.Common.{refl}
use Rattle.sshkey_matching.specs.Patterns.{patterns}
use Rattle.sshkey_known_hosts.specs.Examples.{named, unnamed}
use Rattle.sshkey_known_hosts.proofs.ExampleLemmas.{each_named, each_unnamed}
use Rattle.sshkey_known_hosts.proofs.examples.patterns.Goals as goal

pub returns : goal.returns
unfolding patterns
returns c = (each_named named refl, each_unnamed unnamed refl)

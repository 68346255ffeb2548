use Rattle.std.proofs.Common.{None, eqb, ◌<◌, length, sym, ◌∙◌, arith}
use Rattle.std.proofs.lemmas.Bool.{eqb-false, eqb-true}
use Rattle.std.proofs.lemmas.Bool.Decides.{Decides-eqb}
use Rattle.std.proofs.lemmas.Slice.Eq.{strip_prefix_is}
use Rattle.sshkey_entries.specs.KnownHosts.{IsMarkedHashed, hashed_mark}
use Rattle.sshkey_known_hosts.proofs.Hosts.{tells_none, tells_patterns}
use Rattle.sshkey_known_hosts.proofs.named_hosts.are_for.Goals as goal

pub returns-then-is_empty : goal.returns-then-is_empty
returns-then-is_empty g c = tells_none (g.H.HostHasher.hmac c.args.hmac.now) c.args.name.now c.args.text.now (eqb-true (length c.args.text.now) 0 (sym c.is_empty.ensures ∙ c.if-is_empty.true))

pub returns : goal.returns
returns g c =
    let some : 0 < length c.args.text.now = omega (arith, eqb-false (length c.args.text.now) 0 (sym c.is_empty.ensures ∙ c.if-is_empty.false)) in
    let plain : IsMarkedHashed c.args.text.now → ⊥ = λ m. strip_prefix_is {E = eqb} Decides-eqb c.args.text.now hashed_mark None c.in_default.ensures.cases m.0 m.1 in
    tells_patterns (g.H.HostHasher.hmac c.args.hmac.now) c.args.name.now c.args.text.now plain some c.are_patterns_for.result c.are_patterns_for.ensures

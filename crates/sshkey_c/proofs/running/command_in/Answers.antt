use Rattle.std.proofs.Common.{option_map}
use Rattle.sshkey_c.proofs.Grants.{asked_runs, forced_runs}
use Rattle.sshkey_c.proofs.running.command_in.Goals as goal

pub returns-then-grant-ne0-clause-runs : goal.returns-then-grant-ne0-clause-runs
returns-then-grant-ne0-clause-runs c = λ t has. asked_runs t c.args.grant.now c.args.granted.now has (option_map (λ b. b.now) c.args.asked) c.if-grant-ne0.true

pub returns-clause-runs : goal.returns-clause-runs
returns-clause-runs c = λ t has. forced_runs t c.args.grant.now c.args.granted.now has (option_map (λ b. b.now) c.args.asked) c.bytes_in.result.now c.if-grant-ne0.false (c.bytes_in.ensures.part has.within)

use Rattle.ssh_key.specs.base.Causes.{cause}
use Rattle.ssh_key.specs.model.Leaves.{string_format}
use Rattle.ssh_key.specs.model.Terms.{◌then◌}
use Rattle.ssh_key.proofs.Lawful.{checked_read}
use Rattle.ssh_key.specs.model.KeyPairs.{keypair_format}
use Rattle.ssh_key.proofs.Stopping.{mapped_stops}
use Rattle.agent.specs.Records.{addition_of_parts}
use Rattle.agent.proofs.Records.{read_plain}
use Rattle.agent.proofs.addition.AdditionDecode.decode.Goals as goal

pub invariant_of-result : goal.invariant_of-result
invariant_of-result g c = record { form = read_plain c.in_ok-keypair.field-0.0 _ _ _ c.in_ok-keypair.ensures.gives.value }

pub returns-in_err-keypair-clause-past : goal.returns-in_err-keypair-clause-past
returns-in_err-keypair-clause-past g c = mapped_stops _ _ _ _ _ _ cause _ _ c.from_residual.ensures.1 (checked_read addition_of_parts (keypair_format then string_format).delimited_at) c.in_err-keypair.ensures.past

use Rattle.sshkey_base.specs.Causes.{cause}
use Rattle.sshkey_calls.proofs.Rooms.{only_memory}
use Rattle.sshkey_calls.proofs.Revocations.{none_told}
use Rattle.sshkey_entry_calls.proofs.revocations.key_status.Goals as goal

pub returns-in-Err-clause-exactly : goal.returns-in-Err-clause-exactly
returns-in-Err-clause-exactly c = none_told _ (cause c.in-Err.error) c.error_status.result c.error_status.ensures.some c.error_status.ensures.range c.error_status.ensures.memory c.in-Err.ensures.unsaid

pub returns-in-Err-clause-memory : goal.returns-in-Err-clause-memory
returns-in-Err-clause-memory c one = c.in-Err.ensures.memory (only_memory (cause c.in-Err.error) c.error_status.result c.error_status.ensures.range one)

use Rattle.sshkey_entry_calls.proofs.KeyKinds.{of_dsa, of_other}
use Rattle.sshkey_entry_calls.proofs.verifiers.is_dsa.Goals as goal

pub returns-in-Dsa : goal.returns-in-Dsa
returns-in-Dsa c = λ k spelled. of_dsa c.parts.result c.in-Dsa.field-0 c.in-Dsa.is k (c.parts.ensures k spelled)

pub returns-in_default : goal.returns-in_default
returns-in_default c = λ k spelled. of_other c.parts.result c.in_default.not-Dsa k (c.parts.ensures k spelled)

use Rattle.std.proofs.Common.{◌∷◌}
use Rattle.sshkey_entry_calls.proofs.Nothing.{no_certificates, no_keys}
use Rattle.sshkey_entry_calls.proofs.revocation_files.RevocationFilesRevocations.revokes_none.Goals as goal

pub returns-then-is_empty-clause-key : goal.returns-then-is_empty-clause-key
returns-then-is_empty-clause-key c = no_keys (c.args.self.now.first ∷ c.args.self.now.more.items)

pub returns-then-is_empty-clause-certificate : goal.returns-then-is_empty-clause-certificate
returns-then-is_empty-clause-certificate c = no_certificates (c.args.self.now.first ∷ c.args.self.now.more.items)

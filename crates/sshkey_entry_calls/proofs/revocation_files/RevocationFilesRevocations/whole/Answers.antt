use Rattle.sshkey_krl.proofs.Wholeness.{any_whole, read_whole}
use Rattle.sshkey_revoked_keys.proofs.Wholeness.{file_whole}
use Rattle.sshkey_revoked_keys.specs.RevokedKeys.{revokes, revokes_key}
use Rattle.sshkey_entry_calls.specs.Revocations.{reads_of}
use Rattle.sshkey_entry_calls.proofs.revocation_files.RevocationFilesRevocations.whole.Goals as goal

pub returns : goal.returns
returns c = λ it. any_whole _ _ (read_whole revokes_key revokes file_whole) (reads_of it)

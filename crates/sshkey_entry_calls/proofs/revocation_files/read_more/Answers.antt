use Rattle.sshkey_entry_calls.specs.Revocations.{IsReadOf}
use Rattle.sshkey_entry_calls.proofs.RevokedFiles.{read_next}
use Rattle.sshkey_entry_calls.proofs.revocation_files.read_more.Goals as goal

pub loop-file-preserved : goal.loop-file-preserved
loop-file-preserved c = read_next (λ file read. IsReadOf file.now read) c.args.files.now c.loop-file.file-index _ c.loop-file-test.true c.loop-file.reads.items c.push.new.self.items c.in_ok-read_file.field-0 c.loop-file.invariant c.in_ok-read_file.ensures.read c.in_ok-push.ensures.items

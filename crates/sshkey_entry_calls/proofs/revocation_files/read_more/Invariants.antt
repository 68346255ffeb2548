use Rattle.std.proofs.Common.{take}
use Rattle.std.specs.List.{AllZip}
use Rattle.sshkey_entry_calls.specs.Revocations.{IsReadOf}
use Rattle.sshkey_entry_calls.proofs.revocation_files.read_more.Given as goal

-- what reading the files so far gave
abbrev pub invariant-loop-file : goal.invariant-loop-file
invariant-loop-file l = AllZip (λ file read. IsReadOf file.now read) (take l.file-index l.files) l.reads.items

use Rattle.std.proofs.Common.{◌∙◌, replicate, refl, rules}
use Rattle.sshkey_pair_kinds.proofs.Halves.{put_second}
use Rattle.sshkey_pair_kinds.proofs.ed25519.Ed25519Keypair.to_bytes.Goals as goal

pub returns : goal.returns
returns c = put_second c.copy_from_slice.new.self (replicate 32 0) c.copy_from_slice-2.new.self (search rules) refl (search rules) ∙ (search rules)

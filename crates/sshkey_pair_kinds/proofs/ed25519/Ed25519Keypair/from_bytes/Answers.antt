use Rattle.std.proofs.Common.{◌≡◌, ◌∙◌, take, rules, refl}
use Rattle.sshkey_pair_kinds.proofs.Halves.{second_half}
use Rattle.sshkey_pair_kinds.proofs.ed25519.Ed25519Keypair.from_bytes.Goals as goal

pub returns : goal.returns
returns c =
    let private : c.copy_from_slice.new.self ≡ take 32 c.args.bytes.now = search rules in
    rw (c.copy_from_slice-2.ensures.after ∙ second_half c.args.bytes.now c.told-bytes, private) refl

use Rattle.std.proofs.Common.{[], ◌∷◌}
use Rattle.sshkey_krl.specs.Revocation.{Sha1s}
use Rattle.sshkey_krl.specs.Writing.{sha1_section}
use Rattle.sshkey_krl.proofs.Grown.{adds, sha1_spelled, still_list}
use Rattle.sshkey_krl.proofs.krl.Krl.revoke_sha1.Goals as goal

pub invariant_of-self : goal.invariant_of-self
invariant_of-self c =
    let digest = c.args.digest.now in
    record { form = still_list (Sha1s (digest ∷ [])) (sha1_section digest) c.args.self.now.bytes.items c.append.new.bytes.items c.append.result (sha1_spelled digest c.told-digest) c.args.self.now.form c.append.ensures }

pub returns : goal.returns
returns c =
    let digest = c.args.digest.now in
    adds (Sha1s (digest ∷ [])) (sha1_section digest) c.args.self.now.bytes.items c.append.new.bytes.items c.append.result (sha1_spelled digest c.told-digest) c.args.self.now.form c.append.ensures

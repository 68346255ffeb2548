use Rattle.std.proofs.Common.{[], ◌∷◌}
use Rattle.sshkey_keys.specs.Keys.{key_of}
use Rattle.sshkey_model.specs.Keys.{normal_key}
use Rattle.sshkey_model.specs.Parts.{flat}
use Rattle.sshkey_krl.specs.Revocation.{Keys}
use Rattle.sshkey_krl.specs.Writing.{key_section}
use Rattle.sshkey_krl.proofs.Grown.{adds, key_spelled, still_list}
use Rattle.sshkey_krl.proofs.krl.Krl.revoke_key.Goals as goal

pub invariant_of-self : goal.invariant_of-self
invariant_of-self c =
    let key = normal_key (key_of c.args.key.now) in
    record { form = still_list (Keys (flat key ∷ [])) (key_section key) c.args.self.now.bytes.items c.append.new.bytes.items c.append.result (key_spelled key) c.args.self.now.form c.append.ensures }

pub returns : goal.returns
returns c =
    let key = normal_key (key_of c.args.key.now) in
    adds (Keys (flat key ∷ [])) (key_section key) c.args.self.now.bytes.items c.append.new.bytes.items c.append.result (key_spelled key) c.args.self.now.form c.append.ensures

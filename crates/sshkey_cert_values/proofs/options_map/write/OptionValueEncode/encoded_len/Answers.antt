use Rattle.std.proofs.Common.{◌≡◌, [], rules}
use Rattle.std.proofs.lemmas.List.{nil_from_length}
use Rattle.sshkey_cert_values.proofs.WrittenFields.{nothing_has}
use Rattle.sshkey_cert_values.proofs.options_map.write.OptionValueEncode.encoded_len.Goals as goal

pub returns-then-is_empty-clause-measures : goal.returns-then-is_empty-clause-measures
returns-then-is_empty-clause-measures c =
    let empty : c.args.self.now.value.now ≡ [] = nil_from_length c.args.self.now.value.now (search rules) in
    rw empty nothing_has

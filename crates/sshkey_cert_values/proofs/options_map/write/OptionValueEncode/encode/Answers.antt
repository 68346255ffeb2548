use Rattle.std.proofs.Common.{◌≡◌, [], rules}
use Rattle.std.proofs.lemmas.List.{nil_from_length}
use Rattle.sshkey_cert_values.proofs.WrittenFields.{nothing_added}
use Rattle.sshkey_cert_values.proofs.options_map.write.OptionValueEncode.encode.Goals as goal

pub returns-then-is_empty : goal.returns-then-is_empty
returns-then-is_empty g c =
    let empty : c.args.self.now.value.now ≡ [] = nil_from_length c.args.self.now.value.now (search rules) in
    rw empty (nothing_added (g.W.Writer.sink c.args.writer.now))

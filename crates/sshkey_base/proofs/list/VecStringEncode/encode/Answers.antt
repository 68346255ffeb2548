use Rattle.std.specs.Prelude.{string_bytes}
use Rattle.sshkey_model.specs.Texts.{string}
use Rattle.sshkey_base.proofs.WrittenLists.{each_map}
use Rattle.sshkey_base.proofs.list.VecStringEncode.encode.Goals as goal

pub returns : goal.returns
returns g c = rw (each_map string string_bytes, ← c.deref.ensures.value) c.encode_list.ensures

use Rattle.std.specs.Prelude.{string_bytes}
use Rattle.sshkey_model.specs.Texts.{string}
use Rattle.sshkey_base.proofs.WrittenLists.{each_map}
use Rattle.sshkey_base.proofs.list.VecStringEncode.encoded_len.Goals as goal

pub returns-clause-measures : goal.returns-clause-measures
returns-clause-measures c = rw (each_map string string_bytes, ← c.deref.ensures.value) c.list_len.ensures.measures

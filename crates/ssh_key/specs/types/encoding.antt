pub use Rattle.sshkey_base.specs.declared.encoding.Error
pub use Rattle.sshkey_base.specs.declared.bytes.Bytes
pub use Rattle.sshkey_base.specs.declared.label_error.LabelError
pub use Rattle.sshkey_base.specs.declared.reader.NestedReader
pub use Rattle.sshkey_base.specs.declared.short_bytes.ShortBytes
pub use Rattle.sshkey_base.specs.declared.writer.SliceWriter
pub use Rattle.sshkey_base.specs.declared.text.Text

-- Mpints are read as they are spelled.
use Rattle.sshkey_model.specs.Reading.{FormatEncoding}
use Rattle.sshkey_model.specs.Texts.{string}
use Rattle.sshkey_model.specs.Mpints.{is_mpint, IsMpint, mpint_at}
use Rattle.sshkey_model.proofs.CombinedReaders.{ReadsFront, checked_string_reads, kept_bytes}

pub mpint_reads : ReadsFront IsMpint string mpint_at
unfolding mpint_at
mpint_reads = checked_string_reads (kept_bytes is_mpint FormatEncoding)

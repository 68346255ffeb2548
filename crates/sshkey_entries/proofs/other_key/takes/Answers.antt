use Rattle.std.proofs.Common.{rules, ◌≡◌, length, sym, ◌∙◌}
use Rattle.std.proofs.lemmas.Slice.Eq.{bytes_eq-Decides}
use Rattle.sshkey_entries.proofs.OneOpenSshLine.{same_front}
use Rattle.sshkey_entries.proofs.other_key.takes.Goals as goal

pub returns-in-Ok-clause-begins : goal.returns-in-Ok-clause-begins
returns-in-Ok-clause-begins g c rest is =
    let size : length c.read.new.buffer ≡ length c.args.bytes.now = search rules in
    let parts = same_front c.read.new.buffer c.args.bytes.now _ rest size (sym c.in-Ok.ensures.takes.taken ∙ is) in
    c.eq.ensures ∙ (bytes_eq-Decides c.read.new.buffer c.args.bytes.now).1 parts.0

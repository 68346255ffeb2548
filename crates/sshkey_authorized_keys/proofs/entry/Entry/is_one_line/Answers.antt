use Rattle.std.proofs.Common.{sym, subst, ◌∙◌}
use Rattle.sshkey_model.specs.Lines.{key_line}
use Rattle.sshkey_public.specs.WrittenLines.{IsOneLine}
use Rattle.sshkey_public.specs.PublicKeys.{public_of, comment_of}
use Rattle.sshkey_authorized_keys.specs.AuthorizedEntries.{key_in, options_of}
use Rattle.sshkey_authorized_keys.proofs.Entries.{written_so, so_written}
use Rattle.sshkey_authorized_keys.proofs.entry.Entry.is_one_line.Goals as goal

pub returns-then-is_one_line : goal.returns-then-is_one_line
returns-then-is_one_line c =
    let options = options_of c.args.self.now in
    let line = key_line (public_of (key_in c.args.self.now)) (comment_of (key_in c.args.self.now)) in
    let front : IsOneLine options = subst IsOneLine c.as_str.ensures.text (c.is_one_line.ensures.0 c.if-is_one_line.true) in
    let key = c.is_one_line-then-is_one_line.ensures in
    (λ yes. written_so options line front (key.0 yes), λ h. key.1 (so_written options line h).1)

pub returns-else-is_one_line : goal.returns-else-is_one_line
returns-else-is_one_line c =
    let options = options_of c.args.self.now in
    let line = key_line (public_of (key_in c.args.self.now)) (comment_of (key_in c.args.self.now)) in
    (λ yes. cc (sym c.if-is_one_line.false ∙ yes), λ h. c.is_one_line.ensures.1 (subst IsOneLine (sym c.as_str.ensures.text) (so_written options line h).0))

use Rattle.std.proofs.Common.{sym, ◌∙◌}
use Rattle.sshkey_public.proofs.ReadLines.{name_written, name_fits}
use Rattle.sshkey_revoked_keys.proofs.named_word.is_named.Goals as goal

pub returns-in-Ok : goal.returns-in-Ok
returns-in-Ok g c =
    let name = name_written _ _ _ c.new-writer.ensures.empty c.in-Ok.ensures in
    (λ yes. sym (c.is_same.ensures.0 yes ∙ c.as_bytes.ensures.value) ∙ (c.written.ensures ∙ name), λ same. c.is_same.ensures.1 (c.written.ensures ∙ name ∙ sym (c.as_bytes.ensures.value ∙ same)))

pub returns-in-Err : goal.returns-in-Err
returns-in-Err g c = absurd (name_fits _ _ _ _ _ c.new-writer.ensures.empty c.requires c.in-Err.ensures)

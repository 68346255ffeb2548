use Rattle.std.proofs.Common.{List, ℕ, inl, inr, subst, sym, ◌∙◌, option_map}
use Rattle.sshkey_entries.specs.Fields.{IsKept}
use Rattle.sshkey_entries.specs.OtherKeys.{AreForeignKeyFields}
use Rattle.sshkey_public.specs.PublicKeys.{comment_of, public_of}
use Rattle.sshkey_known_hosts.specs.HostEntries.{marker_of}
use Rattle.sshkey_known_hosts.proofs.HostCuts.{entry_lists, fields_hide, other_lists}
use Rattle.sshkey_known_hosts.proofs.host_line.read_fields.Goals as goal
use Rattle.sshkey_known_hosts.proofs.host_line.read_fields.Goals.{then-bytes_are_other_key_fields-via-then-bytes_are_other_key_fields, then-bytes_are_other_key_fields-via-else-bytes_are_other_key_fields+then-bytes_are_former_key_fields}

pub returns-in-Ok-clause-answer : goal.returns-in-Ok-clause-answer
returns-in-Ok-clause-answer c hmac name line h =
    let read = c.in-Ok.ensures.reads in
    let listed = entry_lists hmac name line (option_map marker_of c.args.marker) c.args.fields.now h (public_of c.in-Ok.public_key) read.0 read.1 in
    (listed.0, subst (λ (t : List ℕ). IsKept t (comment_of c.in-Ok.public_key)) listed.1 read.2)

pub returns-then-bytes_are_other_key_fields-clause-answer : goal.returns-then-bytes_are_other_key_fields-clause-answer
returns-then-bytes_are_other_key_fields-clause-answer c hmac name line h =
    let none = c.in-Err.ensures.reads (λ e. cc (sym c.if-is_memory.false ∙ c.is_memory.ensures.cause.1 e)) in
    let are : AreForeignKeyFields c.args.fields.now
    = elim c.then-bytes_are_other_key_fields.branch [
      | then-bytes_are_other_key_fields-via-then-bytes_are_other_key_fields w ↦ inl (c.bytes_are_other_key_fields.ensures.0 w.if-bytes_are_other_key_fields.true)
      | then-bytes_are_other_key_fields-via-else-bytes_are_other_key_fields+then-bytes_are_former_key_fields w ↦ inr (w.bytes_are_former_key_fields.ensures.0 w.if-bytes_are_former_key_fields.true, none)
    ]
    in
    other_lists hmac name line (option_map marker_of c.args.marker) c.args.fields.now h are

pub returns-else-bytes_are_former_key_fields-clause-answer : goal.returns-else-bytes_are_former_key_fields-clause-answer
returns-else-bytes_are_former_key_fields-clause-answer c hmac name line h = fields_hide hmac name line (option_map marker_of c.args.marker) c.args.fields.now h
    (c.in-Err.ensures.reads (λ e. cc (sym c.if-is_memory.false ∙ c.is_memory.ensures.cause.1 e)))
    (λ foreign. elim foreign [
      | inl other ↦ cc (sym c.if-bytes_are_other_key_fields.false ∙ c.bytes_are_other_key_fields.ensures.1 other)
      | inr former ↦ cc (sym c.if-bytes_are_former_key_fields.false ∙ c.bytes_are_former_key_fields.ensures.1 former.0)
    ])

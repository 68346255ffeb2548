use Rattle.std.proofs.Common.{◌∙◌, [], arith, refl, subst, sym}
use Rattle.std.specs.Str.{IsUtf8}
use Rattle.std.proofs.lemmas.Str.{IsUtf8-from_ascii}
use Rattle.sshkey_authorized_keys.proofs.OptionEnds.{alone_read}
use Rattle.sshkey_entries.specs.AuthorizedKeys.{AuthorizedKey}
use Rattle.sshkey_keys.specs.Keys.{key_of}
use Rattle.sshkey_public.specs.PublicKeys.{public_of}
use Rattle.allowed_signers.specs.AllowedSigners.{HasEntryFor}
use Rattle.allowed_signers.proofs.Decisions.{entry_decides, line_after, never, no_comment_for, no_key_for, no_options_for, no_text_for, refused}
use Rattle.allowed_signers.proofs.signers.has_entry_for.Goals as goal

nothing : IsUtf8 []
nothing = IsUtf8-from_ascii [] (λ i. omega arith)

pub returns-then-is_comment-clause-answer : goal.returns-then-is_comment-clause-answer
returns-then-is_comment-clause-answer c = never (HasEntryFor c.args.namespace.now c.args.unix_timestamp (key_of c.args.key.now) c.args.text.now) (no_comment_for c.args.namespace.now c.args.unix_timestamp (key_of c.args.key.now) c.args.text.now c.skip_blanks-fields.result.now c.skip_blanks-fields.ensures (c.is_comment.ensures.0 c.if-is_comment.true))

pub returns-in-Ok-clause-answer : goal.returns-in-Ok-clause-answer
returns-in-Ok-clause-answer c =
    let a : AuthorizedKey = record { options = []; key = public_of c.in-Ok.found; comment = c.in-Ok.ensures.reads.0 } in
    entry_decides c.args.namespace.now c.args.unix_timestamp (key_of c.args.key.now) c.args.text.now a c.one_authorized_line.ensures
    (alone_read c.args.text.now c.skip_blanks-fields.result.now c.skip_blanks-fields.ensures (λ here. cc (sym c.if-is_comment.false ∙ c.is_comment.ensures.1 here)) a refl c.in-Ok.ensures.reads.1)
    nothing c.is_entry_for.result c.is_entry_for.ensures.answer

pub returns-in_default-clause-answer : goal.returns-in_default-clause-answer
returns-in_default-clause-answer c =
    let other = c.in-Err.ensures.reads (λ memory. cc (sym c.if-is_memory.false ∙ c.is_memory.ensures.cause.1 memory)) in
    never (HasEntryFor c.args.namespace.now c.args.unix_timestamp (key_of c.args.key.now) c.args.text.now)
    (no_options_for c.args.namespace.now c.args.unix_timestamp (key_of c.args.key.now) c.args.text.now c.skip_blanks-fields.result.now c.skip_blanks-fields.ensures other c.in_default.ensures)

pub returns-in_default-text_of-clause-answer : goal.returns-in_default-text_of-clause-answer
returns-in_default-text_of-clause-answer c =
    let other = c.in-Err.ensures.reads (λ memory. cc (sym c.if-is_memory.false ∙ c.is_memory.ensures.cause.1 memory)) in
    never (HasEntryFor c.args.namespace.now c.args.unix_timestamp (key_of c.args.key.now) c.args.text.now)
    (no_text_for c.args.namespace.now c.args.unix_timestamp (key_of c.args.key.now) c.args.text.now c.skip_blanks-fields.result.now c.skip_blanks-fields.ensures other c.in-Some.front.now c.in-Some.rest.now c.in-Some.ensures c.in_default-text_of.ensures)

pub returns-in-Ok-read_key_bytes-clause-answer : goal.returns-in-Ok-read_key_bytes-clause-answer
returns-in-Ok-read_key_bytes-clause-answer c =
    let other = c.in-Err.ensures.reads (λ memory. cc (sym c.if-is_memory.false ∙ c.is_memory.ensures.cause.1 memory)) in
    let a : AuthorizedKey = record { options = c.in-Some-text_of.options.now; key = public_of c.in-Ok-read_key_bytes.found; comment = c.in-Ok-read_key_bytes.ensures.reads.0 } in
    entry_decides c.args.namespace.now c.args.unix_timestamp (key_of c.args.key.now) c.args.text.now a c.one_authorized_line.ensures
    (line_after c.args.namespace.now c.args.unix_timestamp (key_of c.args.key.now) c.args.text.now c.skip_blanks-fields.result.now c.skip_blanks-fields.ensures other c.in-Some.front.now c.in-Some.rest.now c.in-Some.ensures c.skip_blanks.result.now c.skip_blanks.ensures
    (λ here. cc (sym c.if-is_comment.false ∙ c.is_comment.ensures.1 here)) a c.in-Some-text_of.ensures.1 c.in-Ok-read_key_bytes.ensures.reads.1)
    (subst IsUtf8 (sym c.in-Some-text_of.ensures.1) c.in-Some-text_of.ensures.0) c.is_entry_for-in-Ok-read_key_bytes.result c.is_entry_for-in-Ok-read_key_bytes.ensures.answer

pub returns-clause-answer : goal.returns-clause-answer
returns-clause-answer c =
    let other = c.in-Err.ensures.reads (λ memory. cc (sym c.if-is_memory.false ∙ c.is_memory.ensures.cause.1 memory)) in
    refused (HasEntryFor c.args.namespace.now c.args.unix_timestamp (key_of c.args.key.now) c.args.text.now) c.in-Err-read_key_bytes.error
    (no_key_for c.args.namespace.now c.args.unix_timestamp (key_of c.args.key.now) c.args.text.now c.skip_blanks-fields.result.now c.skip_blanks-fields.ensures other c.in-Some.front.now c.in-Some.rest.now c.in-Some.ensures c.skip_blanks.result.now c.skip_blanks.ensures c.in-Err-read_key_bytes.error c.in-Err-read_key_bytes.ensures.reads)
    c.no.result c.no.ensures

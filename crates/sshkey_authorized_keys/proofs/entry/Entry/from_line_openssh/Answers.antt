use Rattle.std.proofs.Common.{sym, subst, ◌∙◌}
use Rattle.sshkey_entries.specs.Fields.{AreKeyFields}
use Rattle.sshkey_public.specs.PublicKeys.{public_of, comment_of}
use Rattle.sshkey_public.specs.declared.public_key.PublicKey.{PublicKey}
use Rattle.sshkey_authorized_keys.proofs.OptionEnds.{comment_read, comment_fault, alone_read, after_read, after_fault, alone_needs, after_needs}
use Rattle.sshkey_authorized_keys.proofs.entry.Entry.from_line_openssh.Goals as goal

pub returns-then-is_comment-clause-reads : goal.returns-then-is_comment-clause-reads
returns-then-is_comment-clause-reads c = λ _. comment_read c.args.line.now c.skip_blanks-text.result.now c.skip_blanks-text.ensures (c.is_comment.ensures.0 c.if-is_comment.true)

pub returns-then-is_comment-clause-fault : goal.returns-then-is_comment-clause-fault
returns-then-is_comment-clause-fault c = λ _. comment_fault c.args.line.now c.skip_blanks-text.result.now c.skip_blanks-text.ensures (c.is_comment.ensures.0 c.if-is_comment.true)

pub returns-in-Ok-clause-reads : goal.returns-in-Ok-clause-reads
returns-in-Ok-clause-reads c = alone_read c.args.line.now c.skip_blanks-text.result.now c.skip_blanks-text.ensures (λ here. cc (sym c.if-is_comment.false ∙ c.is_comment.ensures.1 here)) _ c.alone.ensures.options
    (subst (λ (k : PublicKey). AreKeyFields c.skip_blanks-text.result.now (public_of k) (comment_of k)) (sym c.alone.ensures.key) c.in-Ok.ensures.reads)

pub after_options-requires : goal.after_options-requires
after_options-requires c = c.in-Err.ensures.reads (λ memory. cc (sym c.if-is_memory.false ∙ c.is_memory.ensures.cause.1 memory))

pub returns-clause-reads : goal.returns-clause-reads
returns-clause-reads c = after_read c.args.line.now c.skip_blanks-text.result.now c.skip_blanks-text.ensures (λ here. cc (sym c.if-is_comment.false ∙ c.is_comment.ensures.1 here)) c.after_options.result (c.in-Err.ensures.reads (λ memory. cc (sym c.if-is_memory.false ∙ c.is_memory.ensures.cause.1 memory))) c.after_options.ensures.reads

pub returns-clause-fault : goal.returns-clause-fault
returns-clause-fault c = after_fault c.args.line.now c.skip_blanks-text.result.now c.skip_blanks-text.ensures (λ here. cc (sym c.if-is_comment.false ∙ c.is_comment.ensures.1 here)) c.after_options.result c.after_options.ensures.fault

pub returns-then-is_memory-clause-asks : goal.returns-then-is_memory-clause-asks
returns-then-is_memory-clause-asks c = λ memory. alone_needs c.args.line.now c.skip_blanks-text.result.now c.skip_blanks-text.ensures (λ here. cc (sym c.if-is_comment.false ∙ c.is_comment.ensures.1 here)) (c.in-Err.ensures.asks memory)

pub returns-clause-asks : goal.returns-clause-asks
returns-clause-asks c = after_needs c.args.line.now c.skip_blanks-text.result.now c.skip_blanks-text.ensures (λ here. cc (sym c.if-is_comment.false ∙ c.is_comment.ensures.1 here)) c.after_options.result c.after_options.ensures.asks

use Rattle.std.proofs.Common.{inl, sym, ◌∙◌, arith}
use Rattle.sshkey_authorized_keys.proofs.Entries.{few_spaces, line_asks, only_options, no_space_fault, line_fault}
use Rattle.sshkey_authorized_keys.proofs.entry.Entry.from_line.Goals as goal

pub after_options-requires : goal.after_options-requires
after_options-requires c = (c.in-Err.ensures.reads (λ memory. cc (sym c.if-is_memory.false ∙ c.is_memory.ensures.cause.1 memory)), omega (arith, c.if-spaces-lt3.false, c.count_spaces-spaces.ensures))

pub returns-then-spaces-eq0-clause-reads : goal.returns-then-spaces-eq0-clause-reads
returns-then-spaces-eq0-clause-reads c = λ _. few_spaces c.args.line.now (c.in-Err.ensures.reads (λ memory. cc (sym c.if-is_memory.false ∙ c.is_memory.ensures.cause.1 memory))) (omega (arith, c.if-spaces-eq0.true, c.count_spaces-spaces.ensures))

pub returns-then-spaces-eq0-clause-fault : goal.returns-then-spaces-eq0-clause-fault
returns-then-spaces-eq0-clause-fault c = λ _. no_space_fault c.args.line.now (omega (arith, c.if-spaces-eq0.true, c.count_spaces-spaces.ensures))

pub returns-then-spaces-lt3-clause-reads : goal.returns-then-spaces-lt3-clause-reads
returns-then-spaces-lt3-clause-reads c = λ other. few_spaces c.args.line.now (c.in-Err.ensures.reads other) (omega (arith, c.if-spaces-lt3.true, c.count_spaces-spaces.ensures))

pub returns-then-spaces-lt3-clause-fault : goal.returns-then-spaces-lt3-clause-fault
returns-then-spaces-lt3-clause-fault c = λ other. line_fault c.args.line.now _ (λ zero. omega (arith, zero, c.if-spaces-eq0.false, c.count_spaces-spaces.ensures)) (omega (arith, c.if-spaces-lt3.true, c.count_spaces-spaces.ensures)) (c.in-Err.ensures.fault other)

pub returns-clause-reads : goal.returns-clause-reads
returns-clause-reads c = only_options c.args.line.now c.after_options.result (c.in-Err.ensures.reads (λ memory. cc (sym c.if-is_memory.false ∙ c.is_memory.ensures.cause.1 memory))) c.after_options.ensures.reads

pub returns-then-is_memory-clause-asks : goal.returns-then-is_memory-clause-asks
returns-then-is_memory-clause-asks c = λ memory. inl (c.in-Err.ensures.asks memory)

pub returns-then-spaces-lt3-clause-asks : goal.returns-then-spaces-lt3-clause-asks
returns-then-spaces-lt3-clause-asks c = λ memory. cc (sym c.if-is_memory.false ∙ c.is_memory.ensures.cause.1 memory)

pub returns-clause-asks : goal.returns-clause-asks
returns-clause-asks c = line_asks c.args.line.now c.after_options.result c.after_options.ensures.asks

use Rattle.std.proofs.Common.{refl}
use Rattle.sshkey_base.specs.Causes.{cause}
use Rattle.sshkey_model.specs.Lines.{IsLineOf, key_name}
use Rattle.sshkey_keys.specs.Keys.{key_of}
use Rattle.sshkey_model.specs.Keys.{SpellsKey}
use Rattle.sshkey_calls.proofs.Rooms.{only_memory}
use Rattle.sshkey_calls.proofs.KeyLines.{key_has_none, needs_key, needs_key_line, no_memory, reads_key}
use Rattle.sshkey_calls.proofs.line.read_text.Goals as goal

pub returns-in-Ok-clause-reads : goal.returns-in-Ok-clause-reads
returns-in-Ok-clause-reads c =
    let line : IsLineOf key_name SpellsKey c.args.text.now (key_of c.in-Ok.read.0) c.as_str.result.now = rw c.as_str.ensures.value c.in-Ok.ensures.reads in
    reads_key c.args.text.now (key_of c.in-Ok.read.0) c.as_str.result.now _ _ _ _ _ line c.write_line.ensures

pub read_certificate-requires-clause-none : goal.read_certificate-requires-clause-none
read_certificate-requires-clause-none c = c.in-Err.ensures.reads (λ memory. c.if-fault-eq-MEMORY.false (c.error_status-fault.ensures.memory memory))

pub read_certificate-requires-clause-fault : goal.read_certificate-requires-clause-fault
read_certificate-requires-clause-fault c = c.error_status-fault.ensures.range (λ memory. c.if-fault-eq-MEMORY.false (c.error_status-fault.ensures.memory memory))

pub returns-in-Ok-clause-memory : goal.returns-in-Ok-clause-memory
returns-in-Ok-clause-memory c _ =
    let line : IsLineOf key_name SpellsKey c.args.text.now (key_of c.in-Ok.read.0) c.as_str.result.now = rw c.as_str.ensures.value c.in-Ok.ensures.reads in
    needs_key_line c.args.text.now (key_of c.in-Ok.read.0) c.as_str.result.now line

pub returns-then-fault-eq-MEMORY-clause-reads : goal.returns-then-fault-eq-MEMORY-clause-reads
returns-then-fault-eq-MEMORY-clause-reads c = no_memory _ _ _ _ _ (refl, refl) refl

pub returns-then-fault-eq-MEMORY-clause-memory : goal.returns-then-fault-eq-MEMORY-clause-memory
returns-then-fault-eq-MEMORY-clause-memory c _ = needs_key c.args.text.now (c.in-Err.ensures.asks (only_memory (cause c.in-Err.error) _ c.error_status-fault.ensures.range c.if-fault-eq-MEMORY.true))

pub returns-in-Ok-clause-fault : goal.returns-in-Ok-clause-fault
returns-in-Ok-clause-fault c =
    let line : IsLineOf key_name SpellsKey c.args.text.now (key_of c.in-Ok.read.0) c.as_str.result.now = rw c.as_str.ensures.value c.in-Ok.ensures.reads in
    key_has_none c.args.text.now (key_of c.in-Ok.read.0) c.as_str.result.now _ _ _ _ _ line c.write_line.ensures

pub returns-else-fault-eq-MEMORY-clause-fault : goal.returns-else-fault-eq-MEMORY-clause-fault
returns-else-fault-eq-MEMORY-clause-fault c = c.read_certificate.ensures.fault (c.in-Err.error, c.in-Err.ensures.fault (λ memory. c.if-fault-eq-MEMORY.false (c.error_status-fault.ensures.memory memory)), c.error_status-fault.ensures.number)

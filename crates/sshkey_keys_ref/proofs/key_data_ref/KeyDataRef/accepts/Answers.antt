use Rattle.sshkey_keys.proofs.KeyReaders.{key_grammar}
use Rattle.sshkey_keys.proofs.SignatureReaders.{signature_grammar}
use Rattle.sshkey_keys_ref.specs.KeyBytes.{named_of}
use Rattle.sshkey_keys_ref.proofs.Signatures.{blob_formed, asked_bytes, dispatched, no_signature}
use Rattle.sshkey_keys_ref.proofs.Acceptance.{accepted_exactly, some_spelled}
use Rattle.sshkey_keys_ref.proofs.key_data_ref.KeyDataRef.accepts.Goals as goal

pub returns-in-Ok-clause-answer : goal.returns-in-Ok-clause-answer
returns-in-Ok-clause-answer g c = dispatched (g.V.RawVerifier.accepts c.args.verifier.now) (g.V.RawVerifier.runs_out c.args.verifier.now) c.args.self.now.bytes.now c.args.message.now c.args.signature.now.bytes.now c.take_name.new.bytes.now c.blob_in.result.now (named_of c.in-Ok.name) c.ask_named.result (rw c.as_bytes-after_name.ensures.bytes at c.in-Ok.ensures.value) c.blob_in.ensures c.ask_named.ensures

pub returns-in-Ok-clause-exactly : goal.returns-in-Ok-clause-exactly
returns-in-Ok-clause-exactly g c = accepted_exactly (g.V.RawVerifier.accepts c.args.verifier.now) c.args.self.now.bytes.now c.args.message.now c.args.signature.now.bytes.now c.ask_named.result (some_spelled key_grammar c.args.self.now.bytes.now c.args.self.now.form) (some_spelled signature_grammar c.args.signature.now.bytes.now c.args.signature.now.form) (returns-in-Ok-clause-answer g c)

pub returns-in-Ok-clause-asks : goal.returns-in-Ok-clause-asks
returns-in-Ok-clause-asks g c = asked_bytes (g.V.RawVerifier.accepts c.args.verifier.now) (g.V.RawVerifier.runs_out c.args.verifier.now) c.args.self.now.bytes.now c.args.message.now c.args.signature.now.bytes.now c.take_name.new.bytes.now c.blob_in.result.now (named_of c.in-Ok.name) c.ask_named.result (rw c.as_bytes-after_name.ensures.bytes at c.in-Ok.ensures.value) c.blob_in.ensures c.ask_named.ensures

pub returns-clause-answer : goal.returns-clause-answer
returns-clause-answer g c = λ k s ks ss. no_signature c.args.signature.now.bytes.now c.in-Err.ensures.met s (rw c.as_bytes-after_name.ensures.bytes at c.in-Err.ensures.is) ss

pub returns-clause-exactly : goal.returns-clause-exactly
returns-clause-exactly g c =
    let signature = some_spelled signature_grammar c.args.signature.now.bytes.now c.args.signature.now.form in
    no_signature c.args.signature.now.bytes.now c.in-Err.ensures.met signature.0 (rw c.as_bytes-after_name.ensures.bytes at c.in-Err.ensures.is) signature.1

pub ask_named-requires : goal.ask_named-requires
ask_named-requires g c =
    let signature = some_spelled signature_grammar c.args.signature.now.bytes.now c.args.signature.now.form in
    blob_formed c.args.signature.now.bytes.now c.take_name.new.bytes.now c.blob_in.result.now (named_of c.in-Ok.name) signature.0 (rw c.as_bytes-after_name.ensures.bytes at c.in-Ok.ensures.value) c.blob_in.ensures signature.1

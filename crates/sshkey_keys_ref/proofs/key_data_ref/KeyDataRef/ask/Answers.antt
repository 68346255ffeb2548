use Rattle.std.proofs.Common.{inl, sym}
use Rattle.sshkey_base.proofs.Accepted.{spelled_whole, whole_spelled}
use Rattle.sshkey_base.specs.Names.{algorithm_of}
use Rattle.sshkey_keys.proofs.KeyReaders.{key_grammar}
use Rattle.sshkey_keys.specs.Keys.{key_of}
use Rattle.sshkey_keys_ref.specs.Signatures.{signature_by}
use Rattle.sshkey_keys_ref.proofs.Signatures.{takes_memory, well_asked, within_asked, answered}
use Rattle.sshkey_keys_ref.proofs.Acceptance.{some_spelled}
use Rattle.sshkey_keys_ref.proofs.key_data_ref.KeyDataRef.ask.Goals as goal

pub verify-requires : goal.verify-requires
verify-requires g c =
    let signature = signature_by (algorithm_of c.args.algorithm.now) c.args.blob.now in
    let some = some_spelled key_grammar c.args.self.now.bytes.now c.args.self.now.form in
    let means = (rw c.as_bytes.ensures.bytes at c.key_in-parts.ensures) some.0 (spelled_whole key_grammar c.args.self.now.bytes.now some.0 some.1) in
    well_asked _ some.0 c.args.message.now c.args.blob.now (algorithm_of c.args.algorithm.now) c.requires (within_asked some.0 c.args.message.now c.args.blob.now c.security_key_message-signed.result c.split_trailer.result.0.now c.in-Some.application.now (algorithm_of c.args.algorithm.now) (algorithm_of c.in-Some.plain) (key_of c.in-Some.key) c.requires (c.if-not-goes_with.ensures some.0 c.args.message.now signature means) (c.in-Some.ensures some.0 means) c.security_key_message-signed.ensures.is c.split_trailer.ensures.string)

pub returns-in-Some : goal.returns-in-Some
returns-in-Some g c =
    let signature = signature_by (algorithm_of c.args.algorithm.now) c.args.blob.now in
    answered (g.V.RawVerifier.accepts c.args.verifier.now) (g.V.RawVerifier.runs_out c.args.verifier.now) c.args.self.now.bytes.now c.args.message.now signature _ c.verify.result (λ k e.
    let means = (rw c.as_bytes.ensures.bytes at c.key_in-parts.ensures) k e in
    within_asked k c.args.message.now c.args.blob.now c.security_key_message-signed.result c.split_trailer.result.0.now c.in-Some.application.now (algorithm_of c.args.algorithm.now) (algorithm_of c.in-Some.plain) (key_of c.in-Some.key) c.requires (c.if-not-goes_with.ensures k c.args.message.now signature means) (c.in-Some.ensures k means) c.security_key_message-signed.ensures.is c.split_trailer.ensures.string) c.verify.ensures.answer c.verify.ensures.memory

pub verify-requires-in-Ok : goal.verify-requires-in-Ok
verify-requires-in-Ok g c =
    let signature = signature_by (algorithm_of c.args.algorithm.now) c.args.blob.now in
    let k = key_of c.in-Ok.key in
    let means = (rw c.as_bytes.ensures.bytes at c.key_in-parts.ensures) k (spelled_whole key_grammar c.args.self.now.bytes.now k c.in-Ok.ensures.spelled) in
    well_asked _ k c.args.message.now c.args.blob.now (algorithm_of c.args.algorithm.now) c.requires ((c.in-None.ensures k means).1 c.args.message.now signature (sym (c.if-not-goes_with.ensures k c.args.message.now signature means)))

pub returns : goal.returns
returns g c = λ k e.
    let signature = signature_by (algorithm_of c.args.algorithm.now) c.args.blob.now in
    let means = (rw c.as_bytes.ensures.bytes at c.key_in-parts.ensures) k e in
    let plain = c.in-None.ensures k means in
    let is = sym (c.if-not-goes_with.ensures k c.args.message.now signature means) in
    rw (plain.1 c.args.message.now signature is) (inl (takes_memory k c.args.message.now signature plain.0 is (c.in-Err.ensures.in_place k (whole_spelled key_grammar c.args.self.now.bytes.now k e))))

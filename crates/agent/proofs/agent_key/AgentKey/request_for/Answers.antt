use Rattle.std.proofs.Common.{◌∙◌, ap}
use Rattle.std.proofs.lemmas.Result.{err_from_is_err_and}
use Rattle.ssh_key.specs.keys.Keys.{key_of}
use Rattle.ssh_key.specs.model.Parts.{flat}
use Rattle.agent.proofs.Signing.{key_short, not_written, same_request}
use Rattle.agent.proofs.agent_key.AgentKey.request_for.Goals as goal

pub returns-in_err-encode_vec-clause-refused : goal.returns-in_err-encode_vec-clause-refused
returns-in_err-encode_vec-clause-refused g c =
    let p = err_from_is_err_and c.from_residual.result c.from_residual.ensures.1 in
    rw p.1 (λ other fits. not_written _ _ _ c.in_err-encode_vec.ensures p.2 other (key_short (key_of c.args.self.now.key) c.args.self.now.flags c.args.message.now fits))

pub returns-in_err-encode_vec-2-clause-refused : goal.returns-in_err-encode_vec-2-clause-refused
returns-in_err-encode_vec-2-clause-refused g c =
    let p = err_from_is_err_and c.from_residual-in_err-encode_vec-2.result c.from_residual-in_err-encode_vec-2.ensures.1 in
    let same = same_request (key_of c.args.self.now.key) c.args.self.now.flags c.args.message.now c.new-key.result c.in_ok-message.message (c.new-key.ensures ∙ c.in_ok-encode_vec.ensures.1) c.in_ok-message.ensures.copy in
    rw (p.1, ← same) (not_written _ _ _ c.in_err-encode_vec-2.ensures p.2)

pub returns-clause-bytes : goal.returns-clause-bytes
returns-clause-bytes g c =
    let same = same_request (key_of c.args.self.now.key) c.args.self.now.flags c.args.message.now c.new-key.result c.in_ok-message.message (c.new-key.ensures ∙ c.in_ok-encode_vec.ensures.1) c.in_ok-message.ensures.copy in
    c.in_ok-encode_vec-2.ensures.1 ∙ ap flat same

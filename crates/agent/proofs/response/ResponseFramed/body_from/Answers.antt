use Rattle.std.proofs.Common.{refl}
use Rattle.ssh_key.specs.model.Signatures.{signature_format}
use Rattle.ssh_key.specs.model.Counted.{counted_format}
use Rattle.ssh_key.specs.model.Terms.{boxed}
use Rattle.ssh_key.proofs.Places.{later_none}
use Rattle.agent.specs.Records.{identity_format}
use Rattle.agent.specs.Responses.{ExtensionFailure, Failure, Identities, Signed, Success, response_of}
use Rattle.agent.specs.declared.response.Response.TheVariants as responses
use Rattle.agent.proofs.Frames.{held_reads, held_refused, nothing_reads}
use Rattle.agent.proofs.response.ResponseFramed.body_from.Goals as goal

pub returns-in-Failure : goal.returns-in-Failure
returns-in-Failure g c = rw c.in-Failure.is (record { gives = nothing_reads response_of Failure responses.Failure _ refl; later = later_none _; asks = tt; past = tt })

pub returns-in-Success : goal.returns-in-Success
returns-in-Success g c = rw c.in-Success.is (record { gives = nothing_reads response_of Success responses.Success _ refl; later = later_none _; asks = tt; past = tt })

pub returns-in_err-identities-in-IdentitiesAnswer : goal.returns-in_err-identities-in-IdentitiesAnswer
returns-in_err-identities-in-IdentitiesAnswer g c =
    let e = c.in_err-identities-in-IdentitiesAnswer.ensures in
    let h = held_refused (counted_format identity_format) Identities response_of _ _ _ _ c.from_residual.ensures.1 e.gives e.asks e.past in
    rw c.in-IdentitiesAnswer.is (record { gives = h.0; later = e.later; asks = h.1; past = h.2 })

pub returns-in_ok-identities-in-IdentitiesAnswer : goal.returns-in_ok-identities-in-IdentitiesAnswer
returns-in_ok-identities-in-IdentitiesAnswer g c =
    let e = c.in_ok-identities-in-IdentitiesAnswer.ensures in
    rw c.in-IdentitiesAnswer.is (record { gives = held_reads (counted_format identity_format) Identities response_of _ _ _ _ _ e.gives refl; later = e.later; asks = tt; past = tt })

pub returns-in_err-signature-in-SignResponse : goal.returns-in_err-signature-in-SignResponse
returns-in_err-signature-in-SignResponse g c =
    let e = c.in_err-signature-in-SignResponse.ensures in
    let h = held_refused (boxed signature_format) Signed response_of _ _ _ _ c.from_residual-in_err-signature-in-SignResponse.ensures.1 e.gives e.asks e.past in
    rw c.in-SignResponse.is (record { gives = h.0; later = e.later; asks = h.1; past = h.2 })

pub returns-in_ok-signature-in-SignResponse : goal.returns-in_ok-signature-in-SignResponse
returns-in_ok-signature-in-SignResponse g c =
    let e = c.in_ok-signature-in-SignResponse.ensures in
    rw c.in-SignResponse.is (record { gives = held_reads (boxed signature_format) Signed response_of _ _ _ _ _ e.gives refl; later = e.later; asks = tt; past = tt })

pub returns-in-ExtensionFailure : goal.returns-in-ExtensionFailure
returns-in-ExtensionFailure g c = rw c.in-ExtensionFailure.is (record { gives = nothing_reads response_of ExtensionFailure responses.ExtensionFailure _ refl; later = later_none _; asks = tt; past = tt })

pub returns-in-ExtensionResponse : goal.returns-in-ExtensionResponse
returns-in-ExtensionResponse g c = let e = c.extension_from.ensures in rw c.in-ExtensionResponse.is (record { gives = e.gives; later = e.later; asks = e.asks; past = e.past })

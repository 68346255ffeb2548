use Rattle.std.proofs.Common.{refl}
use Rattle.ssh_key.specs.model.Leaves.{string_format}
use Rattle.ssh_key.proofs.Places.{later_none}
use Rattle.agent.specs.Records.{addition_format, sign_request_format}
use Rattle.agent.specs.Requests.{Add, Identities, Lock, Remove, RemoveAll, Sign, Unlock, request_of}
use Rattle.agent.specs.declared.request.Request.TheVariants as requests
use Rattle.agent.proofs.Frames.{held_reads, held_refused, nothing_reads}
use Rattle.agent.proofs.request.RequestFramed.body_from.Goals as goal

pub returns-in-RequestIdentities : goal.returns-in-RequestIdentities
returns-in-RequestIdentities g c = rw c.in-RequestIdentities.is (record { gives = nothing_reads request_of Identities requests.RequestIdentities _ refl; later = later_none _; asks = tt; past = tt })

pub returns-in_err-request-in-SignRequest : goal.returns-in_err-request-in-SignRequest
returns-in_err-request-in-SignRequest g c =
    let e = c.in_err-request-in-SignRequest.ensures in
    let h = held_refused sign_request_format Sign request_of _ _ _ _ c.from_residual.ensures.1 e.gives e.asks e.past in
    rw c.in-SignRequest.is (record { gives = h.0; later = e.later; asks = h.1; past = h.2 })

pub returns-in_ok-request-in-SignRequest : goal.returns-in_ok-request-in-SignRequest
returns-in_ok-request-in-SignRequest g c =
    let e = c.in_ok-request-in-SignRequest.ensures in
    rw c.in-SignRequest.is (record { gives = held_reads sign_request_format Sign request_of _ _ _ _ _ e.gives refl; later = e.later; asks = tt; past = tt })

pub returns-in_err-addition-in-AddIdentity : goal.returns-in_err-addition-in-AddIdentity
returns-in_err-addition-in-AddIdentity g c =
    let e = c.in_err-addition-in-AddIdentity.ensures in
    let h = held_refused addition_format Add request_of _ _ _ _ c.from_residual-in_err-addition-in-AddIdentity.ensures.1 e.gives e.asks e.past in
    rw c.in-AddIdentity.is (record { gives = h.0; later = e.later; asks = h.1; past = h.2 })

pub returns-in_ok-addition-in-AddIdentity : goal.returns-in_ok-addition-in-AddIdentity
returns-in_ok-addition-in-AddIdentity g c =
    let e = c.in_ok-addition-in-AddIdentity.ensures in
    rw c.in-AddIdentity.is (record { gives = held_reads addition_format Add request_of _ _ _ _ _ e.gives refl; later = e.later; asks = tt; past = tt })

pub returns-in_err-key-in-RemoveIdentity : goal.returns-in_err-key-in-RemoveIdentity
returns-in_err-key-in-RemoveIdentity g c =
    let e = c.in_err-key-in-RemoveIdentity.ensures in
    let h = held_refused string_format Remove request_of _ _ _ _ c.from_residual-in_err-key-in-RemoveIdentity.ensures.1 e.gives e.asks e.past in
    rw c.in-RemoveIdentity.is (record { gives = h.0; later = e.later; asks = h.1; past = h.2 })

pub returns-in_ok-key-in-RemoveIdentity : goal.returns-in_ok-key-in-RemoveIdentity
returns-in_ok-key-in-RemoveIdentity g c =
    let e = c.in_ok-key-in-RemoveIdentity.ensures in
    rw c.in-RemoveIdentity.is (record { gives = held_reads string_format Remove request_of _ _ _ _ _ e.gives refl; later = e.later; asks = tt; past = tt })

pub returns-in-RemoveAllIdentities : goal.returns-in-RemoveAllIdentities
returns-in-RemoveAllIdentities g c = rw c.in-RemoveAllIdentities.is (record { gives = nothing_reads request_of RemoveAll requests.RemoveAllIdentities _ refl; later = later_none _; asks = tt; past = tt })

pub returns-in_err-passphrase-in-Lock : goal.returns-in_err-passphrase-in-Lock
returns-in_err-passphrase-in-Lock g c =
    let e = c.in_err-passphrase-in-Lock.ensures in
    let h = held_refused string_format Lock request_of _ _ _ _ c.from_residual-in_err-passphrase-in-Lock.ensures.1 e.gives e.asks e.past in
    rw c.in-Lock.is (record { gives = h.0; later = e.later; asks = h.1; past = h.2 })

pub returns-in_ok-passphrase-in-Lock : goal.returns-in_ok-passphrase-in-Lock
returns-in_ok-passphrase-in-Lock g c =
    let e = c.in_ok-passphrase-in-Lock.ensures in
    rw c.in-Lock.is (record { gives = held_reads string_format Lock request_of _ _ _ _ _ e.gives refl; later = e.later; asks = tt; past = tt })

pub returns-in_err-passphrase-in-Unlock : goal.returns-in_err-passphrase-in-Unlock
returns-in_err-passphrase-in-Unlock g c =
    let e = c.in_err-passphrase-in-Unlock.ensures in
    let h = held_refused string_format Unlock request_of _ _ _ _ c.from_residual-in_err-passphrase-in-Unlock.ensures.1 e.gives e.asks e.past in
    rw c.in-Unlock.is (record { gives = h.0; later = e.later; asks = h.1; past = h.2 })

pub returns-in_ok-passphrase-in-Unlock : goal.returns-in_ok-passphrase-in-Unlock
returns-in_ok-passphrase-in-Unlock g c =
    let e = c.in_ok-passphrase-in-Unlock.ensures in
    rw c.in-Unlock.is (record { gives = held_reads string_format Unlock request_of _ _ _ _ _ e.gives refl; later = e.later; asks = tt; past = tt })

pub returns-in-AddIdentityConstrained : goal.returns-in-AddIdentityConstrained
returns-in-AddIdentityConstrained g c = let e = c.constrained_from.ensures in rw c.in-AddIdentityConstrained.is (record { gives = e.gives; later = e.later; asks = e.asks; past = e.past })

use Rattle.std.proofs.Common.{inr, refl}
use Rattle.sshkey_keys.specs.Keys.{key_of}
use Rattle.publickey_login.specs.Signatures.{IsWhyUnsigned}
use Rattle.publickey_login.specs.Values.{offer_of, signed_of}
use Rattle.publickey_login.proofs.Grants.{not_left}
use Rattle.publickey_login.proofs.signed.client_question.Goals as goal

pub returns-in-Ok-clause-exactly : goal.returns-in-Ok-clause-exactly
returns-in-Ok-clause-exactly c =
    let asked = rw c.as_bytes.ensures.value at c.in-Ok.ensures.asked in
    rw (c.in-Request.is, c.in-Some.is) (c.in-Some.algorithm.now, refl, asked)

pub returns-in-Request-clause-exactly : goal.returns-in-Request-clause-exactly
returns-in-Request-clause-exactly c = λ other.
    let why = rw c.as_bytes.ensures.value at c.in-Err.ensures.refused in
    let unsigned : IsWhyUnsigned (offer_of c.args.offer.now) (signed_of c.args.signed.now) c.args.requirements (key_of c.args.key) c.args.form c.in-Err.refusal = rw (c.in-Request.is, c.in-Some.is) (inr (c.in-Some.algorithm.now, refl, why)) in
    not_left (offer_of c.args.offer.now) (signed_of c.args.signed.now) c.args.requirements (key_of c.args.key) c.args.form c.in-Err.refusal other unsigned

use Rattle.std.proofs.Common.{refl}
use Rattle.publickey_login.proofs.search.find.Goals as goal

pub returns-in-Err-NotListed : goal.returns-in-Err-NotListed
returns-in-Err-NotListed c =
    let why = rw c.in-Err-NotListed.field-0-is at c.in-Err-NotListed.ensures in
    (why (λ e. cc)).0

pub returns-in-Err-NotAllowed : goal.returns-in-Err-NotAllowed
returns-in-Err-NotAllowed c =
    let why = rw c.in-Err-NotAllowed.field-0-is at c.in-Err-NotAllowed.ensures in
    (refl, (why (λ e. cc)).0)

pub returns-in-Err-Unclear : goal.returns-in-Err-Unclear
returns-in-Err-Unclear c = λ other.
    let why = rw c.in-Err-Unclear.field-0-is at c.in-Err-Unclear.ensures in
    (c.in-Err-Unclear.line, (why (λ e. cc)).0, refl)

use Rattle.std.proofs.Common.{◌≡◌, true}
use Rattle.sshkey_keys.specs.Keys.{key_of}
use Rattle.allowed_signers.specs.AllowedSigners.{AllowsSigner}
use Rattle.allowed_signers.proofs.Decisions.{line_decides, never, no_front, not_listed}
use Rattle.allowed_signers.proofs.signers.allows.Goals as goal

pub returns-then-not-is_without-clause-answer : goal.returns-then-not-is_without-clause-answer
returns-then-not-is_without-clause-answer c =
    never (AllowsSigner c.args.identity.now c.args.namespace.now c.args.unix_timestamp (key_of c.args.key.now) c.args.line.now)
    (λ is. let yes : c.is_without.result ≡ true = c.is_without.ensures.1 is.no_zero in absurd cc)

pub returns-in_default-clause-answer : goal.returns-in_default-clause-answer
returns-in_default-clause-answer c = no_front c.args.identity.now c.args.namespace.now c.args.unix_timestamp (key_of c.args.key.now) c.args.line.now c.in_default.ensures

pub returns-then-not-list-clause-answer : goal.returns-then-not-list-clause-answer
returns-then-not-list-clause-answer c =
    not_listed c.args.identity.now c.args.namespace.now c.args.unix_timestamp (key_of c.args.key.now) c.args.line.now c.in-Some.principals.now c.in-Some.rest.now c.in-Some.ensures.0 c.in-Some.ensures.1
    (λ listed. let yes : c.list.result ≡ true = c.list.ensures.1 listed in absurd cc)

pub returns-clause-answer : goal.returns-clause-answer
returns-clause-answer c =
    line_decides c.args.identity.now c.args.namespace.now c.args.unix_timestamp (key_of c.args.key.now) c.args.line.now c.in-Some.principals.now c.in-Some.rest.now c.in-Some.ensures.0 c.in-Some.ensures.1
    (c.is_without.ensures.0 c.if-not-is_without.false)
    (c.list.ensures.0 c.if-not-list.false) c.has_entry_for.result c.has_entry_for.ensures.answer

use Rattle.std.proofs.Common.{◌≡◌, ◌∙◌, ap, sym, true}
use Rattle.sshkey_keys.specs.Keys.{key_of}
use Rattle.sshkey_public.specs.PublicKeys.{public_of}
use Rattle.allowed_signers.specs.AllowedSigners.{IsEntryFor, OptionsPermit, bare_entry}
use Rattle.allowed_signers.proofs.Decisions.{never, told_as}
use Rattle.allowed_signers.proofs.signers.is_entry_for.Goals as goal

pub returns-then-not-is-clause-answer : goal.returns-then-not-is-clause-answer
returns-then-not-is-clause-answer c =
    let key : key_of c.key_data.result.now ≡ public_of c.args.found.now = ap key_of c.key_data.ensures in
    never (IsEntryFor c.args.namespace.now c.args.unix_timestamp (key_of c.args.key.now) (bare_entry c.args.options.now (public_of c.args.found.now)))
    (λ is. let found : c.is.result ≡ true = c.is.ensures.equal c.requires (sym (key ∙ is.own_key)) in absurd cc)

pub returns-then-not-openssh_reads_application-clause-answer : goal.returns-then-not-openssh_reads_application-clause-answer
returns-then-not-openssh_reads_application-clause-answer c =
    never (IsEntryFor c.args.namespace.now c.args.unix_timestamp (key_of c.args.key.now) (bare_entry c.args.options.now (public_of c.args.found.now)))
    (λ is. let found : c.openssh_reads_application.result ≡ true = c.openssh_reads_application.ensures.1 is.application in absurd cc)

pub returns-clause-answer : goal.returns-clause-answer
returns-clause-answer c =
    let key : key_of c.key_data.result.now ≡ public_of c.args.found.now = ap key_of c.key_data.ensures in
    told_as (OptionsPermit c.args.namespace.now c.args.unix_timestamp c.args.options.now) (IsEntryFor c.args.namespace.now c.args.unix_timestamp (key_of c.args.key.now) (bare_entry c.args.options.now (public_of c.args.found.now)))
    (λ p. record { own_key = sym key ∙ sym (c.is.ensures.same c.if-not-is.false); application = c.openssh_reads_application.ensures.0 c.if-not-openssh_reads_application.false; options = p })
    (λ is. is.options)
    c.options_permit.result c.options_permit.ensures.answer

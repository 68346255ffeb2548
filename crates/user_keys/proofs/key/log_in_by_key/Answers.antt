use Rattle.std.proofs.Common.{◌∙◌, sym}
use Rattle.sshkey_keys.specs.Keys.{key_of}
use Rattle.user_keys.specs.UserLogins.{login_of}
use Rattle.user_keys.proofs.FirstLines.{admitted}
use Rattle.user_keys.proofs.LongParts.{long_part}
use Rattle.user_keys.proofs.key.log_in_by_key.Goals as goal

pub first_grant-requires : goal.first_grant-requires
first_grant-requires g c = long_part c.args.login.now.least_rsa_bits (key_of c.args.key.now) c.requires (sym c.openssh_accepts_key.ensures ∙ c.if-not-openssh_accepts_key.false)

pub returns-clause-exactly : goal.returns-clause-exactly
returns-clause-exactly g c =
    admitted (login_of c.args.login.now) (key_of c.args.key.now) (g.R.Revocations.revokes_key c.args.revocations.now) (sym c.openssh_accepts_key.ensures ∙ c.if-not-openssh_accepts_key.false)
    (sym c.in-Ok.ensures.said ∙ c.if-is_revoked.false) c.first_grant.result c.first_grant.ensures.by_key c.first_grant.ensures.exactly

use Rattle.std.proofs.Common.{refl, sym, ◌∙◌, bytes_eq}
use Rattle.std.proofs.lemmas.Bool.{not-true, not-false}
use Rattle.sshkey_model.specs.PrivateKeys.{private_key_magic}
use Rattle.sshkey_private.proofs.opening.check_magic.Goals as goal

pub returns-then-ne : goal.returns-then-ne
returns-then-ne c = rw (not-true (bytes_eq c.args.bytes private_key_magic) (sym c.ne.ensures ∙ c.if-ne.true)) refl

pub returns : goal.returns
returns c = rw (not-false (bytes_eq c.args.bytes private_key_magic) (sym c.ne.ensures ∙ c.if-ne.false)) refl

use Rattle.std.proofs.Common.{sym, subst}
use Rattle.ssh_key.specs.model.Keys.{IsKey}
use Rattle.ssh_key.specs.keys.Keys.{key_of}
use Rattle.ssh_key.specs.types.public.KeyData.{KeyData}
use Rattle.callers.proofs.user_key.key.Goals as goal

pub log_in_by_key-requires : goal.log_in_by_key-requires
log_in_by_key-requires c = subst (λ (k : KeyData). IsKey (key_of k)) (sym c.key_data.ensures) c.in_ok-offered.ensures.accepts.spelled.is

use Rattle.std.proofs.Common.{◌≡◌, ℕ, ◌<◌, get_or}
use Rattle.sshkey_keys.specs.Keys.{key_of}
use Rattle.sshkey_public.specs.PublicKeys.{public_of}
use Rattle.sshkey_public.specs.declared.public_key.PublicKey.{PublicKey}
use Rattle.host_keys.proofs.texts.has_key.Given as goal

-- none of the keys so far is it
abbrev pub invariant-loop-listed : goal.invariant-loop-listed
invariant-loop-listed l = (k : ℕ) (d : PublicKey) → k < l.listed-index → public_of (get_or l.keys k d) ≡ key_of l.key → ⊥

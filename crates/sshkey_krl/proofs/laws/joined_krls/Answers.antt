use Rattle.std.specs.List.{list_any}
use Rattle.std.proofs.lemmas.List.Folds.{list_any-append}
use Rattle.sshkey_krl.specs.Revocation.{has_key, lists}
use Rattle.sshkey_krl.proofs.Krls.{of_both}
use Rattle.sshkey_krl.proofs.laws.joined_krls.Goals as goal

pub returns-clause-keys : goal.returns-clause-keys
returns-clause-keys c = λ k l key. list_any-append (has_key key) k.sections l.sections

pub returns-clause-certificates : goal.returns-clause-certificates
returns-clause-certificates c = λ k l key identity. rw (list_any-append (has_key key) k.sections l.sections, list_any-append (has_key identity.signer) k.sections l.sections, list_any-append (lists identity) k.sections l.sections) (of_both (list_any (has_key key) k.sections) (list_any (has_key identity.signer) k.sections) (list_any (lists identity) k.sections) (list_any (has_key key) l.sections) (list_any (has_key identity.signer) l.sections) (list_any (lists identity) l.sections))

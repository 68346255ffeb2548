use Rattle.publickey_login.proofs.Pendings.{same_authority, same_client, same_terms}
use Rattle.publickey_login.proofs.laws.one_grant.Goals as goal

pub returns : goal.returns
returns c = λ l s g h a b q w x y. (same_authority l s g h a b q w x y, same_client l s g h a b q w x y, same_terms l s g h a b q w x y)

use Rattle.sshkey_pair_kinds.proofs.HeldOrders.{parts_in_order}
use Rattle.sshkey_pair_kinds.proofs.laws.ordered_sk_ecdsa_pairs.Goals as goal

pub returns : goal.returns
returns c x y = parts_in_order x.held y.held _ _ _ (c.compared_sk_ecdsa_keys.ensures.ordered x.public y.public)

-- An address is seen as one address.
use Rattle.std.proofs.Common.{◌≡◌, ◌↔◌, ℕ, List, Bool, IsTrue, sym, ap, subst, ◌∙◌}
use Rattle.std.specs.declared.net.ip_addr.IpAddr.{IpAddr}
use Rattle.std.specs.declared.net.ip_addr.IpAddr.TheVariants.{V4, V6}
use Rattle.sshkey_matching.specs.SourceAddresses.{IsSeenAs, IsLinkLocal, Has, ComesFrom}

pub seen_once : (address one other : IpAddr) → IsSeenAs address one → IsSeenAs address other → one ≡ other
seen_once (V4 a) one other h k = h ∙ sym k
seen_once (V6 a) (V4 x) (V4 y) h k = let same = h.1 ∙ sym k.1 in ap V4 (λ i. record { octets = same i })
seen_once (V6 a) (V4 x) (V6 y) h k = absurd (k.0 h.0)
seen_once (V6 a) (V6 x) (V4 y) h k = absurd (h.0 k.0)
seen_once (V6 a) (V6 x) (V6 y) h k = ap V6 (h.1 ∙ sym k.1)

pub comes : (list : List ℕ) (address seen : IpAddr) (has link allows : Bool) → IsSeenAs address seen → (IsTrue has ↔ Has list seen) → (IsTrue link ↔ IsLinkLocal seen) → (IsTrue allows ↔ (IsTrue has × (IsTrue link → ⊥))) → IsTrue allows ↔ ComesFrom list address
comes list address seen has link allows is found linked judged = (
  λ y. let both = judged.0 y in record { seen = seen; is = is; wide = λ l. both.1 (linked.1 l); has = found.0 both.0 },
  λ c. let same = seen_once address c.seen seen c.is is in judged.1 (found.1 (subst (Has list) same c.has), λ l. c.wide (subst IsLinkLocal (sym same) (linked.0 l))),
)

-- What is decided of a place and of a time, and that it is one thing.
use denote.Ref.{Bor}
use Rattle.std.proofs.Common.{◌≡◌, ◌∙◌, ◌⊎◌, ℕ, List, Bool, true, false, IsTrue, Option, None, Some, Result, Ok, Err, ap, arith, inl, inr, refl, subst, sym, true≢false}
use Rattle.std.proofs.NetLemmas.Theorems.{IsIpText_unique}
use Rattle.std.specs.Net.Text.{ip_text}
use Rattle.std.specs.declared.net.ip_addr.IpAddr.{IpAddr}
use Rattle.std.specs.declared.net.ip_addr.IpAddr.TheVariants.{V4, V6}
use Rattle.sshkey_matching.specs.FromLists.{DecidesFrom, DecidesFromAt, LetsFrom, host_of}
use Rattle.sshkey_matching.specs.SourceAddresses.{IsSeenAs}
use Rattle.sshkey_matching.specs.declared.from.FromFault.{FromFault}
use Rattle.sshkey_matching.specs.declared.from.FromFault.TheVariants.{Address, Host, List as Pieces, Memory}
use Rattle.sshkey_matching.specs.declared.times.Span.{Span}
use Rattle.user_keys.specs.Judgements as judged
use Rattle.user_keys.specs.Judgements.{CountsAt, Decides}
use Rattle.user_keys.specs.declared.answer.Answer.{Answer}
use Rattle.user_keys.specs.declared.answer.Answer.TheVariants.{Yes, No, Unclear}

pub decided : (list : List ℕ) (host : Option (Bor (List ℕ))) (address : IpAddr) (r : Result Bool FromFault) (b : Bool) → DecidesFromAt list host address r → r ≡ Ok b → Decides list host address (Ok b)
decided list host address r b (inl memory) is = let e : Err Memory ≡ Ok b = sym memory ∙ is in absurd cc
decided list host address r b (inr d) is = subst (Decides list host address) is d

-- ---- one answer

-- what is told of a time
pub one_time : (expires : Option Span) (time : ℕ) (a b : Answer) → CountsAt expires time a → CountsAt expires time b → a ≡ b
one_time None time Yes Yes x y = refl
one_time None time Yes No x y = absurd y
one_time None time Yes Unclear x y = absurd y
one_time None time No b x y = absurd x
one_time None time Unclear b x y = absurd x
one_time (Some last) time Yes Yes x y = refl
one_time (Some last) time Yes No x y = absurd (omega (arith, x, y.0))
one_time (Some last) time Yes Unclear x y = absurd (omega (arith, x, y.0))
one_time (Some last) time No Yes x y = absurd (omega (arith, x.0, y))
one_time (Some last) time No No x y = refl
one_time (Some last) time No Unclear x y = absurd (omega (arith, x.1, y.1))
one_time (Some last) time Unclear Yes x y = absurd (omega (arith, x.0, y))
one_time (Some last) time Unclear No x y = absurd (omega (arith, x.1, y.1))
one_time (Some last) time Unclear Unclear x y = refl

seen_once : (address one other : IpAddr) → IsSeenAs address one → IsSeenAs address other → one ≡ other
seen_once (V4 a) one other h k = h ∙ sym k
seen_once (V6 a) (V4 x) (V4 y) h k = let same = h.1 ∙ sym k.1 in ap V4 (λ i. record { octets = same i })
seen_once (V6 a) (V4 x) (V6 y) h k = absurd (k.0 h.0)
seen_once (V6 a) (V6 x) (V4 y) h k = absurd (h.0 k.0)
seen_once (V6 a) (V6 x) (V6 y) h k = ap V6 (h.1 ∙ sym k.1)

module _ (list : List ℕ) (host : Option (Bor (List ℕ))) (text : List ℕ) where
  same_lets : (x y : Bool) → DecidesFrom list host text (Ok x) → DecidesFrom list host text (Ok y) → IsTrue x → IsTrue y
  same_lets x y d e lets =
      let same = IsIpText_unique text d.2.0 e.2.0 d.2.1.0 e.2.1.0 in
      e.2.2.1 (subst (λ (a : IpAddr). LetsFrom list (record { address = a; text = text; host = host_of text host })) same (d.2.2.0 lets))

  no_fault : (b : Bool) (f : FromFault) → DecidesFrom list host text (Ok b) → DecidesFrom list host text (Err f) → ⊥
  no_fault b Address d none = none (d.2.0, d.2.1)
  no_fault b Host d fault = fault.1 d.0
  no_fault b Pieces d fault = fault.2 d.1
  no_fault b Memory d none = none

module _ (list : List ℕ) (host : Option (Bor (List ℕ))) (address : IpAddr) where
  at_once : (r q : Result Bool FromFault) → Decides list host address r → Decides list host address q → (text : List ℕ) × DecidesFrom list host text r × DecidesFrom list host text q
  at_once r q d e = (ip_text d.0, d.2, subst (λ (a : IpAddr). DecidesFrom list host (ip_text a) q) (seen_once address e.0 d.0 e.1 d.1) e.2)

  yes_or_no : Decides list host address (Ok true) → Decides list host address (Ok false) → ⊥
  yes_or_no d e = let both = at_once (Ok true) (Ok false) d e in true≢false (sym (same_lets list host both.0 true false both.1 both.2 refl))

  told_or_not : (b : Bool) → Decides list host address (Ok b) → (Decides list host address (Err Address) ⊎ Decides list host address (Err Host) ⊎ Decides list host address (Err Pieces)) → ⊥
  told_or_not b d faults = elim faults [
    | inl x ↦ (let both = at_once (Ok b) (Err Address) d x in no_fault list host both.0 b Address both.1 both.2)
    | inr (inl y) ↦ (let both = at_once (Ok b) (Err Host) d y in no_fault list host both.0 b Host both.1 both.2)
    | inr (inr z) ↦ (let both = at_once (Ok b) (Err Pieces) d z in no_fault list host both.0 b Pieces both.1 both.2)
  ]

-- what is told of a place
pub one_place : (from : Option (List ℕ)) (client : Option IpAddr) (host : Option (Bor (List ℕ))) (a b : Answer) → judged.LetsFrom from client host a → judged.LetsFrom from client host b → a ≡ b
one_place None client host Yes Yes x y = refl
one_place None client host Yes No x y = absurd y
one_place None client host Yes Unclear x y = absurd y
one_place None client host No b x y = absurd x
one_place None client host Unclear b x y = absurd x
one_place (Some list) None host Unclear Unclear x y = refl
one_place (Some list) None host Unclear Yes x y = absurd y
one_place (Some list) None host Unclear No x y = absurd y
one_place (Some list) None host Yes b x y = absurd x
one_place (Some list) None host No b x y = absurd x
one_place (Some list) (Some address) host Yes Yes x y = refl
one_place (Some list) (Some address) host Yes No x y = absurd (yes_or_no list host address x y)
one_place (Some list) (Some address) host Yes Unclear x y = absurd (told_or_not list host address true x y)
one_place (Some list) (Some address) host No Yes x y = absurd (yes_or_no list host address y x)
one_place (Some list) (Some address) host No No x y = refl
one_place (Some list) (Some address) host No Unclear x y = absurd (told_or_not list host address false x y)
one_place (Some list) (Some address) host Unclear Yes x y = absurd (told_or_not list host address true y x)
one_place (Some list) (Some address) host Unclear No x y = absurd (told_or_not list host address false y x)
one_place (Some list) (Some address) host Unclear Unclear x y = refl

-- A host is asked under one name, and under none where something is wrong with it.
use Rattle.std.proofs.Common.{◌≡◌, ◌≢◌, ℕ, List, ap, inl, inr, refl, sym, true≢false, ◌∙◌, ◌^◌, Bool, true, false, cond, not, ◌&&◌, [], ◌∷◌, map, Option, Some, None, arith}
use Rattle.std.proofs.NetLemmas.Theorems.{IsIpText_unique}
use Rattle.std.specs.Net.Text.{ip_text}
use Rattle.sshkey_matching.specs.AskedHosts.{IsAsked, IsAskedFor, IsHostFault, HasOneText, IsTextOf}
use Rattle.sshkey_matching.specs.declared.host.HostFault.{HostFault}
use Rattle.sshkey_matching.specs.declared.host.HostFault.TheVariants.{Address, Empty, Memory, Port}
use Rattle.std.specs.Prelude.{bytes_eq, nat_lt}
use Rattle.std.specs.Bool.{Decides}
use Rattle.std.specs.List.{All}
use Rattle.std.specs.Net.Addr.{ipv6_bits}
use Rattle.std.specs.declared.net.ip_addr.IpAddr.{IpAddr}
use Rattle.std.specs.declared.net.ip_addr.IpAddr.TheVariants.{V4, V6}
use Rattle.std.proofs.lemmas.Bool.Decides.{Decides-and, Decides-not, Decides-ltb}
use Rattle.std.proofs.lemmas.List.Elements.{All-weaker}
use Rattle.std.proofs.lemmas.Option.{none-some, same_Some}
use Rattle.std.proofs.lemmas.Slice.Eq.{bytes_eq-Decides}
use Rattle.sshkey_matching.specs.FromLists.{is_like_address}
use Rattle.sshkey_matching.proofs.Tables.{never, same_each}
use Rattle.sshkey_matching.proofs.TextTests.{address_of, has_address_of, is_address}

one_name : (host name other : List ℕ) → IsAskedFor host name → IsAskedFor host other → name ≡ other
one_name host name other (inl x) (inl y) = x.1 ∙ sym y.1
one_name host name other (inl x) (inr y) = absurd (true≢false (sym y.0 ∙ x.0))
one_name host name other (inr x) (inl y) = absurd (true≢false (sym x.0 ∙ y.0))
one_name host name other (inr x) (inr y) = x.1.text ∙ ap ip_text (IsIpText_unique host x.1.address y.1.address x.1.written y.1.written) ∙ sym y.1.text

pub one_asked : (host : List ℕ) (port : ℕ) (name other : List ℕ) → IsAsked host port name → IsAsked host port other → name ≡ other
one_asked host port name other one two = one_name host name other one.asked two.asked

pub no_fault : (host : List ℕ) (port : ℕ) (name : List ℕ) (f : HostFault) → f ≢ Memory → IsHostFault host port f → IsAsked host port name → ⊥
no_fault host port name Port other fault asked = asked.some_port fault
no_fault host port name Empty other fault asked = asked.some_host fault.1
no_fault host port name Address other fault asked = fault.2 name asked.asked
no_fault host port name Memory other fault asked = other refl

-- Tests that compute under which name a host is asked, for worked examples.

abbrev pub has_one : IpAddr → Bool
has_one (V4 a) = true
has_one (V6 a) = not (nat_lt 1 (ipv6_bits a) && nat_lt (ipv6_bits a) (2 ^ 32))

pub decides_one : (a : IpAddr) → Decides (has_one a) (HasOneText a)
decides_one (V4 a) = (λ e. tt, λ h. refl)
decides_one (V6 a) = Decides-not _ (Decides-and _ _ (Decides-ltb 1 (ipv6_bits a)) (Decides-ltb (ipv6_bits a) (2 ^ 32)))

abbrev pub text_of : Option IpAddr → Option (List ℕ)
text_of None = None
text_of (Some a) = cond (has_one a) (Some (ip_text a)) None

abbrev name_of : Bool → List ℕ → Option (List ℕ)
name_of true host = text_of (address_of host)
name_of false host = Some host

-- the name of a host that is not empty
abbrev pub name_or : Option (List ℕ) → List ℕ → Option (List ℕ)
name_or empty [] = empty
name_or empty (c ∷ host) = name_of (is_like_address (c ∷ host)) (c ∷ host)

by_address : (host name : List ℕ) (a : IpAddr) (one : Bool) → has_one a ≡ one → address_of host ≡ Some a → cond one (Some (ip_text a)) None ≡ Some name → IsTextOf host name
by_address host name a true has was e = record { address = a; written = is_address host a was; one = (decides_one a).0 has; text = sym (same_Some (ip_text a) name e) }
by_address host name a false has was e = absurd (none-some name e)

pub is_text_of : (host name : List ℕ) (o : Option IpAddr) → address_of host ≡ o → text_of o ≡ Some name → IsTextOf host name
is_text_of host name None was e = absurd (none-some name e)
is_text_of host name (Some a) was e = by_address host name a (has_one a) refl was e

pub was_text_of : (host name : List ℕ) → IsTextOf host name → text_of (address_of host) ≡ Some name
was_text_of host name is =
    ap text_of (has_address_of host is.address is.written)
    ∙ ap (λ (b : Bool). cond b (Some (ip_text is.address)) None) ((decides_one is.address).1 is.one)
    ∙ ap (λ (n : List ℕ). Some n) (sym is.text)

asked_for : (host name : List ℕ) (like : Bool) → is_like_address host ≡ like → name_of like host ≡ Some name → IsAskedFor host name
asked_for host name true like e = inr (like, is_text_of host name (address_of host) refl e)
asked_for host name false like e = inl (like, sym (same_Some host name e))

named : (host name : List ℕ) → IsAskedFor host name → name_of (is_like_address host) host ≡ Some name
named host name (inl x) = ap (λ (b : Bool). name_of b host) x.0 ∙ ap (λ (n : List ℕ). Some n) (sym x.1)
named host name (inr x) = ap (λ (b : Bool). name_of b host) x.0 ∙ was_text_of host name x.1

pub is_asked : (host name : List ℕ) → name_or None host ≡ Some name → IsAsked host 22 name
is_asked [] name e = absurd (none-some name e)
is_asked (c ∷ host) name e = record { some_port = λ z. omega (arith, z); some_host = λ z. cc z; asked = asked_for (c ∷ host) name (is_like_address (c ∷ host)) refl e }

was_asked : (host name : List ℕ) (port : ℕ) → IsAsked host port name → name_or None host ≡ Some name
was_asked [] name port is = absurd (is.some_host refl)
was_asked (c ∷ host) name port is = named (c ∷ host) name is.asked

pub not_asked : (host name other : List ℕ) (port : ℕ) → name_or None host ≡ Some name → bytes_eq name other ≡ false → IsAsked host port other → ⊥
not_asked host name other port was e is = never (sym e ∙ (bytes_eq-Decides name other).1 (same_Some name other (sym was ∙ was_asked host other port is)))

pub each_asked : (rows : List (List ℕ × List ℕ)) → map (λ (r : List ℕ × List ℕ). name_or None r.0) rows ≡ map (λ (r : List ℕ × List ℕ). Some r.1) rows → All (λ r. IsAsked r.0 22 r.1) rows
each_asked rows e =
    All-weaker (λ (r : List ℕ × List ℕ). name_or None r.0 ≡ Some r.1) (λ (r : List ℕ × List ℕ). IsAsked r.0 22 r.1) (λ r is. is_asked r.0 r.1 is) rows
    (same_each (λ (r : List ℕ × List ℕ). name_or None r.0) (λ (r : List ℕ × List ℕ). Some r.1) rows e)

has_fault : (host : List ℕ) → name_or (Some []) host ≡ None → IsHostFault host 22 Address
has_fault [] e = absurd (none-some [] (sym e))
has_fault (c ∷ host) e = ((λ z. omega (arith, z)), (λ z. cc z), (λ name is. none-some name (sym e ∙ named (c ∷ host) name is)))

pub each_fault : (hosts : List (List ℕ)) → map (name_or (Some [])) hosts ≡ map (λ (host : List ℕ). None) hosts → All (λ host. IsHostFault host 22 Address) hosts
each_fault hosts e =
    All-weaker (λ (host : List ℕ). name_or (Some []) host ≡ None) (λ (host : List ℕ). IsHostFault host 22 Address) has_fault hosts
    (same_each (name_or (Some [])) (λ (host : List ℕ). None) hosts e)

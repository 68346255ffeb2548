-- Tests that compute where a client may come from, for worked examples.
use Rattle.std.proofs.Common.{◌≡◌, ℕ, suc, ◌≤◌, ◌-◌, ◌/◌, ◌%◌, ◌^◌, Bool, true, false, cond, not, ◌==◌, ◌&&◌, ◌||◌, IsTrue, List, [], ◌∷◌, length, take, drop, slice_index, Option, Some, None, Result, Ok, Err, Bor, refl, sym, ap, subst, ◌∙◌, arith}
use Rattle.std.specs.Prelude.{nat_lt, bytes_eq}
use Rattle.std.specs.Bool.{Decides}
use Rattle.std.specs.Char.{to_ascii_lowercase}
use Rattle.std.specs.List.{list_all, list_any}
use Rattle.std.specs.Net.Addr.{IsIpv4Mapped, ipv6_bits, ipv6_segments, octets_of}
use Rattle.std.specs.Net.Grammar.{IsIpText}
use Rattle.std.specs.declared.net.ip_addr.IpAddr.{IpAddr}
use Rattle.std.specs.declared.net.ip_addr.IpAddr.TheVariants.{V4, V6}
use Rattle.std.specs.declared.net.ipv6_addr.Ipv6Addr.{Ipv6Addr}
use Rattle.std.proofs.NetLemmas.Theorems.{IsIpText_unique}
use Rattle.std.proofs.lemmas.Bool.Decides.{Decides-and, Decides-or, Decides-not, Decides-eqb, Decides-ltb, Decides-like, not_from_Decides, same_from_decides}
use Rattle.std.proofs.lemmas.Option.{none-some}
use Rattle.std.proofs.lemmas.Slice.Eq.{bytes_eq-Decides}
use Rattle.sshkey_matching.specs.Patterns.{exclamation_mark, unmarked}
use Rattle.sshkey_matching.proofs.PatternTests.{decides_all, decides_any, decides_match, matches}
use Rattle.sshkey_matching.specs.FromLists.{Client, DecidesFrom, IsFor, IsFromPiece, IsHostName, IsSeen, LetsFrom, Names, Refuses, host_of, IsPlainPattern, is_like_address, is_pattern_character, is_wild}
use Rattle.sshkey_matching.specs.SourceAddresses.{Covers, IsAmong, IsNetwork, IsSomeNetwork, IsWhole, number, width, ComesFrom, Has, IsLinkLocal, IsNetworks, IsSeenAs, MayComeFrom, pieces}
use Rattle.sshkey_matching.specs.declared.from.FromFault.{FromFault}
use Rattle.sshkey_matching.specs.declared.from.FromFault.TheVariants.{Address, Host, List as Pieces}
use Rattle.sshkey_matching.proofs.Seen.{seen_once}
use Rattle.sshkey_matching.proofs.TextTests.{address_of, has_address_of, is_address, network_of, writes, written}

decides_itself : (b : Bool) → Decides b (IsTrue b)
decides_itself b = (λ e. e, λ e. e)

decides_no : (b : Bool) → Decides (not b) (b ≡ false)
decides_no true = (λ e. sym e, λ e. sym e)
decides_no false = (λ e. refl, λ e. refl)

decides_le : (a b : ℕ) → Decides (nat_lt a (suc b)) (a ≤ b)
decides_le a b = Decides-like (nat_lt a (suc b)) (λ h. omega (arith, h)) (λ h. omega (arith, h)) (Decides-ltb a (suc b))

-- ---- a network

abbrev is_whole : IpAddr → ℕ → Bool
is_whole a n = nat_lt n (suc (width a)) && (number a % 2 ^ (width a - n) == 0)

decides_whole : (a : IpAddr) (n : ℕ) → Decides (is_whole a n) (IsWhole a n)
decides_whole a n = Decides-and _ _ (decides_le n (width a)) (Decides-eqb (number a % 2 ^ (width a - n)) 0)

abbrev is_among : IpAddr → ℕ → IpAddr → Bool
is_among network n address = (width address == width network) && (number address / 2 ^ (width network - n) == number network / 2 ^ (width network - n))

decides_among : (network : IpAddr) (n : ℕ) (address : IpAddr) → Decides (is_among network n address) (IsAmong network n address)
decides_among network n address =
    Decides-like (is_among network n address) (λ h. record { same_width = h.0; same_bits = h.1 }) (λ h. (h.same_width, h.same_bits))
    (Decides-and _ _ (Decides-eqb (width address) (width network)) (Decides-eqb (number address / 2 ^ (width network - n)) (number network / 2 ^ (width network - n))))

-- a network, of which this holds
abbrev passes : (IpAddr → ℕ → Bool) → Option (IpAddr × ℕ) → Bool
passes test None = false
passes test (Some p) = is_whole p.0 p.1 && test p.0 p.1

module _ (text : List ℕ) (test : IpAddr → ℕ → Bool) (P : IpAddr → ℕ → Type 0) (each : (a : IpAddr) (n : ℕ) → Decides (test a n) (P a n)) where
  network_read : (o : Option (IpAddr × ℕ)) → network_of text ≡ o → passes test o ≡ true → (a : IpAddr) × (n : ℕ) × IsNetwork text a n × P a n
  network_read None was e = absurd cc
  network_read (Some p) was e =
      let both = (Decides-and _ _ (decides_whole p.0 p.1) (each p.0 p.1)).0 e in
      (p.0, p.1, record { written = writes text p.0 p.1 was; fits = both.0.0; rest = both.0.1 }, both.1)

  decides_passes : Decides (passes test (network_of text)) ((a : IpAddr) × (n : ℕ) × IsNetwork text a n × P a n)
  decides_passes = (
    network_read (network_of text) refl,
    λ h. ap (passes test) (written text h.0 h.1 h.2.written) ∙ (Decides-and _ _ (decides_whole h.0 h.1) (each h.0 h.1)).1 ((h.2.fits, h.2.rest), h.3),
  )

abbrev is_network : List ℕ → Bool
is_network text = passes (λ a n. true) (network_of text)

decides_network : (text : List ℕ) → Decides (is_network text) (IsSomeNetwork text)
decides_network text =
    Decides-like (is_network text) (λ h. (h.0, h.1, h.2)) (λ h. (h.0, h.1, h.2, tt))
    (decides_passes text (λ a n. true) (λ a n. Unit {0}) (λ a n. (λ e. tt, λ u. refl)))

abbrev covers : List ℕ → IpAddr → Bool
covers text address = passes (λ a n. is_among a n address) (network_of text)

decides_covers : (text : List ℕ) (address : IpAddr) → Decides (covers text address) (Covers text address)
decides_covers text address = decides_passes text (λ a n. is_among a n address) (λ a n. IsAmong a n address) (λ a n. decides_among a n address)

-- ---- source-address

abbrev is_networks : List ℕ → Bool
is_networks list = list_all is_network (pieces list)

pub decides_networks : (list : List ℕ) → Decides (is_networks list) (IsNetworks list)
decides_networks list = decides_all is_network IsSomeNetwork decides_network (pieces list)

abbrev mapped : List ℕ
mapped = 0 ∷ 0 ∷ 0 ∷ 0 ∷ 0 ∷ 0xffff ∷ []

abbrev is_mapped : Ipv6Addr → Bool
is_mapped a = bytes_eq (take 6 (ipv6_segments a)) mapped

decides_mapped : (a : Ipv6Addr) → Decides (is_mapped a) (IsIpv4Mapped (ipv6_segments a))
decides_mapped a = bytes_eq-Decides (take 6 (ipv6_segments a)) mapped

abbrev pub seen_of : IpAddr → IpAddr
seen_of (V4 a) = V4 a
seen_of (V6 a) = cond (is_mapped a) (V4 (record { octets = octets_of (drop 6 (ipv6_segments a)) })) (V6 a)

seen_by : (a : Ipv6Addr) (b : Bool) → is_mapped a ≡ b → IsSeenAs (V6 a) (cond b (V4 (record { octets = octets_of (drop 6 (ipv6_segments a)) })) (V6 a))
seen_by a true e = ((decides_mapped a).0 e, refl)
seen_by a false e = (not_from_Decides (is_mapped a) (decides_mapped a) e, refl)

pub is_seen_as : (a : IpAddr) → IsSeenAs a (seen_of a)
is_seen_as (V4 a) = refl
is_seen_as (V6 a) = seen_by a (is_mapped a) refl

abbrev is_link : IpAddr → Bool
is_link (V4 a) = false
is_link (V6 a) = nat_lt 0xfe80 (suc (slice_index (ipv6_segments a) 0)) && nat_lt (slice_index (ipv6_segments a) 0) (suc 0xfebf)

decides_link : (a : IpAddr) → Decides (is_link a) (IsLinkLocal a)
decides_link (V4 a) = (λ e. absurd cc, λ h. absurd h)
decides_link (V6 a) = Decides-and _ _ (decides_le 0xfe80 (slice_index (ipv6_segments a) 0)) (decides_le (slice_index (ipv6_segments a) 0) 0xfebf)

abbrev comes_from : List ℕ → IpAddr → Bool
comes_from list address = not (is_link (seen_of address)) && list_any (λ piece. covers piece (seen_of address)) (pieces list)

pub decides_from : (list : List ℕ) (address : IpAddr) → Decides (comes_from list address) (ComesFrom list address)
decides_from list address =
    Decides-like (comes_from list address) (λ h. record { seen = seen_of address; is = is_seen_as address; wide = h.0; has = h.1 })
    (λ c. let same = seen_once address c.seen (seen_of address) c.is (is_seen_as address) in (λ l. c.wide (subst IsLinkLocal (sym same) l), subst (Has list) same c.has))
    (Decides-and _ _ (Decides-not _ (decides_link (seen_of address))) (decides_any (λ piece. covers piece (seen_of address)) (λ piece. Covers piece (seen_of address)) (λ piece. decides_covers piece (seen_of address)) (pieces list)))

abbrev pub may_come_from : Option (Bor (List ℕ)) → IpAddr → Bool
may_come_from None address = true
may_come_from (Some list) address = is_networks list.now && comes_from list.now address

pub decides_may_come : (list : Option (Bor (List ℕ))) (address : IpAddr) → Decides (may_come_from list address) (MayComeFrom list address)
decides_may_come None address = (λ e. tt, λ h. refl)
decides_may_come (Some list) address = Decides-and _ _ (decides_networks list.now) (decides_from list.now address)

-- ---- from

abbrev is_plain : List ℕ → Bool
is_plain text = (nat_lt 0 (length text) && nat_lt (length text) 1023) && (list_all is_pattern_character text && (is_wild text || not (is_like_address text)))

decides_plain : (text : List ℕ) → Decides (is_plain text) (IsPlainPattern text)
decides_plain text =
    Decides-like (is_plain text) (λ h. record { some = h.0.0; short = h.0.1; characters = h.1.0; no_address = h.1.1 }) (λ p. ((p.some, p.short), (p.characters, p.no_address)))
    (Decides-and _ _ (Decides-and _ _ (Decides-ltb 0 (length text)) (Decides-ltb (length text) 1023)) (Decides-and _ _ (decides_itself (list_all is_pattern_character text)) (decides_itself (is_wild text || not (is_like_address text)))))

abbrev is_from_piece : List ℕ → Bool
is_from_piece piece = is_network (unmarked piece) || is_plain (unmarked piece)

decides_piece : (piece : List ℕ) → Decides (is_from_piece piece) (IsFromPiece piece)
decides_piece piece = Decides-or _ _ (decides_network (unmarked piece)) (decides_plain (unmarked piece))

abbrev is_for : Client → List ℕ → Bool
is_for c pattern = covers pattern c.address || (matches (λ x. x) pattern c.text || matches to_ascii_lowercase pattern c.host)

decides_for : (c : Client) (pattern : List ℕ) → Decides (is_for c pattern) (IsFor c pattern)
decides_for c pattern = Decides-or _ _ (decides_covers pattern c.address) (Decides-or _ _ (decides_match (λ x. x) pattern c.text) (decides_match to_ascii_lowercase pattern c.host))

abbrev names : Client → List ℕ → Bool
names c piece = not (slice_index piece 0 == exclamation_mark) && is_for c piece

abbrev refuses : Client → List ℕ → Bool
refuses c piece = (slice_index piece 0 == exclamation_mark) && is_for c (unmarked piece)

abbrev lets_from : List ℕ → Client → Bool
lets_from list c = list_any (names c) (pieces list) && not (list_any (refuses c) (pieces list))

decides_lets : (list : List ℕ) (c : Client) → Decides (lets_from list c) (LetsFrom list c)
decides_lets list c =
    Decides-like (lets_from list c) (λ h. record { named = h.0; unrefused = h.1 }) (λ l. (l.named, l.unrefused))
    (Decides-and _ _ (decides_any (names c) (Names c) (λ p. Decides-and _ _ (Decides-not _ (Decides-eqb (slice_index p 0) exclamation_mark)) (decides_for c p)) (pieces list))
    (Decides-not _ (decides_any (refuses c) (Refuses c) (λ p. Decides-and _ _ (Decides-eqb (slice_index p 0) exclamation_mark) (decides_for c (unmarked p))) (pieces list))))

abbrev is_seen : IpAddr → Bool
is_seen (V4 a) = true
is_seen (V6 a) = not (is_mapped a) && (not (is_link (V6 a)) && not (nat_lt 1 (ipv6_bits a) && nat_lt (ipv6_bits a) (2 ^ 32)))

decides_seen : (a : IpAddr) → Decides (is_seen a) (IsSeen a)
decides_seen (V4 a) = (λ e. tt, λ h. refl)
decides_seen (V6 a) =
    Decides-like (is_seen (V6 a)) (λ h. (h.0, h.1.0, h.1.1)) (λ h. (h.0, (h.1, h.2)))
    (Decides-and _ _ (Decides-not _ (decides_mapped a)) (Decides-and _ _ (Decides-not _ (decides_link (V6 a))) (Decides-not _ (Decides-and _ _ (Decides-ltb 1 (ipv6_bits a)) (Decides-ltb (ipv6_bits a) (2 ^ 32))))))

abbrev is_host : Option (Bor (List ℕ)) → Bool
is_host None = true
is_host (Some host) = not (is_like_address host.now)

decides_host : (host : Option (Bor (List ℕ))) → Decides (is_host host) (IsHostName host)
decides_host None = (λ e. tt, λ h. refl)
decides_host (Some host) = decides_no (is_like_address host.now)

module _ (list : List ℕ) (host : Option (Bor (List ℕ))) (text : List ℕ) where
  abbrev client_at : IpAddr → Client
  client_at a = record { address = a; text = text; host = host_of text host }

  abbrev answer_by : IpAddr → Bool → Bool → Bool → Result Bool FromFault
  answer_by a seen named formed = cond seen (cond named (cond formed (Ok (lets_from list (client_at a))) (Err Pieces)) (Err Host)) (Err Address)

  abbrev answer_at : Option IpAddr → Result Bool FromFault
  answer_at None = Err Address
  answer_at (Some a) = answer_by a (is_seen a) (is_host host) (list_all is_from_piece (pieces list))

  abbrev pub from_answer : Result Bool FromFault
  from_answer = answer_at (address_of text)

  decided_by : (a : IpAddr) (seen named formed : Bool) → IsIpText text a → is_seen a ≡ seen → is_host host ≡ named → list_all is_from_piece (pieces list) ≡ formed → DecidesFrom list host text (answer_by a seen named formed)
  decided_by a false named formed h e f g = λ s. not_from_Decides (is_seen a) (decides_seen a) e (subst IsSeen (IsIpText_unique text s.0 a s.1.0 h) s.1.1)
  decided_by a true false formed h e f g = ((a, (h, (decides_seen a).0 e)), not_from_Decides (is_host host) (decides_host host) f)
  decided_by a true true false h e f g = ((a, (h, (decides_seen a).0 e)), (decides_host host).0 f, not_from_Decides (list_all is_from_piece (pieces list)) (decides_all is_from_piece IsFromPiece decides_piece (pieces list)) g)
  decided_by a true true true h e f g = ((decides_host host).0 f, (decides_all is_from_piece IsFromPiece decides_piece (pieces list)).0 g, (a, (h, (decides_seen a).0 e), decides_lets list (client_at a)))

  decided_at : (o : Option IpAddr) → address_of text ≡ o → DecidesFrom list host text (answer_at o)
  decided_at None was = λ s. none-some s.0 (sym was ∙ has_address_of text s.0 s.1.0)
  decided_at (Some a) was = decided_by a (is_seen a) (is_host host) (list_all is_from_piece (pieces list)) (is_address text a was) refl refl refl

  pub decided : DecidesFrom list host text from_answer
  decided = decided_at (address_of text) refl

  abbrev said : Bool → Result Bool FromFault
  said lets = Ok lets

  -- and nothing else
  pub only : (lets : Bool) → DecidesFrom list host text (said lets) → from_answer ≡ said lets
  only lets d =
      let a = d.2.0 in
      ap answer_at (has_address_of text a d.2.1.0)
      ∙ ap (λ (b : Bool). answer_by a b (is_host host) (list_all is_from_piece (pieces list))) ((decides_seen a).1 d.2.1.1)
      ∙ ap (λ (b : Bool). answer_by a true b (list_all is_from_piece (pieces list))) ((decides_host host).1 d.0)
      ∙ ap (λ (b : Bool). answer_by a true true b) ((decides_all is_from_piece IsFromPiece decides_piece (pieces list)).1 d.1)
      ∙ ap said (same_from_decides (lets_from list (client_at a)) lets (decides_lets list (client_at a)) d.2.2)

-- Tests that compute which address or network a text is, for worked examples.
use Rattle.std.proofs.Common.{◌≡◌, ℕ, ◌≤◌, Bool, true, false, cond, ◌==◌, ◌&&◌, List, [], ◌∷◌, ◌++◌, Option, Some, None, length, codes, inl, inr, refl, sym, ap, subst, ◌∙◌, arith, lit≤, append_assoc, ne_eqb, eqb-true, append-nil}
use Rattle.std.specs.Prelude.{nat_lt, option_map}
use Rattle.std.specs.Bool.{Decides}
use Rattle.std.specs.Char.{digit_value}
use Rattle.std.specs.List.{All}
use Rattle.std.specs.Net.Grammar.{IsColonHex, IsDotted, IsIpText}
use Rattle.std.specs.Net.Reader.{read_ipv4, read_ipv6}
use Rattle.std.specs.Str.Parse.{AllDigits, IsNumeral, digits_value}
use Rattle.std.specs.declared.net.ip_addr.IpAddr.{IpAddr}
use Rattle.std.specs.declared.net.ip_addr.IpAddr.TheVariants.{V4, V6}
use Rattle.std.proofs.NetLemmas.Ipv4.{read_ipv4_complete, read_ipv4_sound}
use Rattle.std.proofs.NetLemmas.Ipv6.{read_ipv6_complete, read_ipv6_sound, EndsGroups-nil, IsDotted-not_colon_hex}
use Rattle.std.proofs.lemmas.Bool.Decides.{Decides-and, Decides-ltb, Decides-like}
use Rattle.std.proofs.lemmas.List.Elements.{All-head, All-tail}
use Rattle.std.proofs.lemmas.Option.{none-some, same_Some}
use Rattle.sshkey_matching.specs.SourceAddresses.{width, WritesNetwork}
use Rattle.sshkey_matching.proofs.AddressTexts.{IsNoSlash, address_free}

-- ---- an address

-- what was read, if no text is left
abbrev whole : {A : Type 0} → Option (A × List ℕ) → Option A
whole None = None
whole (Some (a, [])) = Some a
whole (Some (a, c ∷ rest)) = None

read_whole : {A : Type 0} (r : Option (A × List ℕ)) (a : A) → whole r ≡ Some a → r ≡ Some (a, [])
read_whole None a e = absurd (none-some a e)
read_whole (Some (b, [])) a e = ap (λ x. Some (x, [])) (same_Some b a e)
read_whole (Some (b, c ∷ rest)) a e = absurd (none-some a e)

abbrev dotted_or : Option (List ℕ) → Option (List ℕ) → Option IpAddr
dotted_or (Some octets) segments = Some (V4 (record { octets = octets }))
dotted_or None (Some segments) = Some (V6 (record { segments = segments }))
dotted_or None None = None

abbrev pub address_of : List ℕ → Option IpAddr
address_of text = dotted_or (whole (read_ipv4 text)) (whole (read_ipv6 text))

dotted : (text octets : List ℕ) → whole (read_ipv4 text) ≡ Some octets → IsDotted text octets
dotted text octets e = let s = read_ipv4_sound text octets [] (read_whole (read_ipv4 text) octets e) in subst (λ (t : List ℕ). IsDotted t octets) (sym (s.1 ∙ append-nil s.0)) s.2

colon_hex : (text segments : List ℕ) → whole (read_ipv6 text) ≡ Some segments → IsColonHex text segments
colon_hex text segments e = let s = read_ipv6_sound text segments [] (read_whole (read_ipv6 text) segments e) in subst (λ (t : List ℕ). IsColonHex t segments) (sym (s.1 ∙ append-nil s.0)) s.2

was_dotted : (text octets : List ℕ) → IsDotted text octets → whole (read_ipv4 text) ≡ Some octets
was_dotted text octets h = ap (λ (t : List ℕ). whole (read_ipv4 t)) (sym (append-nil text)) ∙ ap whole (read_ipv4_complete text octets [] h (lit≤ tt))

was_colon_hex : (text segments : List ℕ) → IsColonHex text segments → whole (read_ipv6 text) ≡ Some segments
was_colon_hex text segments h = ap (λ (t : List ℕ). whole (read_ipv6 t)) (sym (append-nil text)) ∙ ap whole (read_ipv6_complete text segments [] h EndsGroups-nil)

found : (text : List ℕ) (four six : Option (List ℕ)) (a : IpAddr) → whole (read_ipv4 text) ≡ four → whole (read_ipv6 text) ≡ six → dotted_or four six ≡ Some a → IsIpText text a
found text (Some octets) six a e f is = subst (IsIpText text) (same_Some _ a is) (dotted text octets e)
found text None (Some segments) a e f is = subst (IsIpText text) (same_Some _ a is) (colon_hex text segments f)
found text None None a e f is = absurd (none-some a is)

pub is_address : (text : List ℕ) (a : IpAddr) → address_of text ≡ Some a → IsIpText text a
is_address text a is = found text (whole (read_ipv4 text)) (whole (read_ipv6 text)) a refl refl is

not_dotted : (text segments : List ℕ) (four : Option (List ℕ)) → whole (read_ipv4 text) ≡ four → IsColonHex text segments → four ≡ None
not_dotted text segments None e h = refl
not_dotted text segments (Some octets) e h = absurd (IsDotted-not_colon_hex text octets segments (dotted text octets e) h)

pub has_address_of : (text : List ℕ) (a : IpAddr) → IsIpText text a → address_of text ≡ Some a
has_address_of text (V4 a) h = ap (λ (o : Option (List ℕ)). dotted_or o (whole (read_ipv6 text))) (was_dotted text a.octets h)
has_address_of text (V6 a) h =
    ap (λ (o : Option (List ℕ)). dotted_or o (whole (read_ipv6 text))) (not_dotted text a.segments (whole (read_ipv4 text)) refl h)
    ∙ ap (λ (o : Option (List ℕ)). dotted_or None o) (was_colon_hex text a.segments h)

-- ---- a slash

abbrev onto : ℕ → List ℕ × List ℕ → List ℕ × List ℕ
onto c p = (c ∷ p.0, p.1)

-- what stands before the first slash, and after it
abbrev before_and_after : List ℕ → Option (List ℕ × List ℕ)
before_and_after [] = None
before_and_after (c ∷ text) = cond (c == 0x2f) (Some ([], text)) (option_map (onto c) (before_and_after text))

cut_at : (front digits : List ℕ) → All IsNoSlash front → before_and_after (front ++ (0x2f ∷ digits)) ≡ Some (front, digits)
cut_at [] digits free = refl
cut_at (c ∷ front) digits free =
    ap (λ (b : Bool). cond b (Some ([], front ++ (0x2f ∷ digits))) (option_map (onto c) (before_and_after (front ++ (0x2f ∷ digits))))) (ne_eqb c 0x2f (All-head IsNoSlash c front free))
    ∙ ap (option_map (onto c)) (cut_at front digits (All-tail IsNoSlash c front free))

uncut : (text : List ℕ) → All IsNoSlash text → before_and_after text ≡ None
uncut [] free = refl
uncut (c ∷ text) free =
    ap (λ (b : Bool). cond b (Some ([], text)) (option_map (onto c) (before_and_after text))) (ne_eqb c 0x2f (All-head IsNoSlash c text free))
    ∙ ap (option_map (onto c)) (uncut text (All-tail IsNoSlash c text free))

joined_more : (c : ℕ) (text front digits : List ℕ) (o : Option (List ℕ × List ℕ)) → ((p : List ℕ × List ℕ) → o ≡ Some p → text ≡ p.0 ++ (0x2f ∷ p.1)) → option_map (onto c) o ≡ Some (front, digits) → c ∷ text ≡ front ++ (0x2f ∷ digits)
joined_more c text front digits None rest is = absurd (none-some _ is)
joined_more c text front digits (Some p) rest is = ap (λ (l : List ℕ). c ∷ l) (rest p refl) ∙ ap (λ (q : List ℕ × List ℕ). q.0 ++ (0x2f ∷ q.1)) (same_Some (onto c p) (front, digits) is)

joined_first : (c : ℕ) (text front digits : List ℕ) (b : Bool) → (c == 0x2f) ≡ b → ((p : List ℕ × List ℕ) → before_and_after text ≡ Some p → text ≡ p.0 ++ (0x2f ∷ p.1)) → cond b (Some ([], text)) (option_map (onto c) (before_and_after text)) ≡ Some (front, digits) → c ∷ text ≡ front ++ (0x2f ∷ digits)
joined_first c text front digits true slash rest is = ap (λ (x : ℕ). x ∷ text) (eqb-true c 0x2f slash) ∙ ap (λ (q : List ℕ × List ℕ). q.0 ++ (0x2f ∷ q.1)) (same_Some ([], text) (front, digits) is)
joined_first c text front digits false other rest is = joined_more c text front digits (before_and_after text) rest is

joined : (text : List ℕ) (p : List ℕ × List ℕ) → before_and_after text ≡ Some p → text ≡ p.0 ++ (0x2f ∷ p.1)
joined [] p e = absurd (none-some p e)
joined (c ∷ text) p e = joined_first c text p.0 p.1 (c == 0x2f) refl (joined text) e

-- ---- a network

abbrev all_digits : List ℕ → Bool
all_digits [] = true
all_digits (c ∷ cs) = nat_lt (digit_value c) 10 && all_digits cs

decides_digits : (cs : List ℕ) → Decides (all_digits cs) (AllDigits 10 cs)
decides_digits [] = (λ e. tt, λ h. refl)
decides_digits (c ∷ cs) = Decides-and _ _ (Decides-ltb (digit_value c) 10) (decides_digits cs)

abbrev is_count : List ℕ → Bool
is_count digits = (nat_lt 0 (length digits) && all_digits digits) && nat_lt (length digits) 4

decides_count : (digits : List ℕ) → Decides (is_count digits) (IsNumeral 10 digits × (length digits ≤ 3))
decides_count digits =
    Decides-and _ _ (Decides-and _ _ (Decides-ltb 0 (length digits)) (decides_digits digits))
    (Decides-like (nat_lt (length digits) 4) (λ h. omega (arith, h)) (λ h. omega (arith, h)) (Decides-ltb (length digits) 4))

abbrev counting : (IpAddr → ℕ) → IpAddr → IpAddr × ℕ
counting f a = (a, f a)

abbrev counted_in : Option (List ℕ × List ℕ) → List ℕ → Option (IpAddr × ℕ)
counted_in None text = option_map (counting width) (address_of text)
counted_in (Some p) text = cond (is_count p.1) (option_map (counting (λ a. digits_value 10 p.1)) (address_of p.0)) None

-- the address and how many of its bits count
abbrev pub network_of : List ℕ → Option (IpAddr × ℕ)
network_of text = counted_in (before_and_after text) text

with : (text : List ℕ) (o : Option IpAddr) (f : IpAddr → ℕ) (a : IpAddr) (n : ℕ) → address_of text ≡ o → option_map (counting f) o ≡ Some (a, n) → IsIpText text a × (n ≡ f a)
with text None f a n was e = absurd (none-some _ e)
with text (Some b) f a n was e =
    let same = same_Some _ _ e in
    let address : b ≡ a = ap (λ p. p.0) same in
    (is_address text a (was ∙ ap Some address), sym (ap (λ p. p.1) same) ∙ ap f address)

writes_digits : (text front digits : List ℕ) (a : IpAddr) (n : ℕ) (b : Bool) → text ≡ front ++ (0x2f ∷ digits) → is_count digits ≡ b → cond b (option_map (counting (λ x. digits_value 10 digits)) (address_of front)) None ≡ Some (a, n) → WritesNetwork text a n
writes_digits text front digits a n false split judged is = absurd (none-some _ is)
writes_digits text front digits a n true split judged is =
    let count = (decides_count digits).0 judged in
    let read = with front (address_of front) (λ x. digits_value 10 digits) a n refl is in
    inr (front, digits, split ∙ sym (append_assoc front (codes "/") digits), read.0, (count.0, sym read.1), count.1)

writes_cut : (text : List ℕ) (a : IpAddr) (n : ℕ) (o : Option (List ℕ × List ℕ)) → before_and_after text ≡ o → counted_in o text ≡ Some (a, n) → WritesNetwork text a n
writes_cut text a n None none is = inl (with text (address_of text) width a n refl is)
writes_cut text a n (Some p) some is = writes_digits text p.0 p.1 a n (is_count p.1) (joined text p some) refl is

pub writes : (text : List ℕ) (a : IpAddr) (n : ℕ) → network_of text ≡ Some (a, n) → WritesNetwork text a n
writes text a n e = writes_cut text a n (before_and_after text) refl e

pub written : (text : List ℕ) (a : IpAddr) (n : ℕ) → WritesNetwork text a n → network_of text ≡ Some (a, n)
written text a n (inl h) =
    ap (λ (o : Option (List ℕ × List ℕ)). counted_in o text) (uncut text (address_free text a h.0))
    ∙ ap (option_map (counting width)) (has_address_of text a h.0)
    ∙ ap (λ (m : ℕ). Some (a, m)) (sym h.1)
written text a n (inr h) =
    let cut : before_and_after text ≡ Some (h.0, h.1) = ap before_and_after (h.2 ∙ append_assoc h.0 (codes "/") h.1) ∙ cut_at h.0 h.1 (address_free h.0 a h.3) in
    ap (λ (o : Option (List ℕ × List ℕ)). counted_in o text) cut
    ∙ ap (λ (b : Bool). cond b (option_map (counting (λ a. digits_value 10 h.1)) (address_of h.0)) None) ((decides_count h.1).1 (h.4.0, h.5))
    ∙ ap (option_map (counting (λ a. digits_value 10 h.1))) (has_address_of h.0 a h.3)
    ∙ ap (λ (m : ℕ). Some (a, m)) h.4.1

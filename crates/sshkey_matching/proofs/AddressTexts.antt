-- No text of an address has a slash, and a text is one network at most.
use Rattle.std.proofs.Common.{◌≡◌, ◌≢◌, ◌<◌, ◌≤◌, ◌+◌, ◌^◌, ◌↔◌, ℕ, Bool, IsTrue, true, false, List, [], ◌∷◌, ◌++◌, Option, Some, None, Bor, MatchOption, length, get_or, drop, codes, decimal, ne_eqb, ◌==◌, inl, inr, refl, sym, ap, subst, ◌∙◌, arith, lit<, lit≤, append_assoc, length-append}
use Rattle.std.specs.List.{All, slice_split}
use Rattle.std.specs.Str.Parse.{AllDigits, digits_value}
use Rattle.std.specs.Char.{digit_value}
use Rattle.std.specs.Net.Grammar.{IsIpText, IsDotted, IsNumber, IsGroupsAfter, IsColonHex, IsElided}
use Rattle.std.specs.declared.net.ip_addr.IpAddr.{IpAddr}
use Rattle.std.specs.declared.net.ip_addr.IpAddr.TheVariants.{V4, V6}
use Rattle.std.proofs.lemmas.List.Elements.{All-nil, All-cons, All-append}
use Rattle.std.proofs.lemmas.Fmt.{decimal_is_IsNumeral}
use Rattle.std.proofs.Math.Seq.{get_or-append_seam, drop-append-add}
use Rattle.std.proofs.lemmas.List.Splits.{slice_split_at}
use Rattle.std.proofs.lemmas.Str.Pattern.{IsSplitOnceResult, split_after, split_parts}
use Rattle.std.proofs.NetLemmas.Theorems.{IsIpText_unique}
use Rattle.sshkey_matching.specs.SourceAddresses.{width, WritesNetwork, IsWhole, IsNetwork, IsSomeNetwork, IsAmong, Covers}

abbrev pub IsNoSlash : ℕ → Type 0
IsNoSlash c = c ≢ 47

-- ---- no slash

-- the value of a slash as a digit is 36
no_digit : (radix c : ℕ) → radix ≤ 16 → digit_value c < radix → IsNoSlash c
no_digit radix c small l e = let big : digit_value c ≡ 36 = ap digit_value e in omega (arith, small, l, big)

digits_free : (radix : ℕ) (ds : List ℕ) → radix ≤ 16 → AllDigits radix ds → All IsNoSlash ds
digits_free radix [] small all = All-nil IsNoSlash
digits_free radix (c ∷ cs) small all = All-cons IsNoSlash c cs (no_digit radix c small all.0) (digits_free radix cs small all.1)

decimal_free : (n : ℕ) → n < 256 → All IsNoSlash (decimal n)
decimal_free n l = digits_free 10 (decimal n) (lit≤ tt) (decimal_is_IsNumeral n (omega (arith, l))).0.1

joined : (xs ys : List ℕ) → All IsNoSlash xs → All IsNoSlash ys → All IsNoSlash (xs ++ ys)
joined xs ys h k = All-append IsNoSlash xs ys h k

one : (c : ℕ) → IsNoSlash c → All IsNoSlash (c ∷ [])
one c h = All-cons IsNoSlash c [] h (All-nil IsNoSlash)

dot : All IsNoSlash (codes ".")
dot = one 46 (λ e. omega (arith, e))

colon : All IsNoSlash (codes ":")
colon = one 58 (λ e. omega (arith, e))

colons : All IsNoSlash (codes "::")
colons = joined (58 ∷ []) (58 ∷ []) colon colon

dotted_free : (text octets : List ℕ) → IsDotted text octets → All IsNoSlash text
dotted_free text octets h =
    let two = joined _ _ (joined _ _ (decimal_free h.a h.fit.0) dot) (decimal_free h.b h.fit.1) in
    let three = joined _ _ (joined _ _ two dot) (decimal_free h.c h.fit.2) in
    let four = joined _ _ (joined _ _ three dot) (decimal_free h.d h.fit.3) in
    subst (All IsNoSlash) (sym h.spelled) four

groups_free : (ipv4 : Bool) (lead text segments : List ℕ) → All IsNoSlash lead → IsGroupsAfter ipv4 lead text segments → All IsNoSlash text
groups_free ipv4 lead text [] free h = subst (All IsNoSlash) (sym h) (All-nil IsNoSlash)
groups_free ipv4 lead text (s ∷ segments) free (inl h) =
    subst (All IsNoSlash) (sym h.2) (joined _ _ (joined _ _ free (digits_free 16 h.0 (lit≤ tt) h.3.0.0.1)) (groups_free ipv4 (codes ":") h.1 segments colon h.4))
groups_free ipv4 lead text (s ∷ segments) free (inr h) = subst (All IsNoSlash) (sym h.3) (joined _ _ free (dotted_free h.0 h.1 h.4))

elided_free : (text segments : List ℕ) → IsElided text segments → All IsNoSlash text
elided_free text segments h =
    let front = joined _ _ (groups_free false [] h.head_text h.head (All-nil IsNoSlash) h.head_groups) colons in
    subst (All IsNoSlash) (sym h.spelled) (joined _ _ front (groups_free true [] h.tail_text h.tail (All-nil IsNoSlash) h.tail_groups))

colon_hex_free : (text segments : List ℕ) → IsColonHex text segments → All IsNoSlash text
colon_hex_free text segments (inl h) = groups_free true [] text segments (All-nil IsNoSlash) h.0
colon_hex_free text segments (inr h) = elided_free text segments h

pub address_free : (text : List ℕ) (a : IpAddr) → IsIpText text a → All IsNoSlash text
address_free text (V4 a) h = dotted_free text _ h
address_free text (V6 a) h = colon_hex_free text _ h

-- no byte of it is a slash
pub no_slash : (text : List ℕ) (a : IpAddr) → IsIpText text a → (i : ℕ) → i < length text → get_or text i 0 ≢ 47
no_slash text a h i l = address_free text a h i 0 l

-- ---- one network

-- what stands before the slash and after it
pub split_written : (front digits text : List ℕ) (a : IpAddr) (r : Option (Bor (List ℕ) × Bor (List ℕ))) → IsSplitOnceResult 47 text r → text ≡ front ++ codes "/" ++ digits → IsIpText front a → MatchOption r ⊥ (λ x. (x.0.now ≡ front) × (x.1.now ≡ digits))
split_written front digits text a r cut is h = split_after 47 text front digits r cut (lit< tt) (is ∙ append_assoc front (codes "/") digits) (no_slash front a h)

-- an address alone has no slash to split at
pub split_alone : (text : List ℕ) (a : IpAddr) (x : Bor (List ℕ) × Bor (List ℕ)) → IsSplitOnceResult 47 text (Some x) → IsIpText text a → ⊥
split_alone text a x cut h =
    let parts = split_parts 47 text (Some x) cut (lit< tt) in
    no_slash text a h (length x.0.now) (omega (arith, ap length parts.0, length-append x.0.now (47 ∷ x.1.now))) (ap (λ l. get_or l (length x.0.now) 0) parts.0 ∙ get_or-append_seam x.0.now 47 x.1.now 0)

slash_in : (front digits text : List ℕ) (a : IpAddr) → text ≡ front ++ codes "/" ++ digits → IsIpText text a → ⊥
slash_in front digits text a is h =
    let cut : text ≡ front ++ (47 ∷ digits) = is ∙ append_assoc front (codes "/") digits in
    no_slash text a h (length front) (omega (arith, ap length cut, length-append front (47 ∷ digits))) (ap (λ l. get_or l (length front) 0) cut ∙ get_or-append_seam front 47 digits 0)

abbrev is_slash : ℕ → Bool
is_slash c = c == 47

unslashed : (text : List ℕ) → All IsNoSlash text → All (λ c. is_slash c ≡ false) text
unslashed text free k d l = ne_eqb _ 47 (free k d l)

-- the part before the slash is the first piece between slashes
front_piece : (front digits text : List ℕ) (a : IpAddr) → text ≡ front ++ codes "/" ++ digits → IsIpText front a → slice_split is_slash text ≡ front ∷ slice_split is_slash digits
front_piece front digits text a is h =
    ap (slice_split is_slash) (is ∙ append_assoc front (codes "/") digits) ∙ slice_split_at is_slash front 47 digits (unslashed front (address_free front a h)) refl

same_fronts : (text front other digits others : List ℕ) (a b : IpAddr) → text ≡ front ++ codes "/" ++ digits → text ≡ other ++ codes "/" ++ others → IsIpText front a → IsIpText other b → front ≡ other
same_fronts text front other digits others a b is was h k = ap (λ l. get_or l 0 []) (sym (front_piece front digits text a is h) ∙ front_piece other others text b was k)

after_slash : (front digits text : List ℕ) → text ≡ front ++ codes "/" ++ digits → digits ≡ drop (length front + 1) text
after_slash front digits text is = sym (ap (drop (length front + 1)) (is ∙ append_assoc front (codes "/") digits) ∙ drop-append-add front (47 ∷ digits) 1)

pub one_network : (text : List ℕ) (a b : IpAddr) (m n : ℕ) → WritesNetwork text a m → WritesNetwork text b n → (a ≡ b) × (m ≡ n)
one_network text a b m n (inl h) (inl k) = let same = IsIpText_unique text a b h.0 k.0 in (same, h.1 ∙ ap width same ∙ sym k.1)
one_network text a b m n (inl h) (inr k) = absurd (slash_in k.0 k.1 text a k.2 h.0)
one_network text a b m n (inr h) (inl k) = absurd (slash_in h.0 h.1 text b h.2 k.0)
one_network text a b m n (inr h) (inr k) =
    let front = same_fronts text h.0 k.0 h.1 k.1 a b h.2 k.2 h.3 k.3 in
    let digits : h.1 ≡ k.1 = after_slash h.0 h.1 text h.2 ∙ ap (λ (l : List ℕ). drop (length l + 1) text) front ∙ sym (after_slash k.0 k.1 text k.2) in
    (IsIpText_unique k.0 a b (subst (λ (l : List ℕ). IsIpText l a) front h.3) k.3, sym h.4.1 ∙ ap (digits_value 10) digits ∙ k.4.1)

-- ---- no network

width_small : (a : IpAddr) → width a ≤ 128
width_small (V4 a) = lit≤ tt
width_small (V6 a) = lit≤ tt

-- without a slash the text is an address, or none
pub none_alone : (text : List ℕ) → ((a : IpAddr) → ¬ IsIpText text a) → IsSplitOnceResult 47 text None → (a : IpAddr) (n : ℕ) → WritesNetwork text a n → ⊥
none_alone text unread cut a n (inl h) = unread a h.0
none_alone text unread cut a n (inr h) = split_written h.0 h.1 text a None cut h.2 h.3

module _ (text : List ℕ) (x : Bor (List ℕ) × Bor (List ℕ)) (cut : IsSplitOnceResult 47 text (Some x)) where
  pub none_front : ((a : IpAddr) → ¬ IsIpText x.0.now a) → (a : IpAddr) (n : ℕ) → WritesNetwork text a n → ⊥
  none_front unread a n (inl h) = split_alone text a x cut h.0
  none_front unread a n (inr h) = let same = split_written h.0 h.1 text a (Some x) cut h.2 h.3 in unread a (subst (λ (l : List ℕ). IsIpText l a) (sym same.0) h.3)

  pub none_digits : ((n : ℕ) → IsNumber 10 x.1.now n → length x.1.now ≤ 3 → n < 2 ^ 32 → ⊥) → (a : IpAddr) (n : ℕ) → WritesNetwork text a n → n ≤ width a → ⊥
  none_digits unread a n (inl h) le = split_alone text a x cut h.0
  none_digits unread a n (inr h) le =
      let same = split_written h.0 h.1 text a (Some x) cut h.2 h.3 in
      unread n (subst (λ (l : List ℕ). IsNumber 10 l n) (sym same.1) h.4) (subst (λ (l : List ℕ). length l ≤ 3) (sym same.1) h.5) (omega (arith, le, width_small a))

module _ (text : List ℕ) (b : IpAddr) (n : ℕ) where
  pub none_whole : WritesNetwork text b n → (IsWhole b n → ⊥) → IsSomeNetwork text → ⊥
  none_whole written un s =
      let same = one_network text s.0 b s.1 n s.2.written written in
      un (subst (λ (k : ℕ). IsWhole b k) same.1 (subst (λ (x : IpAddr). IsWhole x s.1) same.0 (s.2.fits, s.2.rest)))

  pub judged : (address : IpAddr) (is_among : Bool) → IsNetwork text b n → (IsTrue is_among ↔ IsAmong b n address) → IsSomeNetwork text × (IsTrue is_among ↔ Covers text address)
  judged address is_among net j = (
    (b, n, net),
    (λ y. (b, n, net, j.0 y), λ c. let same = one_network text c.0 b c.1 n c.2.written net.written in j.1 (subst (λ (k : ℕ). IsAmong b k address) same.1 (subst (λ (x : IpAddr). IsAmong x c.1 address) same.0 c.3))),
  )

-- The names that a line may be for, by their hashes.
use Rattle.std.proofs.Common.{◌≡◌, ◌≢◌, ◌⊎◌, ◌∙◌, ◌<◌, ◌^◌, ◌*◌, ℕ, suc, List, [], ◌∷◌, ◌++◌, length, map, min, max, slice_index, bit_and, bit_or, bit_xor, inl, inr, refl, sym, ap, subst, arith}
use Rattle.std.proofs.lemmas.Nat.{and_comm, and_mask, and_or_self, mod_below}
use Rattle.std.proofs.lemmas.Nat.Bits.{bit_at_and, bit_at_or, same_from_bits}
use Rattle.std.specs.Char.{to_ascii_lowercase}
use Rattle.std.specs.Int.{bit_at}
use Rattle.std.specs.List.{Any}
use Rattle.sshkey_entries.specs.HostVerdicts.{AreForName, HidesEntry, IsForOthers, Lists, ListsOther}
use Rattle.sshkey_entries.specs.Items.{patterns}
use Rattle.sshkey_entries.specs.KnownHosts.{ArePatterns, bar}
use Rattle.sshkey_entries.specs.Patterns.{Matches, MatchesUnnegated, question_mark, star}
use Rattle.sshkey_model.specs.Lines.{IsWithout}
use Rattle.sshkey_known_hosts.specs.HeldNames.{IsAmong, MayBeFor, SayNothing, fnv_from, fnv_step, name_hash}
use Rattle.sshkey_known_hosts.proofs.HostCuts.{lists_no_other, lists_none}
use Rattle.sshkey_known_hosts.proofs.Verdicts.{either, only}

-- ---- hashes

pub hash_below : (text : List ℕ) (hash : ℕ) → hash < 2 ^ 64 → fnv_from hash text < 2 ^ 64
hash_below [] hash less = less
hash_below (c ∷ text) hash less = hash_below text (fnv_step hash c) (mod_below (bit_xor hash c * 0x100000001b3) (2 ^ 64) (omega arith))

-- one bit of an `or` with another number
one_bit : (a b h : ℕ) → min a h ≡ h → min (max a b) h ≡ h
one_bit a b h e = omega (arith, e)

-- what is among some bits is among more
pub among_more : (names more hash : ℕ) → IsAmong names hash → IsAmong (bit_or names more) hash
among_more names more hash is = same_from_bits (bit_and (bit_or names more) hash) hash (λ i.
    let was : min (bit_at names i) (bit_at hash i) ≡ bit_at hash i = sym (bit_at_and names hash i) ∙ ap (λ (n : ℕ). bit_at n i) is in
    bit_at_and (bit_or names more) hash i
    ∙ ap (λ (n : ℕ). min n (bit_at hash i)) (bit_at_or names more i)
    ∙ one_bit (bit_at names i) (bit_at more i) (bit_at hash i) was)

pub among_all : (name : List ℕ) → IsAmong 0xffffffffffffffff (name_hash name)
among_all name =
    let less = hash_below (map to_ascii_lowercase name) 0xcbf29ce484222325 (omega arith) in
    and_comm 0xffffffffffffffff (name_hash name) ∙ and_mask (name_hash name) 64 ∙ omega (arith, less)

-- ---- patterns

rest_without : (c x : ℕ) (pattern : List ℕ) → IsWithout c (x ∷ pattern) → IsWithout c pattern
rest_without c x pattern none i l = none (suc i) (omega (arith, l))

-- a pattern without a star and a question mark matches itself alone
pub literal : (pattern text : List ℕ) → IsWithout star pattern → IsWithout question_mark pattern → Matches to_ascii_lowercase pattern text → map to_ascii_lowercase pattern ≡ map to_ascii_lowercase text
literal [] text no_star no_mark m = sym (ap (map to_ascii_lowercase) m)
literal (c ∷ pattern) text no_star no_mark m =
    let same = literal pattern m.1 (rest_without star c pattern no_star) (rest_without question_mark c pattern no_mark) m.4 in
    elim m.3 [
      | inl is ↦ absurd (no_star 0 (omega arith) is)
      | inr (inl is) ↦ absurd (no_mark 0 (omega arith) is.0)
      | inr (inr one) ↦ (λ j. one.2 j ∷ same j) ∙ sym (ap (map to_ascii_lowercase) (m.2 ∙ ap (λ (l : List ℕ). l ++ m.1) one.1))
    ]

-- Of the patterns that name something the hash is among these, or they are still to come.
abbrev pub AreRead : List ℕ → ℕ → List ℕ → Type 0
AreRead text names rest = (name : List ℕ) → Any (MatchesUnnegated to_ascii_lowercase name) (patterns text) → IsAmong names (name_hash name) ⊎ Any (MatchesUnnegated to_ascii_lowercase name) (patterns rest)

pub one_read : (text rest pattern more : List ℕ) (names : ℕ) → patterns rest ≡ pattern ∷ patterns more → IsWithout star pattern → IsWithout question_mark pattern → AreRead text names rest → AreRead text (bit_or names (name_hash pattern)) more
one_read text rest pattern more names cut no_star no_mark were name some =
    let Names = MatchesUnnegated to_ascii_lowercase name in
    elim (were name some) [
      | inl among ↦ inl (among_more names (name_hash pattern) (name_hash name) among)
      | inr later ↦ elim (either Names (pattern ∷ []) (patterns more) (subst (Any Names) cut later)) [
        | inl here ↦
            let same = literal pattern name no_star no_mark (only Names pattern here).1 in
            inl (subst (IsAmong (bit_or names (name_hash pattern))) (ap (fnv_from 0xcbf29ce484222325) same) (and_or_self (name_hash pattern) names))
        | inr after ↦ inr after
      ]
    ]

pub all_read : (text rest : List ℕ) (names : ℕ) → patterns rest ≡ [] → AreRead text names rest → (name : List ℕ) → AreForName name (patterns text) → IsAmong names (name_hash name)
all_read text rest names none were name is = elim (were name is.named.0) [
  | inl among ↦ among
  | inr later ↦ absurd (omega (arith, later.2, ap length none))
]

-- ---- lines

pub any_name : (line : List ℕ) → MayBeFor 0xffffffffffffffff line
any_name line hmac name other = absurd (other (among_all name))

pub plain_hosts : (hosts : List ℕ) → 0 < length hosts → slice_index hosts 0 ≢ bar → ArePatterns hosts (patterns hosts)
plain_hosts hosts some no_bar = record { some = some; not_hashed = λ hashed. no_bar (ap (λ (l : List ℕ). slice_index l 0) hashed.1); are = refl }

pub others_say_nothing : (hmac : List ℕ → List ℕ → List ℕ) (name line : List ℕ) → IsForOthers hmac name line → SayNothing hmac name (line ∷ [])
others_say_nothing hmac name line f = (
  λ m k s. lists_none hmac name line f m k (only (Lists hmac name m k) line s),
  λ m s. lists_no_other hmac name line f m (only (ListsOther hmac name m) line s),
  λ s. (only (HidesEntry hmac name) line s).1 f,
)

-- A line is one entry of authorized_keys at most, and OpenSSH ends its options at one place.
use Rattle.std.proofs.Common.{◌≡◌, ℕ, List, sym, ap, subst, ◌∙◌, arith, inl, inr, ◌∷◌, ◌++◌, drop, slice_index, Option, None, Some, ap₂, refl}
use Rattle.std.proofs.lemmas.Bool.{cases_lt}
use Rattle.sshkey_model.specs.Grammar.{SpellsWith}
use Rattle.sshkey_model.specs.Keys.{Key, IsKey, HasKeyPlaces, key}
use Rattle.sshkey_model.specs.Lines.{space, key_name, IsKeyLine, IsWithout}
use Rattle.sshkey_model.proofs.Blobs.{key_blobs}
use Rattle.sshkey_model.proofs.LineCuts.{one_front}
use Rattle.sshkey_model.proofs.Lines.{one_line}
use Rattle.sshkey_entries.specs.AuthorizedKeys.{AuthorizedKey, IsAuthorizedKey, IsWithoutOptions, HasOptions, AreOptionCharacters, is_option_character}
use Rattle.sshkey_entries.specs.Fields.{EndsOptions}
use Rattle.base64.specs.Engines.{standard}
use Rattle.base64.specs.GeneralPurpose.{encode_of}
use Rattle.sshkey_model.proofs.Base64Words.{one_blob, word_lacks}
use Rattle.sshkey_entries.specs.KnownHosts.{Marker, CertAuthority, Revoked, marker_text, Hosts, HashedName, Patterns, IsHosts, KnownHost, IsMarked, IsKnownHost, at_sign, bar}

-- options hold no space
pub no_space : (options : List ℕ) → AreOptionCharacters options → IsWithout space options
no_space options h = λ i l e. cc (sym (h i l) ∙ ap is_option_character e)

pub one_key_line : (text : List ℕ) (k l : Key) (m n : List ℕ) → IsKeyLine text k m → IsKeyLine text l n → (k ≡ l) × (m ≡ n)
one_key_line text k l m n a b = one_line key_name (SpellsWith IsKey HasKeyPlaces key) key_blobs text m n k l a b

pub readings_apart : (entry : List ℕ) (a b : AuthorizedKey) → IsWithoutOptions entry a → HasOptions entry b → ⊥
readings_apart entry a b x y = y.no_line a.key a.comment x.line

pub same_entry : (a b : AuthorizedKey) → a.options ≡ b.options → a.key ≡ b.key → a.comment ≡ b.comment → a ≡ b
same_entry a b o k m = λ j. record { options = o j; key = k j; comment = m j }

pub one_entry : (line : List ℕ) (a b : AuthorizedKey) → IsAuthorizedKey line a → IsAuthorizedKey line b → a ≡ b
one_entry line a b (inl x) (inl y) =
    let same = one_key_line line a.key b.key a.comment b.comment x.line y.line in
    same_entry a b (x.options ∙ sym y.options) same.0 same.1
one_entry line a b (inl x) (inr y) = absurd (readings_apart line a b x y)
one_entry line a b (inr x) (inl y) = absurd (readings_apart line b a y x)
one_entry line a b (inr x) (inr y) =
    let front = one_front space a.options b.options x.rest y.rest (no_space a.options x.options) (no_space b.options y.options) (sym x.is ∙ y.is) in
    let same = one_key_line y.rest a.key b.key a.comment b.comment (subst (λ (r : List ℕ). IsKeyLine r a.key a.comment) front.1 x.line) y.line in
    same_entry a b front.0 same.0 same.1

pub one_end : (line : List ℕ) (p q : ℕ) → EndsOptions line p → EndsOptions line q → p ≡ q
one_end line p q a b = elim (cases_lt p q) [
  | inl less ↦ cc (sym a.outside ∙ b.first p less a.blank)
  | inr above ↦ elim (cases_lt q p) [
    | inl less ↦ cc (sym b.outside ∙ a.first q less b.blank)
    | inr below ↦ omega (arith, above, below)
  ]
]

-- A line is one entry of known_hosts at most.

-- a word in Base64 holds no bar
pub bar_not : (b : List ℕ) → IsWithout bar (encode_of standard b)
bar_not = word_lacks bar refl refl refl

pub one_hosts : (text : List ℕ) (x y : Hosts) → IsHosts text x → IsHosts text y → x ≡ y
one_hosts text (Patterns ps) (Patterns qs) a b = ap Patterns (a.are ∙ sym b.are)
one_hosts text (Patterns ps) (HashedName s h) a b = absurd (a.not_hashed (encode_of standard s ++ (bar ∷ encode_of standard h), b.is))
one_hosts text (HashedName s h) (Patterns ps) a b = absurd (b.not_hashed (encode_of standard s ++ (bar ∷ encode_of standard h), a.is))
one_hosts text (HashedName s h) (HashedName t i) a b =
    let words = one_front bar (encode_of standard s) (encode_of standard t) (encode_of standard h) (encode_of standard i) (bar_not s) (bar_not t) (ap (drop 3) (sym a.is ∙ b.is)) in
    ap₂ HashedName (one_blob s t a.salt_bytes b.salt_bytes words.0) (one_blob h i a.hash_bytes b.hash_bytes words.1)

begins : (m : Marker) (rest : List ℕ) → slice_index (marker_text m ++ (space ∷ rest)) 0 ≡ at_sign
begins CertAuthority rest = refl
begins Revoked rest = refl

-- a text has one marker or none
pub one_marker : (text : List ℕ) (m n : Option Marker) (r s : List ℕ) → IsMarked m text r → IsMarked n text s → (m ≡ n) × (r ≡ s)
one_marker text None None r s a b = (refl, sym a.0 ∙ b.0)
one_marker text None (Some n) r s a b = absurd (a.1 (ap (λ (l : List ℕ). slice_index l 0) b ∙ begins n s))
one_marker text (Some m) None r s a b = absurd (b.1 (ap (λ (l : List ℕ). slice_index l 0) a ∙ begins m r))
one_marker text (Some CertAuthority) (Some CertAuthority) r s a b = (refl, ap (drop 16) (sym a ∙ b))
one_marker text (Some CertAuthority) (Some Revoked) r s a b = let e : 0x63 ≡ 0x72 = ap (λ (l : List ℕ). slice_index l 1) (sym a ∙ b) in absurd (omega (arith, e))
one_marker text (Some Revoked) (Some CertAuthority) r s a b = let e : 0x72 ≡ 0x63 = ap (λ (l : List ℕ). slice_index l 1) (sym a ∙ b) in absurd (omega (arith, e))
one_marker text (Some Revoked) (Some Revoked) r s a b = (refl, ap (drop 9) (sym a ∙ b))

pub same_host : (a b : KnownHost) → a.marker ≡ b.marker → a.hosts ≡ b.hosts → a.key ≡ b.key → a.comment ≡ b.comment → a ≡ b
same_host a b m x k c = λ j. record { marker = m j; hosts = x j; key = k j; comment = c j }

pub one_host : (entry : List ℕ) (a b : KnownHost) → IsKnownHost entry a → IsKnownHost entry b → a ≡ b
one_host entry a b x y =
    let marks = one_marker entry a.marker b.marker _ _ x.is y.is in
    let front = one_front space x.hosts_part y.hosts_part x.rest y.rest x.one_word y.one_word marks.1 in
    let key = one_key_line y.rest a.key b.key a.comment b.comment (subst (λ (t : List ℕ). IsKeyLine t a.key a.comment) front.1 x.line) y.line in
    same_host a b marks.0 (one_hosts y.hosts_part a.hosts b.hosts (subst (λ (t : List ℕ). IsHosts t a.hosts) front.0 x.hosts) y.hosts) key.0 key.1

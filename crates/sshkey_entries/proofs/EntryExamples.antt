-- The worked examples of entries hold.
use Rattle.std.proofs.Common.{◌≡◌, ◌≢◌, ℕ, ◌<◌, ◌≤◌, Bool, true, not, List, [], ◌∷◌, ◌++◌, length, drop, count_by, Option, None, Some, inl, inr, refl, sym, ap, subst, ◌∙◌, arith}
use Rattle.std.specs.Prelude.{codes, slice_index}
use Rattle.std.specs.Str.{trim_end, is_utf8, chars}
use Rattle.std.specs.Char.{encode_utf8}
use Rattle.std.proofs.lemmas.Bool.{not-true}
use Rattle.base64.specs.Rfc4648.{encode_symbols}
use Rattle.base64.specs.Decode.{groups_error, scan_steps}
use Rattle.base64.specs.Engines.{standard}
use Rattle.base64.specs.GeneralPurpose.{encode_of}
use Rattle.sshkey_model.specs.HexText.{hex}
use Rattle.sshkey_model.specs.KeyExamples.{rsa_key}
use Rattle.sshkey_model.specs.LineExamples.{rsa_word, rsa_line}
use Rattle.sshkey_model.specs.Parts.{flat}
use Rattle.sshkey_model.specs.Lines.{space, IsKeyLine, IsNoKeyLine}
use Rattle.sshkey_model.proofs.Base64Words.{one_blob}
use Rattle.sshkey_model.proofs.CombinedReaders.{bytes_fit}
use Rattle.sshkey_model.proofs.LineCuts.{one_front}
use Rattle.sshkey_model.proofs.LineExamples.{line_ends}
use Rattle.sshkey_model.proofs.LineTests.{all_characters, each, lacks, cut, no_base64, one_word}
use Rattle.sshkey_entries.specs.AuthorizedKeys.{IsAuthorizedKey, HasOptions, is_space, is_option_character}
use Rattle.sshkey_entries.specs.Entries.{IsNoEntry}
use Rattle.sshkey_entries.specs.EntryExamples.{Options, Marked, HashedHosts, authorized, host, hash, salt}
use Rattle.sshkey_matching.specs.Patterns.{patterns}
use Rattle.sshkey_entries.specs.KnownHosts.{Marker, CertAuthority, Revoked, Hosts, HashedName, Patterns, IsHosts, IsMarked, IsKnownHost, at_sign, bar}
use Rattle.sshkey_entries.specs.Examples.{WordEnds}
use Rattle.sshkey_entries.specs.Fields.{CutsWord, IsField, is_blank}
use Rattle.sshkey_entries.proofs.Fields.{same_cut}
use Rattle.sshkey_entries.proofs.OneEntry.{bar_not}

-- ---- authorized_keys

alone : (comment text : List ℕ) → IsKeyLine text rsa_key comment → IsAuthorizedKey text (authorized [] comment)
alone comment text line = inl (record { options = refl; line = line })

after : (options rest comment text : List ℕ) → text ≡ options ++ (space ∷ rest) → all_characters is_option_character options ≡ true → IsKeyLine rest rsa_key comment → 3 ≤ count_by is_space text → IsNoKeyLine text → HasOptions text (authorized options comment)
after options rest comment text is allowed line count none = record { rest = rest; is = is; options = each is_option_character options allowed; line = line; spaces = count; no_line = none }

no_options : (text : List ℕ) → count_by is_space text < 3 → IsNoKeyLine text → IsNoEntry IsAuthorizedKey text
no_options text few none a (inl x) = none a.key a.comment x.line
no_options text few none a (inr x) = omega (arith, few, x.spaces)

pub options : Options
unfolding is_utf8 trim_end chars encode_utf8 groups_error scan_steps encode_symbols flat
options = (
  alone [] _ line_ends.0,
  alone (codes "me") _ line_ends.3,
  inr (after (codes "no-pty") _ (codes "me") _ refl refl line_ends.3 (omega arith) (no_base64 _ (codes "no-pty") (codes "ssh-rsa") (rsa_word ++ codes " me") (cut _ _ _ _ refl (omega arith) (omega arith) refl refl) refl)),
  inr (after (codes "no-pty") _ [] _ refl refl line_ends.1 (omega arith) (no_base64 _ (codes "no-pty") (codes "ssh-rsa") rsa_word (cut _ _ _ _ refl (omega arith) (omega arith) refl refl) refl)),
  no_options _ (omega arith) (no_base64 _ (codes "no-pty") (codes "ssh-rsa") rsa_word (cut _ _ _ _ refl (omega arith) (omega arith) refl refl) refl),
  no_options _ (omega arith) (one_word _ refl),
  refl,
  refl,
)

-- ---- known_hosts

known : (m : Option Marker) (entry : List ℕ) → IsMarked m entry (codes "h" ++ (space ∷ rsa_line)) → IsKnownHost entry (host m)
unfolding patterns
known m entry is = record {
  hosts_part = codes "h";
  rest = rsa_line;
  is = is;
  one_word = lacks space (codes "h") refl;
  hosts = record {
    some = omega arith;
    not_hashed = λ r. let first : 0x68 ≡ 0x7c = ap (λ (l : List ℕ). slice_index l 0) r.1 in absurd (omega (arith, first));
    are = refl;
  };
  line = line_ends.0;
}

no_hosts : (h : Hosts) → IsHosts [] h → ⊥
no_hosts (Patterns ps) is = omega (arith, is.some)
no_hosts (HashedName s h) is = let sizes : 0 ≡ length (codes "|1|" ++ (encode_of standard s ++ (bar ∷ encode_of standard h))) = ap length is.is in omega (arith, sizes)

abbrev gibberish : List ℕ
gibberish = codes "@gibberish h " ++ rsa_line

no_gibberish : (m : Option Marker) (rest : List ℕ) → IsMarked m gibberish rest → ⊥
no_gibberish None rest is = is.1 refl
no_gibberish (Some CertAuthority) rest is = let second : 0x67 ≡ 0x63 = ap (λ (l : List ℕ). slice_index l 1) is in omega (arith, second)
no_gibberish (Some Revoked) rest is = let second : 0x67 ≡ 0x72 = ap (λ (l : List ℕ). slice_index l 1) is in omega (arith, second)

-- no at sign at the front, no marker
unmarked : (m : Option Marker) (text rest : List ℕ) → slice_index text 0 ≢ at_sign → IsMarked m text rest → text ≡ rest
unmarked None text rest other is = is.0
unmarked (Some CertAuthority) text rest other is = absurd (other (ap (λ (l : List ℕ). slice_index l 0) is))
unmarked (Some Revoked) text rest other is = absurd (other (ap (λ (l : List ℕ). slice_index l 0) is))

no_late_marker : IsNoEntry IsKnownHost (codes "h @revoked " ++ rsa_line)
unfolding is_utf8 trim_end chars encode_utf8 groups_error scan_steps
no_late_marker h k =
    let front = one_front space (codes "h") k.hosts_part (codes "@revoked " ++ rsa_line) k.rest (lacks space (codes "h") refl) k.one_word (unmarked h.marker _ _ (λ e. cc e) k.is) in
    let none : IsNoKeyLine (codes "@revoked " ++ rsa_line) = no_base64 _ (codes "@revoked") (codes "ssh-rsa") rsa_word (cut _ _ _ _ refl (omega arith) (omega arith) refl refl) refl in
    none h.key h.comment (subst (λ (l : List ℕ). IsKeyLine l h.key h.comment) (sym front.1) k.line)

no_empty_hosts : IsNoEntry IsKnownHost (codes " " ++ rsa_line)
no_empty_hosts h k =
    let front = one_front space [] k.hosts_part rsa_line k.rest (λ i lt. absurd (omega arith)) k.one_word (unmarked h.marker _ _ (λ e. cc e) k.is) in
    no_hosts h.hosts (subst (λ (l : List ℕ). IsHosts l h.hosts) (sym front.0) k.hosts)

pub marked : Marked
unfolding encode_symbols flat
marked = (
  known None _ (refl, λ e. cc e),
  known (Some Revoked) _ refl,
  λ h k. no_gibberish h.marker _ k.is,
  no_late_marker,
  no_empty_hosts,
  refl,
  refl,
)

-- ---- hashed names

abbrev short_hash : List ℕ
short_hash = hex "00000000000000000000000000000000000000"

no_short_hash : (h : Hosts) → IsHosts (codes "|1|AAAA|AAAAAAAAAAAAAAAAAAAAAAAAAA==") h → ⊥
unfolding encode_symbols
no_short_hash (Patterns ps) is = is.not_hashed (codes "AAAA|AAAAAAAAAAAAAAAAAAAAAAAAAA==", refl)
no_short_hash (HashedName s h) is =
    let words = one_front bar (codes "AAAA") (encode_of standard s) (codes "AAAAAAAAAAAAAAAAAAAAAAAAAA==") (encode_of standard h) (lacks bar (codes "AAAA") refl) (bar_not s) (ap (drop 3) is.is) in
    let short : encode_of standard short_hash ≡ codes "AAAAAAAAAAAAAAAAAAAAAAAAAA==" = refl in
    let same : h ≡ short_hash = one_blob h short_hash is.hash_bytes (bytes_fit short_hash refl) (sym (short ∙ words.1)) in
    omega (arith, ap length same, is.hash_len)

pub hashed_hosts : HashedHosts
unfolding encode_symbols
hashed_hosts = (
  record { is = refl; salt_bytes = bytes_fit salt refl; hash_bytes = bytes_fit hash refl; hash_len = refl },
  no_short_hash,
  no_hosts,
)

-- ---- words

abbrev is_no_blank : ℕ → Bool
is_no_blank c = not (is_blank c)

field_of : (text : List ℕ) → all_characters is_no_blank text ≡ true → IsField text
field_of text e i l = not-true _ (each is_no_blank text e i l)

pub word_ends : WordEnds
word_ends = (
  refl,
  refl,
  refl,
  refl,
  record { field = codes "AAAA\r"; is = refl; one_word = field_of (codes "AAAA\r") refl; ends = inr refl; word_is = refl },
  λ rest cut.
      let whole : CutsWord (codes "AAAA\rme") (codes "AAAA\rme") [] = record { field = codes "AAAA\rme"; is = refl; one_word = field_of (codes "AAAA\rme") refl; ends = inl refl; word_is = refl } in
      let same = same_cut (codes "AAAA\rme") (codes "AAAA\rme") (codes "AAAA") [] rest whole cut in
      omega (arith, ap length same.0),
)

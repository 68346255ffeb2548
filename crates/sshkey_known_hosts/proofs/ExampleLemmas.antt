-- What the worked examples cite: lines that are made of their parts, and what they say.
use Rattle.std.proofs.Common.{◌≡◌, ◌≢◌, ℕ, ◌<◌, Bool, true, false, not, ◌&&◌, ◌==◌, List, [], ◌∷◌, ◌++◌, length, take, slice_index, get_or, bytes_eq, Option, None, Some, Ok, inl, inr, refl, sym, ap, ◌∙◌, arith, append-nil, eq-eqb}
use Rattle.std.specs.Prelude.{codes}
use Rattle.std.specs.Bool.{Decides}
use Rattle.std.specs.Char.{to_ascii_lowercase}
use Rattle.std.specs.List.{All, list_all}
use Rattle.std.proofs.lemmas.Bool.{and_parts, not-true}
use Rattle.std.proofs.lemmas.Bool.Decides.{Decides-and, Decides-eqb, Decides-like, Decides-not}
use Rattle.std.proofs.lemmas.Slice.Eq.{bytes_eq-Decides}
use Rattle.base64.specs.Rfc4648.{encode_symbols}
use Rattle.sshkey_model.specs.CertificateExamples.{authority}
use Rattle.sshkey_model.specs.HexText.{hex}
use Rattle.sshkey_model.specs.KeyExamples.{ed25519_bytes, ed25519_key}
use Rattle.sshkey_model.specs.Keys.{Ed25519, Head, Key, Plain, SpellsKey, key, key_at}
use Rattle.sshkey_model.specs.Labels.{label_at}
use Rattle.sshkey_model.specs.Lines.{IsWithout, space}
use Rattle.sshkey_model.specs.Names.{named}
use Rattle.sshkey_model.specs.Parts.{are_bytes, flat}
use Rattle.sshkey_model.specs.Reading.{after_at, box_at, bytes_at, number_at, string_at}
use Rattle.sshkey_model.proofs.Base64Words.{is_other_than}
use Rattle.sshkey_model.proofs.CombinedReaders.{bytes_fit}
use Rattle.sshkey_model.proofs.KeyReaders.{key_reads}
use Rattle.sshkey_model.proofs.LineTests.{all_characters, each, lacks}
use Rattle.sshkey_matching.specs.Patterns.{patterns}
use Rattle.sshkey_matching.proofs.PatternTests.{decides_all, decides_list, matches_list}
use Rattle.sshkey_entries.specs.Entries.{hash_sign}
use Rattle.sshkey_entries.specs.Fields.{CutsField, AreKeyFields, AreNoKeyFields, CutsWord, EndsField, IsField, without_blanks, without_front, AreFields, is_blank}
use Rattle.sshkey_entries.specs.HostVerdicts.{AreFor, AreForName, BeginWithBar, HidesEntry, IsAuthority, IsForOthers, Lists}
use Rattle.sshkey_entries.specs.KnownHosts.{ArePatterns, CertAuthority, HashedName, Hosts, IsHosts, Marker, Patterns, Revoked, after_marker, at_sign, bar, hashed_mark, hashed_text, marker_text}
use Rattle.sshkey_entries.specs.OpenSshLines.{EndsMarker, IsHostLine, IsMarkedLine}
use Rattle.sshkey_entries.specs.OtherKeys.{AreForeignKeyFields, IsFormerName, IsOtherName}
use Rattle.sshkey_entries.proofs.KeyFields.{no_word}
use Rattle.sshkey_entries.proofs.Fronts.{skipped, stays}
use Rattle.sshkey_entries.proofs.OtherKeys.{named_under}
use Rattle.sshkey_known_hosts.specs.Examples.{Say, SaysNothing, SaysOfKeys, broken_line, host, key_text, line, other_line, other_text}
use Rattle.sshkey_known_hosts.specs.Hmac.{hmac_sha1}
use Rattle.sshkey_known_hosts.specs.declared.verdict.Verdict.{Verdict}
use Rattle.sshkey_known_hosts.specs.declared.verdict.Verdict.TheVariants as verdict
use Rattle.sshkey_known_hosts.specs.Verdicts.{max_severity_of}
use Rattle.sshkey_known_hosts.proofs.HostCuts.{fields_hide, marker_hides}
use Rattle.sshkey_known_hosts.proofs.HostLines.{no_end, no_marker, two_markers}
use Rattle.sshkey_known_hosts.proofs.Verdicts as say

pub never : false ≡ true → ⊥
never e = cc

pub differ : (a b : List ℕ) → bytes_eq a b ≡ false → a ≢ b
differ a b unequal = λ same. never (sym unequal ∙ (bytes_eq-Decides a b).1 same)

-- ---- texts

abbrev is_no_blank : ℕ → Bool
is_no_blank c = not (is_blank c)

pub field : (text : List ℕ) → all_characters is_no_blank text ≡ true → IsField text
field text e i l = not-true _ (each is_no_blank text e i l)

both : (p : ℕ → Bool) (a b : List ℕ) → all_characters p a ≡ true → all_characters p b ≡ true → all_characters p (a ++ b) ≡ true
both p [] b e f = f
both p (c ∷ a) b e f = let parts = and_parts (p c) (all_characters p a) e in rw (parts.0, both p a b parts.1 f) refl

-- ---- the two keys

abbrev first_byte : Key → ℕ
first_byte (Ed25519 k) = slice_index k 0
first_byte _ = 0

pub apart : ed25519_key ≡ authority → ⊥
apart e = omega (arith, ap first_byte e)

spells : (blob : List ℕ) (k : Key) (h : Head) → key_at blob ≡ Ok ((k, h), []) → SpellsKey k blob
spells blob k h e =
    let t = key_reads.takes blob (k, h) [] e in
    record { is = t.0.is; choices = h; place = t.0.place; fits = t.1; shape = t.2 ∙ append-nil (flat (key k h)) }

abbrev authority_bytes : List ℕ
authority_bytes = hex "0000000b 7373682d65643235353139 00000020 7d4c170235a1174489f5e0050bd641f08106d03f3e2f1809413f237c17149a36"

pub own_spelled : SpellsKey ed25519_key ed25519_bytes
unfolding key_at label_at after_at box_at string_at number_at bytes_at named
own_spelled = spells ed25519_bytes ed25519_key Plain refl

other_spelled : SpellsKey authority authority_bytes
unfolding key_at label_at after_at box_at string_at number_at bytes_at named
other_spelled = spells authority_bytes authority Plain refl

module _ (rest comment : List ℕ) (ends : EndsField rest) (is : comment ≡ without_blanks rest) where
  pub own_fields : AreKeyFields (key_text ++ rest) ed25519_key comment
  unfolding without_front encode_symbols
  own_fields = record {
    blob = ed25519_bytes;
    after_name = codes " AAAAC3NzaC1lZDI1NTE5AAAAILM+rvN+ot98qgEN796jTiQfZfG1KaT0PtFDJ/XFSqti" ++ rest;
    after_key = rest;
    is = refl;
    one_word = field (codes "ssh-ed25519") refl;
    name_ends = inr refl;
    word = record { field = codes "AAAAC3NzaC1lZDI1NTE5AAAAILM+rvN+ot98qgEN796jTiQfZfG1KaT0PtFDJ/XFSqti"; is = refl; one_word = field (codes "AAAAC3NzaC1lZDI1NTE5AAAAILM+rvN+ot98qgEN796jTiQfZfG1KaT0PtFDJ/XFSqti") refl; ends = ends; word_is = refl };
    spelled = own_spelled;
    comment_is = is;
  }

  pub other_fields : AreKeyFields (other_text ++ rest) authority comment
  unfolding without_front encode_symbols
  other_fields = record {
    blob = authority_bytes;
    after_name = codes " AAAAC3NzaC1lZDI1NTE5AAAAIH1MFwI1oRdEifXgBQvWQfCBBtA/Pi8YCUE/I3wXFJo2" ++ rest;
    after_key = rest;
    is = refl;
    one_word = field (codes "ssh-ed25519") refl;
    name_ends = inr refl;
    word = record { field = codes "AAAAC3NzaC1lZDI1NTE5AAAAIH1MFwI1oRdEifXgBQvWQfCBBtA/Pi8YCUE/I3wXFJo2"; is = refl; one_word = field (codes "AAAAC3NzaC1lZDI1NTE5AAAAIH1MFwI1oRdEifXgBQvWQfCBBtA/Pi8YCUE/I3wXFJo2") refl; ends = ends; word_is = refl };
    spelled = other_spelled;
    comment_is = is;
  }

-- ---- a line of its parts

pub record HasParts (text : List ℕ) (m : Option Marker) (hosts rest : List ℕ) : Type 0 where
  pub no_zero : IsWithout 0 text
  pub no_comment : slice_index (without_blanks text) 0 ≢ hash_sign
  pub marked : IsMarkedLine m (without_blanks text) (hosts ++ rest)
  pub one_word : IsField hosts
  pub ends : EndsField rest

module _ (text : List ℕ) (m : Option Marker) (hosts rest : List ℕ) (has : HasParts text m hosts rest) (h : Hosts) (are : IsHosts hosts h) where
  pub read : (k : Key) (comment : List ℕ) → AreKeyFields (without_blanks rest) k comment → IsHostLine text (record { marker = m; hosts = h; key = k; comment = comment })
  read k comment fields = record {
    no_zero = has.no_zero;
    hosts_part = hosts;
    after_hosts = rest;
    no_comment = has.no_comment;
    marked = has.marked;
    one_word = has.one_word;
    hosts_end = has.ends;
    hosts = are;
    fields = fields;
  }

  pub for_others : (name : List ℕ) → (AreFor hmac_sha1 name h → ⊥) → IsForOthers hmac_sha1 name text
  for_others name never_for = record { no_zero = has.no_zero; marker = m; hosts_part = hosts; after = rest; hosts = h; marked = has.marked; one_word = has.one_word; ends = has.ends; are = are; not_for = never_for }

  pub nothing_said : (name : List ℕ) → (AreFor hmac_sha1 name h → ⊥) → Say name (text ∷ []) verdict.Unknown verdict.Unknown
  nothing_said name never_for = let others = for_others name never_for in (say.passed_over hmac_sha1 name ed25519_key text others, say.passed_over hmac_sha1 name authority text others)

abbrev pub own_verdict : Option Marker → Verdict
own_verdict None = verdict.Trusted
own_verdict (Some Revoked) = verdict.Revoked
own_verdict (Some CertAuthority) = verdict.Unknown

abbrev pub other_verdict : Option Marker → Verdict
other_verdict None = verdict.Changed
other_verdict (Some m) = verdict.Unknown

-- of a line with the first key
pub said : (name text : List ℕ) (m : Option Marker) (h : Hosts) (comment : List ℕ) → IsHostLine text (record { marker = m; hosts = h; key = ed25519_key; comment = comment }) → AreFor hmac_sha1 name h → Say name (text ∷ []) (own_verdict m) (other_verdict m)
said name text None h comment is fits = (
  say.trusted hmac_sha1 name ed25519_key text _ is refl refl fits,
  say.changed hmac_sha1 name authority text _ is refl apart fits,
)
said name text (Some Revoked) h comment is fits = (
  say.revoked hmac_sha1 name ed25519_key text _ is refl refl fits,
  say.other_revoked hmac_sha1 name authority text _ is refl apart,
)
said name text (Some CertAuthority) h comment is fits = (
  say.authority hmac_sha1 name ed25519_key text _ is refl,
  say.authority hmac_sha1 name authority text _ is refl,
)

-- ---- hosts in front of the first key

-- no empty text, no blank and no zero byte, and neither marker nor comment
abbrev pub fit_in : List ℕ → Bool
fit_in [] = false
fit_in (c ∷ hosts) = all_characters is_no_blank (c ∷ hosts) && (all_characters (is_other_than 0) (c ∷ hosts) && (not (c == at_sign) && not (c == hash_sign)))

no : (b : Bool) → not b ≡ true → b ≡ true → ⊥
no b e t = never (sym (not-true b e) ∙ t)

abbrev pub after_hosts : List ℕ
after_hosts = space ∷ key_text

marker_stays : (m : Marker) (rest : List ℕ) → without_blanks (marker_text m ++ rest) ≡ marker_text m ++ rest
marker_stays CertAuthority rest = stays is_blank at_sign _ refl
marker_stays Revoked rest = stays is_blank at_sign _ refl

marker_whole : (m : Marker) → all_characters (is_other_than 0) (marker_text m) ≡ true
marker_whole CertAuthority = refl
marker_whole Revoked = refl

marker_begins : (m : Marker) (rest : List ℕ) → slice_index (marker_text m ++ rest) 0 ≢ hash_sign
marker_begins CertAuthority rest is = let e : at_sign ≡ hash_sign = is in omega (arith, e)
marker_begins Revoked rest is = let e : at_sign ≡ hash_sign = is in omega (arith, e)

ends_marker : (m : Marker) (rest : List ℕ) → EndsMarker m (space ∷ rest)
ends_marker CertAuthority rest = inl refl
ends_marker Revoked rest = tt

module _ (fields : List ℕ) (whole : all_characters (is_other_than 0) (space ∷ fields) ≡ true) where
  abbrev after : List ℕ
  after = space ∷ fields

  -- before those fields
  pub parts_before : (m : Option Marker) (hosts : List ℕ) → fit_in hosts ≡ true → HasParts (after_marker m (hosts ++ after)) m hosts after
  parts_before m [] e = absurd (never e)
  parts_before None (c ∷ hosts) e =
      let blanks = and_parts _ _ e in
      let zeros = and_parts _ _ blanks.1 in
      let marks = and_parts _ _ zeros.1 in
      let first : is_blank c ≡ false = not-true _ (and_parts _ _ blanks.0).0 in
      let same : without_blanks ((c ∷ hosts) ++ after) ≡ (c ∷ hosts) ++ after = stays is_blank c (hosts ++ after) first in
      record {
        no_zero = lacks 0 ((c ∷ hosts) ++ after) (both (is_other_than 0) (c ∷ hosts) after zeros.0 whole);
        no_comment = λ is. no _ marks.1 (eq-eqb c hash_sign (ap (λ (t : List ℕ). slice_index t 0) (sym same) ∙ is));
        marked = (same, λ is. no _ marks.0 (eq-eqb c at_sign (ap (λ (t : List ℕ). slice_index t 0) (sym same) ∙ is)));
        one_word = field (c ∷ hosts) blanks.0;
        ends = inr refl;
      }
  parts_before (Some m) (c ∷ hosts) e =
      let blanks = and_parts _ _ e in
      let zeros = and_parts _ _ blanks.1 in
      let marks = and_parts _ _ zeros.1 in
      let first : is_blank c ≡ false = not-true _ (and_parts _ _ blanks.0).0 in
      let rest : without_blanks (space ∷ ((c ∷ hosts) ++ after)) ≡ (c ∷ hosts) ++ after = skipped is_blank space ((c ∷ hosts) ++ after) refl ∙ stays is_blank c (hosts ++ after) first in
      let same = marker_stays m (space ∷ ((c ∷ hosts) ++ after)) in
      record {
        no_zero = lacks 0 (marker_text m ++ (space ∷ ((c ∷ hosts) ++ after))) (both (is_other_than 0) (marker_text m) (space ∷ ((c ∷ hosts) ++ after)) (marker_whole m) (both (is_other_than 0) (c ∷ hosts) after zeros.0 whole));
        no_comment = λ is. marker_begins m (space ∷ ((c ∷ hosts) ++ after)) (ap (λ (t : List ℕ). slice_index t 0) (sym same) ∙ is);
        marked = (space ∷ ((c ∷ hosts) ++ after), same, (inr refl, ends_marker m _), sym rest, λ is. no _ marks.0 (eq-eqb c at_sign is));
        one_word = field (c ∷ hosts) blanks.0;
        ends = inr refl;
      }

pub parts : (m : Option Marker) (hosts : List ℕ) → fit_in hosts ≡ true → HasParts (line m hosts) m hosts after_hosts
parts = parts_before key_text refl

-- ---- hosts of whatever kind

module _ (name hosts : List ℕ) (fit : fit_in hosts ≡ true) (h : Hosts) (are : IsHosts hosts h) where
  read_line : (m : Option Marker) → IsHostLine (line m hosts) (record { marker = m; hosts = h; key = ed25519_key; comment = [] })
  unfolding without_front
  read_line m = read (line m hosts) m hosts after_hosts (parts m hosts fit) h are ed25519_key [] (own_fields [] [] (inl refl) refl)

  pub says_of_keys : AreFor hmac_sha1 name h → SaysOfKeys (name, hosts)
  says_of_keys fits = (
    said name (line None hosts) None h [] (read_line None) fits,
    said name (line (Some Revoked) hosts) (Some Revoked) h [] (read_line (Some Revoked)) fits,
    said name (line (Some CertAuthority) hosts) (Some CertAuthority) h [] (read_line (Some CertAuthority)) fits,
  )

  pub says_nothing : (AreFor hmac_sha1 name h → ⊥) → SaysNothing (name, hosts)
  says_nothing never_for = λ m. nothing_said (line m hosts) m hosts after_hosts (parts m hosts fit) h are name never_for

-- ---- hashes

module _ (text salt hash : List ℕ) (is : text ≡ hashed_text salt hash) (sizes : are_bytes salt && are_bytes hash ≡ true) (size : length hash ≡ 20) where
  pub hash_is : IsHosts text (HashedName salt hash)
  hash_is = let both_fit = and_parts _ _ sizes in record { is = is; salt_bytes = bytes_fit salt both_fit.0; hash_bytes = bytes_fit hash both_fit.1; hash_len = size }

-- ---- patterns

abbrev begin_with_bar : List (List ℕ) → Bool
begin_with_bar [] = false
begin_with_bar (pattern ∷ more) = slice_index pattern 0 == bar

decides_bar : (ps : List (List ℕ)) → Decides (begin_with_bar ps) (BeginWithBar ps)
decides_bar [] = (λ e. never e, λ b. absurd b)
decides_bar (pattern ∷ more) = Decides-eqb (slice_index pattern 0) bar

abbrev pub are_for : List ℕ → List ℕ → Bool
are_for name hosts = matches_list to_ascii_lowercase hosts name && not (begin_with_bar (patterns hosts))

decides_for : (name hosts : List ℕ) → Decides (are_for name hosts) (AreForName name (patterns hosts))
decides_for name hosts =
    Decides-like (are_for name hosts) (λ b. record { named = b.0.named; short = b.0.short; no_hash = b.1 }) (λ f. (record { named = f.named; short = f.short }, f.no_hash))
    (Decides-and _ _ (decides_list to_ascii_lowercase hosts name) (Decides-not _ (decides_bar (patterns hosts))))

-- they stand in a line, and are no hash
abbrev are_patterns : List ℕ → Bool
are_patterns hosts = fit_in hosts && not (bytes_eq (take 3 hosts) hashed_mark)

some_fit : (hosts : List ℕ) → fit_in hosts ≡ true → 0 < length hosts
some_fit [] e = absurd (never e)
some_fit (c ∷ hosts) e = omega arith

patterns_are : (hosts : List ℕ) → are_patterns hosts ≡ true → ArePatterns hosts (patterns hosts)
patterns_are hosts e =
    let both_hold = and_parts _ _ e in
    record { some = some_fit hosts both_hold.0; not_hashed = λ r. differ (take 3 hosts) hashed_mark (not-true _ both_hold.1) (ap (take 3) r.1); are = refl }

abbrev names_it : List ℕ × List ℕ → Bool
names_it r = are_patterns r.1 && are_for r.0 r.1

abbrev pub leaves_out : List ℕ × List ℕ → Bool
leaves_out r = are_patterns r.1 && not (are_for r.0 r.1)

of_named : (r : List ℕ × List ℕ) → names_it r ≡ true → SaysOfKeys r
of_named r e =
    let is = and_parts _ _ e in
    says_of_keys r.0 r.1 (and_parts _ _ is.0).0 (Patterns (patterns r.1)) (patterns_are r.1 is.0) ((decides_for r.0 r.1).0 is.1)

pub of_unnamed : (r : List ℕ × List ℕ) → leaves_out r ≡ true → SaysNothing r
of_unnamed r e =
    let is = and_parts _ _ e in
    says_nothing r.0 r.1 (and_parts _ _ is.0).0 (Patterns (patterns r.1)) (patterns_are r.1 is.0) (λ fits. no _ is.1 ((decides_for r.0 r.1).1 fits))

pub of_each : {X : Type 0} (test : X → Bool) (P : X → Type 0) → ((x : X) → test x ≡ true → P x) → (xs : List X) → list_all test xs ≡ true → All P xs
of_each test P holds xs e = λ k d l. holds (get_or xs k d) ((decides_all test (λ x. test x ≡ true) (λ x. (λ t. t, λ t. t)) xs).0 e k d l)

pub each_named : (rows : List (List ℕ × List ℕ)) → list_all names_it rows ≡ true → All SaysOfKeys rows
each_named = of_each names_it SaysOfKeys of_named

pub each_unnamed : (rows : List (List ℕ × List ℕ)) → list_all leaves_out rows ≡ true → All SaysNothing rows
each_unnamed = of_each leaves_out SaysNothing of_unnamed

-- the hosts that are this one by its name
pub host_is : IsHosts host (Patterns (patterns host))
unfolding patterns
host_is = patterns_are host refl

pub host_fits : AreFor hmac_sha1 host (Patterns (patterns host))
unfolding patterns
host_fits = (decides_for host host).0 refl

pub other_host : (IsHosts (codes "g.example") (Patterns (patterns (codes "g.example")))) × (AreFor hmac_sha1 host (Patterns (patterns (codes "g.example"))) → ⊥)
unfolding patterns
other_host = (patterns_are (codes "g.example") refl, λ fits. never ((decides_for host (codes "g.example")).1 fits))

-- ---- lines that are none

pub hidden : (name text : List ℕ) → HidesEntry hmac_sha1 name text → Say name (text ∷ []) verdict.Unreadable verdict.Unreadable
hidden name text h = (say.hides hmac_sha1 name ed25519_key text h.0 h, say.hides hmac_sha1 name authority text h.0 h)

-- an algorithm's name alone
abbrev lone : List ℕ
lone = codes "ssh-ed25519"

lone_first : CutsField lone lone []
lone_first = record { is = refl; one_word = field lone refl; ends = inl refl }

nothing_second : CutsWord [] [] []
nothing_second = record { field = []; is = refl; one_word = λ i l. absurd (omega (arith, l)); ends = inl refl; word_is = refl }

nothing_left : [] ≡ without_blanks []
unfolding without_front
nothing_left = refl

no_key : AreNoKeyFields lone
no_key = no_word lone lone [] [] [] [] lone_first nothing_left nothing_second refl

lone_fields : AreFields lone lone [] []
unfolding without_front
lone_fields = record { after = []; first = lone_first; second = nothing_second }

no_foreign_key : AreForeignKeyFields lone → ⊥
unfolding named
no_foreign_key (inl other) = let e = (named_under lone lone [] [] lone_fields IsOtherName other).0.not_fixed in cc e
no_foreign_key (inr former) = elim (named_under lone lone [] [] lone_fields IsFormerName former.0).0 [
  | inl is ↦ differ lone (codes "ssh-xmss@openssh.com") refl is
  | inr is ↦ differ lone (codes "ssh-xmss-cert-v01@openssh.com") refl is
]

keyless : (text : List ℕ) → HasParts text None host (space ∷ lone) → HidesEntry hmac_sha1 host text
unfolding without_front
keyless text has = fields_hide hmac_sha1 host text None lone
    (record {
      no_zero = has.no_zero;
      hosts_part = host;
      after_hosts = space ∷ lone;
      hosts = Patterns (patterns host);
      no_comment = has.no_comment;
      marked = has.marked;
      one_word = has.one_word;
      hosts_end = has.ends;
      are = host_is;
      is_for = host_fits;
      fields_are = refl;
    })
    no_key no_foreign_key

lone_parts : HasParts broken_line None host (space ∷ lone)
unfolding without_front
lone_parts = record { no_zero = lacks 0 broken_line refl; no_comment = λ is. omega (arith, is); marked = (refl, λ is. omega (arith, is)); one_word = field host refl; ends = inr refl }

pub without_key : HidesEntry hmac_sha1 host broken_line
without_key = keyless broken_line lone_parts

abbrev pub keyless_other : List ℕ
keyless_other = codes "g.example ssh-ed25519"

pub of_others : Say host (keyless_other ∷ []) verdict.Unknown verdict.Unknown
unfolding without_front
of_others = nothing_said keyless_other None (codes "g.example") (space ∷ lone)
    (record { no_zero = lacks 0 keyless_other refl; no_comment = λ is. omega (arith, is); marked = (refl, λ is. omega (arith, is)); one_word = field (codes "g.example") refl; ends = inr refl })
    (Patterns (patterns (codes "g.example"))) other_host.0 host other_host.1

-- what the marker is said to be
module _ (word after : List ℕ) (one : all_characters is_no_blank word ≡ true) (ends : EndsField after) (at : slice_index (word ++ after) 0 ≡ at_sign) (stays_so : word ++ after ≡ without_blanks (word ++ after)) where
  cut_word : CutsField (word ++ after) word after
  cut_word = record { is = refl; one_word = field word one; ends = ends }

  pub other_marker : ((m : Marker) → word ≢ marker_text m) → HidesEntry hmac_sha1 host (word ++ after)
  other_marker none = marker_hides hmac_sha1 host (word ++ after) (word ++ after) stays_so (no_marker (word ++ after) word after (without_blanks after) cut_word refl at none)

  pub second_marker : slice_index (without_blanks after) 0 ≡ at_sign → HidesEntry hmac_sha1 host (word ++ after)
  second_marker also = marker_hides hmac_sha1 host (word ++ after) (word ++ after) stays_so (two_markers (word ++ after) word after (without_blanks after) cut_word refl at also)

  pub tab_after : word ≡ marker_text CertAuthority → (EndsMarker CertAuthority after → ⊥) → HidesEntry hmac_sha1 host (word ++ after)
  tab_after is no_space = marker_hides hmac_sha1 host (word ++ after) (word ++ after) stays_so (no_end (word ++ after) word after (without_blanks after) cut_word refl CertAuthority is no_space at)

-- ---- several lines

pub pair : (name x y : List ℕ) (v w v_after w_after : Verdict) → Say name (x ∷ []) v w → Say name (y ∷ []) v_after w_after → Say name (x ∷ y ∷ []) (max_severity_of v v_after) (max_severity_of w w_after)
pair name x y v w v_after w_after here there = (
  say.both hmac_sha1 name ed25519_key (x ∷ []) (y ∷ []) v v_after here.0 there.0,
  say.both hmac_sha1 name authority (x ∷ []) (y ∷ []) w w_after here.1 there.1,
)

other_read : IsHostLine other_line (record { marker = None; hosts = Patterns (patterns host); key = authority; comment = [] })
unfolding without_front
other_read = read other_line None host (space ∷ other_text)
    (record { no_zero = lacks 0 other_line refl; no_comment = λ is. omega (arith, is); marked = (refl, λ is. omega (arith, is)); one_word = field host refl; ends = inr refl })
    (Patterns (patterns host)) host_is authority [] (other_fields [] [] (inl refl) refl)

pub other_said : Say host (other_line ∷ []) verdict.Changed verdict.Trusted
other_said = (
  say.changed hmac_sha1 host ed25519_key other_line _ other_read refl (λ e. apart (sym e)) host_fits,
  say.trusted hmac_sha1 host authority other_line _ other_read refl refl host_fits,
)

pub said_of_host : SaysOfKeys (host, host)
said_of_host = says_of_keys host host refl (Patterns (patterns host)) host_is host_fits

-- ---- authorities

module _ (name text : List ℕ) (m : Option Marker) (h : Hosts) (comment : List ℕ) (is : IsHostLine text (record { marker = m; hosts = h; key = ed25519_key; comment = comment })) where
  pub of_authority : m ≡ Some CertAuthority → AreFor hmac_sha1 name h → IsAuthority hmac_sha1 name ed25519_key (text ∷ [])
  of_authority mark fits = say.this (Lists hmac_sha1 name (Some CertAuthority) ed25519_key) text (say.listed hmac_sha1 name ed25519_key text _ is (Some CertAuthority) ed25519_key mark refl fits)

  pub of_none : (k : Key) → (m ≡ Some CertAuthority → ed25519_key ≡ k → AreFor hmac_sha1 name h → ⊥) → ¬ IsAuthority hmac_sha1 name k (text ∷ [])
  of_none k none = say.not_listed hmac_sha1 name k text _ is (Some CertAuthority) k none

-- a line of the host's with the first key
pub host_line : (m : Option Marker) → IsHostLine (line m host) (record { marker = m; hosts = Patterns (patterns host); key = ed25519_key; comment = [] })
host_line = read_line host host refl (Patterns (patterns host)) host_is

pub unnamed_at_port : AreFor hmac_sha1 (codes "[h.example]:2222") (Patterns (patterns host)) → ⊥
unfolding patterns
unnamed_at_port fits = never ((decides_for (codes "[h.example]:2222") host).1 fits)

pub unnamed_elsewhere : AreFor hmac_sha1 (codes "g.example") (Patterns (patterns host)) → ⊥
unfolding patterns
unnamed_elsewhere fits = never ((decides_for (codes "g.example") host).1 fits)

-- What the worked examples cite: lines with keys of former kinds, and of names that are like them.
use Rattle.std.proofs.Common.{◌≡◌, ◌<◌, ℕ, List, [], ◌∷◌, ◌++◌, length, slice_index, Option, option_map, true, false, codes, inl, inr, refl, sym, ap, subst, ◌∙◌, arith}
use Rattle.base64.specs.Engines.{standard}
use Rattle.base64.specs.GeneralPurpose.{IsBytes, encode_of}
use Rattle.base64.specs.Rfc4648.{encode_symbols}
use Rattle.sshkey_model.specs.CertificateExamples.{authority}
use Rattle.sshkey_model.specs.Grammar.{value_at}
use Rattle.sshkey_model.specs.HexText.{hex}
use Rattle.sshkey_model.specs.KeyExamples.{ed25519_bytes, ed25519_key}
use Rattle.sshkey_model.specs.Keys.{Head, Key, Opaque, Plain, SpellsKey, key_at}
use Rattle.sshkey_model.specs.Labels.{label_at}
use Rattle.sshkey_model.specs.Lines.{space}
use Rattle.sshkey_model.specs.Names.{is_other_name, is_own_name, named}
use Rattle.sshkey_model.specs.Parts.{flat}
use Rattle.sshkey_model.specs.Reading.{after_at, box_at, bytes_at, number_at, string_at}
use Rattle.sshkey_model.proofs.Base64Words.{is_other_than, one_blob}
use Rattle.sshkey_model.proofs.Blobs.{key_blobs}
use Rattle.sshkey_model.proofs.CombinedReaders.{bytes_fit}
use Rattle.sshkey_model.proofs.Grammars.{grammar_with, read_alone}
use Rattle.sshkey_model.proofs.KeyReaders.{key_reads}
use Rattle.sshkey_model.proofs.LawfulReaders.{done, ok_is}
use Rattle.sshkey_model.proofs.LineTests.{all_characters}
use Rattle.sshkey_matching.specs.Patterns.{patterns}
use Rattle.sshkey_public.specs.Lines.{IsNoWord}
use Rattle.sshkey_entries.specs.Fields.{AreNoKeyFields, without_blanks, without_front, AreFields}
use Rattle.sshkey_entries.specs.HostVerdicts.{HidesEntry}
use Rattle.sshkey_entries.specs.KnownHosts.{Marker, Patterns, after_marker}
use Rattle.sshkey_entries.specs.OpenSshLines.{IsOtherHostLine}
use Rattle.sshkey_entries.specs.OtherKeys.{AreForeignKeyFields, IsFormerName, IsOtherName}
use Rattle.sshkey_entries.proofs.KeyFields.{bad_word, other_name}
use Rattle.sshkey_entries.proofs.OtherKeys.{named_under}
use Rattle.sshkey_known_hosts.specs.Examples.{Say, host, misnamed_text, webauthn_text, xmss_line, xmss_text}
use Rattle.sshkey_known_hosts.specs.HostEntries.{marker_of}
use Rattle.sshkey_known_hosts.specs.HostLines.{HasNamedHosts}
use Rattle.sshkey_known_hosts.specs.Hmac.{hmac_sha1}
use Rattle.sshkey_known_hosts.specs.Verdicts.{marked_verdict_of}
use Rattle.sshkey_known_hosts.specs.declared.marker.Marker as code
use Rattle.sshkey_known_hosts.proofs.ExampleLemmas.{differ, field, host_fits, host_is, never, own_spelled, parts_before}
use Rattle.sshkey_known_hosts.proofs.HostCuts.{fields_hide}
use Rattle.sshkey_known_hosts.proofs.Verdicts as say

-- ---- bytes of no key

-- Bytes from which a key is read, and others are left, spell none.
left_over : (blob rest : List ℕ) (k : Key × Head) → key_at blob ≡ done (k, rest) → 0 < length rest → (v : Key) → SpellsKey v blob → ⊥
left_over blob rest k e some v s =
    let read : value_at key_at blob ≡ done (k.0, rest) = rw e refl in
    let same : (k.0, rest) ≡ (v, []) = ok_is (k.0, rest) (v, []) (sym read ∙ read_alone (grammar_with key_reads) v blob s) in
    omega (arith, some, ap (λ (p : Key × List ℕ). length p.1) same)

no_value : (word blob : List ℕ) → word ≡ encode_of standard blob → IsBytes blob → ((v : Key) → SpellsKey v blob → ⊥) → IsNoWord SpellsKey word
no_value word blob is bytes none v w = none v (subst (SpellsKey v) (one_blob w.blob blob (bytes_fit w.blob (key_blobs.bytes v w.blob w.spelled)) bytes (sym w.is ∙ is)) w.spelled)

no_key_in : (text name word : List ℕ) → AreFields text name word [] → IsNoWord SpellsKey word → AreNoKeyFields text
no_key_in text name word f none = bad_word text name f.after (without_blanks f.after) word [] f.first refl f.second none

-- ---- a line of the host's

module _ (fields : List ℕ) (whole : all_characters (is_other_than 0) (space ∷ fields) ≡ true) (stays : fields ≡ without_blanks (space ∷ fields)) (m : Option Marker) where
  named_line : HasNamedHosts hmac_sha1 host (after_marker m (host ++ (space ∷ fields))) m fields
  named_line = let has = parts_before fields whole m host refl in record {
    no_zero = has.no_zero;
    hosts_part = host;
    after_hosts = space ∷ fields;
    hosts = Patterns (patterns host);
    no_comment = has.no_comment;
    marked = has.marked;
    one_word = has.one_word;
    hosts_end = has.ends;
    are = host_is;
    is_for = host_fits;
    fields_are = stays;
  }

  hides : AreNoKeyFields fields → (AreForeignKeyFields fields → ⊥) → HidesEntry hmac_sha1 host (after_marker m (host ++ (space ∷ fields)))
  hides = fields_hide hmac_sha1 host (after_marker m (host ++ (space ∷ fields))) m fields named_line

  foreign_line : AreForeignKeyFields fields → IsOtherHostLine (after_marker m (host ++ (space ∷ fields))) m (Patterns (patterns host))
  foreign_line are = let has = parts_before fields whole m host refl in record {
    no_zero = has.no_zero;
    hosts_part = host;
    after_hosts = space ∷ fields;
    no_comment = has.no_comment;
    marked = has.marked;
    one_word = has.one_word;
    hosts_end = has.ends;
    are = host_is;
    fields = subst AreForeignKeyFields stays are;
  }

-- ---- XMSS

abbrev xmss_name : List ℕ
xmss_name = codes "ssh-xmss@openssh.com"

abbrev xmss_word : List ℕ
xmss_word = codes "AAAAFHNzaC14bXNzQG9wZW5zc2guY29tAAAAFVhNU1NfU0hBMi0yNTZfVzE2X0gxMAAAAEC5rpxc6nN/f6k8f/5nWhQ87mqPEujl3o43jDC8RMsC87hTHqsCeVpkiX78DoCZtQJWHAEP3qB0oS2SdMly6sex"

abbrev xmss_rest : List ℕ
xmss_rest = hex "00000040b9ae9c5cea737f7fa93c7ffe675a143cee6a8f12e8e5de8e378c30bc44cb02f3b8531eab02795a64897efc0e8099b502561c010fdea074a12d9274c972eac7b1"

abbrev xmss_left : List ℕ
xmss_left = hex "00000015584d53535f534841322d3235365f5731365f483130" ++ xmss_rest

abbrev xmss_blob : List ℕ
xmss_blob = hex "000000147373682d786d7373406f70656e7373682e636f6d" ++ xmss_left

xmss_fields : AreFields xmss_text xmss_name xmss_word []
unfolding without_front
xmss_fields = record {
  after = space ∷ xmss_word;
  first = record { is = refl; one_word = field xmss_name refl; ends = inr refl };
  second = record { field = xmss_word; is = refl; one_word = field xmss_word refl; ends = inl refl; word_is = refl };
}

xmss_encoded : xmss_word ≡ encode_of standard xmss_blob
unfolding encode_symbols
xmss_encoded = refl

xmss_read : key_at xmss_blob ≡ done ((Opaque xmss_name (hex "584d53535f534841322d3235365f5731365f483130"), Plain), xmss_rest)
unfolding key_at label_at after_at box_at string_at number_at bytes_at named is_other_name is_own_name
xmss_read = refl

xmss_foreign : AreForeignKeyFields xmss_text
unfolding flat
xmss_foreign = inr (
  record {
    name = xmss_name;
    word = xmss_word;
    rest = [];
    fields = xmss_fields;
    named = inl refl;
    spelled = record { blob = xmss_blob; rest = xmss_left; bytes = bytes_fit xmss_blob refl; begins = refl; is = xmss_encoded };
  },
  no_key_in xmss_text xmss_name xmss_word xmss_fields (no_value xmss_word xmss_blob xmss_encoded (bytes_fit xmss_blob refl) (left_over xmss_blob xmss_rest _ xmss_read (omega arith))),
)

pub xmss_said : (m : Option code.Marker) → Say host (xmss_line (option_map marker_of m) ∷ []) (marked_verdict_of m false) (marked_verdict_of m false)
unfolding without_front
xmss_said m =
    let n = option_map marker_of m in
    let is = foreign_line xmss_text refl refl n xmss_foreign in (
      say.by_other_marker hmac_sha1 host ed25519_key (xmss_line n) n (Patterns (patterns host)) is m refl host_fits,
      say.by_other_marker hmac_sha1 host authority (xmss_line n) n (Patterns (patterns host)) is m refl host_fits,
    )

-- ---- the name of XMSS before another key

abbrev own_word : List ℕ
own_word = codes "AAAAC3NzaC1lZDI1NTE5AAAAILM+rvN+ot98qgEN796jTiQfZfG1KaT0PtFDJ/XFSqti"

misnamed_fields : AreFields misnamed_text xmss_name own_word []
unfolding without_front
misnamed_fields = record {
  after = space ∷ own_word;
  first = record { is = refl; one_word = field xmss_name refl; ends = inr refl };
  second = record { field = own_word; is = refl; one_word = field own_word refl; ends = inl refl; word_is = refl };
}

own_encoded : own_word ≡ encode_of standard ed25519_bytes
unfolding encode_symbols
own_encoded = refl

misnamed_no_key : AreNoKeyFields misnamed_text
misnamed_no_key =
    let f = misnamed_fields in
    other_name misnamed_text xmss_name f.after (without_blanks f.after) own_word [] f.first refl f.second ed25519_key (record { blob = ed25519_bytes; spelled = own_spelled; is = own_encoded })
    (differ xmss_name (codes "ssh-ed25519") refl)

misnamed_not_foreign : AreForeignKeyFields misnamed_text → ⊥
unfolding flat
misnamed_not_foreign (inl other) = never ((named_under misnamed_text xmss_name own_word [] misnamed_fields IsOtherName other).0.characters 8 (omega arith))
misnamed_not_foreign (inr former) =
    let s = (named_under misnamed_text xmss_name own_word [] misnamed_fields IsFormerName former.0).1 in
    let same : ed25519_bytes ≡ s.blob = one_blob ed25519_bytes s.blob (bytes_fit ed25519_bytes refl) s.bytes (sym own_encoded ∙ s.is) in
    let number : 11 ≡ 20 = ap (λ (l : List ℕ). slice_index l 3) (same ∙ s.begins) in
    omega (arith, number)

pub misnamed_hides : (m : Option Marker) → HidesEntry hmac_sha1 host (after_marker m (host ++ (space ∷ misnamed_text)))
unfolding without_front
misnamed_hides m = hides misnamed_text refl refl m misnamed_no_key misnamed_not_foreign

-- ---- the name of WebAuthn

abbrev webauthn_name : List ℕ
webauthn_name = codes "webauthn-sk-ecdsa-sha2-nistp256@openssh.com"

abbrev webauthn_word : List ℕ
webauthn_word = codes "AAAAK3dlYmF1dGhuLXNrLWVjZHNhLXNoYTItbmlzdHAyNTZAb3BlbnNzaC5jb20AAAAIbmlzdHAyNTYAAABBBGsX0fLhLEJH+Lzm5WOkQPJ3A32BLeszoPShOUXYmMKWT+NC4v4af5uO5+tKfA+eFivOM1drMV7Oy7ZAaDe/UfUAAAAEc3NoOg=="

abbrev webauthn_rest : List ℕ
webauthn_rest = hex "00000041046b17d1f2e12c4247f8bce6e563a440f277037d812deb33a0f4a13945d898c2964fe342e2fe1a7f9b8ee7eb4a7c0f9e162bce33576b315ececbb6406837bf51f5000000047373683a"

abbrev webauthn_blob : List ℕ
webauthn_blob = hex "0000002b776562617574686e2d736b2d65636473612d736861322d6e69737470323536406f70656e7373682e636f6d000000086e69737470323536" ++ webauthn_rest

webauthn_fields : AreFields webauthn_text webauthn_name webauthn_word []
unfolding without_front
webauthn_fields = record {
  after = space ∷ webauthn_word;
  first = record { is = refl; one_word = field webauthn_name refl; ends = inr refl };
  second = record { field = webauthn_word; is = refl; one_word = field webauthn_word refl; ends = inl refl; word_is = refl };
}

webauthn_encoded : webauthn_word ≡ encode_of standard webauthn_blob
unfolding encode_symbols
webauthn_encoded = refl

webauthn_read : key_at webauthn_blob ≡ done ((Opaque webauthn_name (codes "nistp256"), Plain), webauthn_rest)
unfolding key_at label_at after_at box_at string_at number_at bytes_at named is_other_name is_own_name
webauthn_read = refl

webauthn_no_key : AreNoKeyFields webauthn_text
webauthn_no_key = no_key_in webauthn_text webauthn_name webauthn_word webauthn_fields (no_value webauthn_word webauthn_blob webauthn_encoded (bytes_fit webauthn_blob refl) (left_over webauthn_blob webauthn_rest _ webauthn_read (omega arith)))

webauthn_not_foreign : AreForeignKeyFields webauthn_text → ⊥
webauthn_not_foreign (inl other) = never ((named_under webauthn_text webauthn_name webauthn_word [] webauthn_fields IsOtherName other).0.characters 31 (omega arith))
webauthn_not_foreign (inr former) = elim (named_under webauthn_text webauthn_name webauthn_word [] webauthn_fields IsFormerName former.0).0 [
  | inl is ↦ differ webauthn_name xmss_name refl is
  | inr is ↦ differ webauthn_name (codes "ssh-xmss-cert-v01@openssh.com") refl is
]

pub webauthn_hides : (m : Option Marker) → HidesEntry hmac_sha1 host (after_marker m (host ++ (space ∷ webauthn_text)))
unfolding without_front
webauthn_hides m = hides webauthn_text refl refl m webauthn_no_key webauthn_not_foreign

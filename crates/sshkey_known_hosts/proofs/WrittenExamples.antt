-- The worked examples of lines that are written hold.
use Rattle.std.proofs.Common.{◌≡◌, ℕ, List, [], ◌∷◌, ◌++◌, codes, length, get_or, None, inr, refl, sym, ap, subst, arith}
use Rattle.std.specs.Char.{encode_utf8}
use Rattle.std.specs.Str.{chars, is_utf8, trim_end}
use Rattle.base64.specs.Rfc4648.{encode_symbols}
use Rattle.sshkey_model.specs.KeyExamples.{ed25519_bytes, ed25519_key}
use Rattle.sshkey_model.specs.Lines.{IsKeyLine, is_word_character, space}
use Rattle.sshkey_model.specs.Parts.{flat}
use Rattle.sshkey_model.proofs.LineTests.{each, lacks}
use Rattle.sshkey_matching.specs.Patterns.{patterns}
use Rattle.sshkey_entries.specs.Fields.{without_front}
use Rattle.sshkey_entries.specs.KnownHosts.{IsHosts, IsKnownHost, Patterns, known_text}
use Rattle.sshkey_entries.specs.OpenSshLines.{IsHostLine}
use Rattle.sshkey_entries.proofs.Fields.{same_field}
use Rattle.sshkey_public.specs.WrittenLines.{IsOneLine, carriage_return, line_feed}
use Rattle.sshkey_known_hosts.specs.Examples.{host, key_text, written}
use Rattle.sshkey_known_hosts.specs.HostEntries.{IsReadBack}
use Rattle.sshkey_known_hosts.proofs.ExampleLemmas.{field, host_is, host_line, own_spelled}

key_alone : IsKeyLine key_text ed25519_key []
unfolding is_utf8 trim_end chars encode_utf8 encode_symbols
key_alone = record {
  blob = ed25519_bytes;
  spelled = own_spelled;
  line = record { utf8 = refl; is = refl; some_first = omega arith; some_blob = omega arith; characters = each is_word_character (codes "ssh-ed25519") refl };
}

one_pattern : IsHosts host (Patterns (host ∷ []))
unfolding patterns
one_pattern = host_is

host_text : known_text (written host) ≡ host ++ (space ∷ key_text)
unfolding encode_symbols flat
host_text = refl

host_known : IsKnownHost (host ++ (space ∷ key_text)) (written host)
host_known = record { hosts_part = host; rest = key_text; is = (refl, λ e. omega (arith, e)); one_word = lacks space host refl; hosts = one_pattern; line = key_alone }

host_read : IsHostLine (host ++ (space ∷ key_text)) (written host)
unfolding patterns
host_read = host_line None

host_whole : IsOneLine (host ++ (space ∷ key_text))
host_whole = (lacks line_feed (host ++ (space ∷ key_text)) refl, lacks carriage_return (host ++ (space ∷ key_text)) refl)

pub host_back : IsReadBack (written host)
host_back = record {
  one_line = subst IsOneLine (sym host_text) host_whole;
  read = subst (λ (t : List ℕ). IsKnownHost t (written host)) (sym host_text) host_known;
  read_openssh = subst (λ (t : List ℕ). IsHostLine t (written host)) (sym host_text) host_read;
}

abbrev tabbed : List ℕ
tabbed = codes "a" ++ (9 ∷ codes "b")

tab_text : known_text (written tabbed) ≡ codes "a" ++ (9 ∷ (codes "b " ++ key_text))
unfolding encode_symbols flat
tab_text = refl

-- its field is what stands before the tab
tab_line : IsHostLine (codes "a" ++ (9 ∷ (codes "b " ++ key_text))) (written tabbed) → ⊥
unfolding without_front patterns
tab_line r =
    let same = same_field r.hosts_part (codes "a") r.after_hosts (9 ∷ (codes "b " ++ key_text)) r.one_word (field (codes "a") refl) r.hosts_end (inr refl) (sym r.marked.0) in
    let one : (tabbed ∷ []) ≡ codes "a" ∷ [] = (subst (λ (t : List ℕ). IsHosts t (Patterns (tabbed ∷ []))) same.0 r.hosts).are in
    omega (arith, ap (λ (ps : List (List ℕ)). length (get_or ps 0 [])) one)

pub tab_read : IsHostLine (known_text (written tabbed)) (written tabbed) → ⊥
tab_read r = tab_line (subst (λ (t : List ℕ). IsHostLine t (written tabbed)) tab_text r)

-- When a line is an entry of known_hosts as OpenSSH reads it.
use Rattle.std.proofs.Common.{◌≡◌, ◌≢◌, ℕ, List, ◌++◌, slice_index, Option, None, Some, Bool, not, refl, sym, ap, subst, ◌∙◌, arith, ◌<◌, ◌≤◌, length, IsTrue, true, false}
use Rattle.std.proofs.lemmas.Bool.{not-true}
use Rattle.sshkey_base.specs.Causes.{cause, NoMemory}
use Rattle.sshkey_base.specs.declared.error.Error.{Error}
use Rattle.sshkey_base.specs.declared.error.Error.TheVariants.{FormatEncoding}
use Rattle.sshkey_model.specs.Lines.{IsWithout}
use Rattle.sshkey_model.proofs.LineTests.{each}
use Rattle.sshkey_entries.specs.Entries.{hash_sign, IsNoEntry}
use Rattle.sshkey_entries.specs.Fields.{without_blanks, IsField, EndsField, AreKeyFields, AreNoKeyFields, is_blank, CutsField, HasKeyFault}
use Rattle.sshkey_entries.specs.KnownHosts.{Marker, CertAuthority, Revoked, marker_text, at_sign, Hosts, IsHosts, KnownHost}
use Rattle.sshkey_entries.specs.OpenSshLines.{EndsMarker, IsMarkedLine, IsHostLine}
use Rattle.sshkey_entries.proofs.Fields.{same_field}
use Rattle.sshkey_entries.proofs.OneOpenSshLine.{one_marked}
use Rattle.sshkey_known_hosts.specs.HostFaults.{HasNoParts, RefusesHosts}
use Rattle.sshkey_known_hosts.proofs.Hosts.{have_parts}
use Rattle.sshkey_known_hosts.specs.HostEntries.{HasHostsField, HasTextFault, HasLineFault, NeedsHostLine}
use Rattle.std.proofs.lemmas.Str.Pattern.{contains_char}
use Rattle.std.specs.Bool.{MatchBool}
use Rattle.std.specs.Str.Pattern.{FindsChar}

-- ---- markers

abbrev is_no_blank : ℕ → Bool
is_no_blank c = not (is_blank c)

-- a marker is a field
marker_field : (m : Marker) → IsField (marker_text m)
marker_field CertAuthority i l = not-true _ (each is_no_blank (marker_text CertAuthority) refl i l)
marker_field Revoked i l = not-true _ (each is_no_blank (marker_text Revoked) refl i l)

one_text : (m n : Marker) → marker_text m ≡ marker_text n → m ≡ n
one_text CertAuthority CertAuthority e = refl
one_text CertAuthority Revoked e = let second : 0x63 ≡ 0x72 = ap (λ (l : List ℕ). slice_index l 1) e in absurd (omega (arith, second))
one_text Revoked CertAuthority e = let second : 0x72 ≡ 0x63 = ap (λ (l : List ℕ). slice_index l 1) e in absurd (omega (arith, second))
one_text Revoked Revoked e = refl

module _ (text word after rest : List ℕ) (cut : CutsField text word after) (skips : rest ≡ without_blanks after) where
  pub marked : (m : Marker) → word ≡ marker_text m → EndsMarker m after → slice_index rest 0 ≢ at_sign → IsMarkedLine (Some m) text rest
  marked m is ends one = (after, cut.is ∙ ap (λ (w : List ℕ). w ++ after) is, (cut.ends, ends), skips, one)

  same_word : (m : Marker) (other : List ℕ) → text ≡ marker_text m ++ other → EndsField other → (word ≡ marker_text m) × (after ≡ other)
  same_word m other is ends = same_field word (marker_text m) after other cut.one_word (marker_field m) cut.ends ends (sym cut.is ∙ is)

  pub no_marker : slice_index text 0 ≡ at_sign → ((m : Marker) → word ≢ marker_text m) → (m : Option Marker) (r : List ℕ) → IsMarkedLine m text r → ⊥
  no_marker at none None r is = is.1 at
  no_marker at none (Some m) r is = none m (same_word m is.0 is.1 is.2.0).0

  pub no_end : (n : Marker) → word ≡ marker_text n → (EndsMarker n after → ⊥) → slice_index text 0 ≡ at_sign → (m : Option Marker) (r : List ℕ) → IsMarkedLine m text r → ⊥
  no_end n is none at None r line = line.1 at
  no_end n is none at (Some m) r line =
      let same = same_word m line.0 line.1 line.2.0 in
      let markers : m ≡ n = one_text m n (sym same.0 ∙ is) in
      none (subst (λ (k : Marker). EndsMarker k after) markers (subst (EndsMarker m) (sym same.1) line.2.1))

  pub two_markers : slice_index text 0 ≡ at_sign → slice_index rest 0 ≡ at_sign → (m : Option Marker) (r : List ℕ) → IsMarkedLine m text r → ⊥
  two_markers at also None r is = is.1 at
  two_markers at also (Some m) r is = is.4 (ap (λ (l : List ℕ). slice_index l 0) (is.3 ∙ ap without_blanks (sym (same_word m is.0 is.1 is.2.0).1) ∙ sym skips) ∙ also)

-- ---- a text

module _ (text : List ℕ) (m : Option Marker) (unmarked hosts rest fields : List ℕ) (is_marked : IsMarkedLine m text unmarked) (cut : CutsField unmarked hosts rest) (skips : fields ≡ without_blanks rest) where
  pub same_hosts : (x y : List ℕ) → HasHostsField text x y → (hosts ≡ x) × (rest ≡ y)
  same_hosts x y f = same_field hosts x rest y cut.one_word f.one_word cut.ends f.ends (sym cut.is ∙ (one_marked text m f.marker unmarked (x ++ y) is_marked f.marked).1)

  pub hosts_fault : (e : Error) → RefusesHosts hosts e → (cause e ≢ NoMemory → IsNoEntry IsHosts hosts) → cause e ≢ NoMemory → HasTextFault text e
  hosts_fault e refused none other = record {
    no_marker = λ nothing. absurd (nothing m unmarked is_marked);
    no_hosts = λ x y f bad. subst (λ (t : List ℕ). RefusesHosts t e) (same_hosts x y f).0 refused;
    no_key = λ x y h f are. absurd (none other h (subst (λ (t : List ℕ). IsHosts t h) (sym (same_hosts x y f).0) are));
  }

  pub key_fault : (e : Error) (h : Hosts) → IsHosts hosts h → HasKeyFault fields e → HasTextFault text e
  key_fault e h are fault = record {
    no_marker = λ nothing. absurd (nothing m unmarked is_marked);
    no_hosts = λ x y f bad. absurd (bad h (subst (λ (t : List ℕ). IsHosts t h) (same_hosts x y f).0 are));
    no_key = λ x y g f also. subst (λ (t : List ℕ). HasKeyFault t e) (skips ∙ ap without_blanks (same_hosts x y f).1) fault;
  }

pub marker_fault : (text : List ℕ) → ((m : Option Marker) (rest : List ℕ) → IsMarkedLine m text rest → ⊥) → HasTextFault text FormatEncoding
marker_fault text none = record {
  no_marker = λ _. refl;
  no_hosts = λ x y f bad. absurd (none f.marker (x ++ y) f.marked);
  no_key = λ x y h f are. absurd (none f.marker (x ++ y) f.marked);
}

-- ---- a line

pub zero_fault : (line : List ℕ) → (IsWithout 0 line → ⊥) → HasLineFault line FormatEncoding
zero_fault line zero = record { zero = λ _. refl; comment = λ _. refl; text = λ without. absurd (zero without) }

module _ (line text : List ℕ) (is : text ≡ without_blanks line) where
  pub comment_read : slice_index text 0 ≡ hash_sign → IsNoEntry IsHostLine line
  comment_read here h k = k.no_comment (ap (λ (t : List ℕ). slice_index t 0) (sym is) ∙ here)

  pub comment_fault : slice_index text 0 ≡ hash_sign → HasLineFault line FormatEncoding
  comment_fault here = record { zero = λ _. refl; comment = λ _. refl; text = λ _ other. absurd (other (ap (λ (t : List ℕ). slice_index t 0) (sym is) ∙ here)) }

  pub no_marker_read : ((m : Option Marker) (rest : List ℕ) → IsMarkedLine m text rest → ⊥) → IsNoEntry IsHostLine line
  no_marker_read none h k = none h.marker (k.hosts_part ++ k.after_hosts) (subst (λ (t : List ℕ). IsMarkedLine h.marker t (k.hosts_part ++ k.after_hosts)) (sym is) k.marked)

  module _ (no_zero : IsWithout 0 line) (no_comment : slice_index text 0 ≢ hash_sign) where
    not_comment : slice_index (without_blanks line) 0 ≢ hash_sign
    not_comment here = no_comment (ap (λ (t : List ℕ). slice_index t 0) is ∙ here)

    pub text_fault : (e : Error) → HasTextFault text e → HasLineFault line e
    text_fault e fault = record { zero = λ zero. absurd (zero no_zero); comment = λ here. absurd (not_comment here); text = λ _ _. subst (λ (t : List ℕ). HasTextFault t e) is fault }

    module _ (m : Option Marker) (unmarked hosts rest fields : List ℕ) (is_marked : IsMarkedLine m text unmarked) (cut : CutsField unmarked hosts rest) (skips : fields ≡ without_blanks rest) where
      parts : (h : KnownHost) (k : IsHostLine line h) → (hosts ≡ k.hosts_part) × (rest ≡ k.after_hosts)
      parts h k = same_hosts text m unmarked hosts rest fields is_marked cut skips k.hosts_part k.after_hosts
          (record { marker = h.marker; marked = subst (λ (t : List ℕ). IsMarkedLine h.marker t (k.hosts_part ++ k.after_hosts)) (sym is) k.marked; one_word = k.one_word; ends = k.hosts_end })

      pub bad_hosts : (e : Error) → (cause e ≢ NoMemory → IsNoEntry IsHosts hosts) → cause e ≢ NoMemory → IsNoEntry IsHostLine line
      bad_hosts e none other h k = none other h.hosts (subst (λ (t : List ℕ). IsHosts t h.hosts) (sym (parts h k).0) k.hosts)

      pub bad_host_key : (e : Error) → (cause e ≢ NoMemory → AreNoKeyFields fields) → cause e ≢ NoMemory → IsNoEntry IsHostLine line
      bad_host_key e none other h k = none other h.key h.comment (subst (λ (t : List ℕ). AreKeyFields t h.key h.comment) (ap without_blanks (sym (parts h k).1) ∙ sym skips) k.fields)

      pub line_needs : (HasNoParts hosts → ⊥) → NeedsHostLine line
      line_needs some = record {
        hosts = hosts;
        rest = rest;
        no_zero = no_zero;
        no_comment = not_comment;
        field = record {
          marker = m;
          marked = subst (IsMarkedLine m (without_blanks line)) cut.is (subst (λ (t : List ℕ). IsMarkedLine m t unmarked) is is_marked);
          one_word = cut.one_word;
          ends = cut.ends;
        };
        some = some;
      }

      pub line_read : (h : KnownHost) → m ≡ h.marker → IsHosts hosts h.hosts → AreKeyFields fields h.key h.comment → IsHostLine line h
      line_read h same are key = record {
        no_zero = no_zero;
        hosts_part = hosts;
        after_hosts = rest;
        no_comment = not_comment;
        marked = subst (λ (n : Option Marker). IsMarkedLine n (without_blanks line) (hosts ++ rest)) same (subst (IsMarkedLine m (without_blanks line)) cut.is (subst (λ (t : List ℕ). IsMarkedLine m t unmarked) is is_marked));
        one_word = cut.one_word;
        hosts_end = cut.ends;
        hosts = are;
        fields = subst (λ (t : List ℕ). AreKeyFields t h.key h.comment) skips key;
      }

-- An entry needs memory.
pub entry_needs : (line : List ℕ) (h : KnownHost) → IsHostLine line h → NeedsHostLine line
entry_needs line h k = record {
  hosts = k.hosts_part;
  rest = k.after_hosts;
  no_zero = k.no_zero;
  no_comment = k.no_comment;
  field = record { marker = h.marker; marked = k.marked; one_word = k.one_word; ends = k.hosts_end };
  some = have_parts k.hosts_part h.hosts k.hosts;
}

-- Whether a character of ASCII stands in a line.

-- what `contains` says of it
module _ (c : ℕ) (ascii : c < 128) (line : List ℕ) (found : Bool) (cases : MatchBool found ((i : ℕ) × (j : ℕ) × FindsChar c line (Some (i, j)) × (i ≤ j) × (j ≤ length line)) (FindsChar c line None)) where
  pub with_it : found ≡ true → IsWithout c line → ⊥
  with_it e without = let here = (contains_char c line found cases ascii).0 e in without here.0 here.1 here.2

  pub without_it : found ≡ false → IsWithout c line
  without_it e i l is = cc (sym ((contains_char c line found cases ascii).1 i l is) ∙ e)

-- that it says of none
pub not_contained : (c : ℕ) → c < 128 → (line : List ℕ) (found : Bool) → MatchBool found ((i : ℕ) × (j : ℕ) × FindsChar c line (Some (i, j)) × (i ≤ j) × (j ≤ length line)) (FindsChar c line None) → (IsTrue (not found) → IsWithout c line) × (IsWithout c line → IsTrue (not found))
not_contained c ascii line true cases = (λ never. cc never, λ without. absurd (with_it c ascii line true cases refl without))
not_contained c ascii line false cases = (λ _. without_it c ascii line false cases refl, λ _. refl)

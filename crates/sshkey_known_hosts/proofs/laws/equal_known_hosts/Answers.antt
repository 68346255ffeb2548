use Rattle.std.proofs.Common.{◌≡◌, ℕ, List, Bool, Option, None, Some, option_map, refl, ap, sym, true≢false}
use Rattle.std.specs.Bool.{Decides}
use Rattle.std.specs.Option.{option_eq}
use Rattle.std.proofs.lemmas.Bool.Decides.{Decides-and, Decides-like}
use Rattle.sshkey_model.specs.Keys.{Key}
use Rattle.sshkey_base.proofs.Comparisons.{both}
use Rattle.sshkey_entries.specs.KnownHosts as known
use Rattle.sshkey_entries.specs.KnownHosts.{KnownHost}
use Rattle.sshkey_known_hosts.specs.HostEntries.{known_host_of, marker_of}
use Rattle.sshkey_known_hosts.specs.declared.marker.Marker.{Marker}
use Rattle.sshkey_known_hosts.proofs.laws.equal_known_hosts.Goals as goal

some_same : (m n : known.Marker) → Some m ≡ Some n → m ≡ n
some_same m n e = cc

no_marker : (m : known.Marker) → None ≡ Some m → ⊥
no_marker m e = cc e

-- markers, or none
optional_markers : (E : Marker → Marker → Bool) → ((m n : Marker) → Decides (E m n) (marker_of m ≡ marker_of n)) → (m n : Option Marker) → Decides (option_eq E m n) (option_map marker_of m ≡ option_map marker_of n)
optional_markers E h None None = (λ _. refl, λ _. refl)
optional_markers E h None (Some n) = (λ never. absurd (true≢false (sym never)), λ same. absurd (no_marker _ same))
optional_markers E h (Some m) None = (λ never. absurd (true≢false (sym never)), λ same. absurd (no_marker _ (sym same)))
optional_markers E h (Some m) (Some n) = Decides-like _ (ap Some) (some_same _ _) (h m n)

-- each part is the same
abbrev SameParts : KnownHost → KnownHost → Type 0
SameParts a b = (a.marker ≡ b.marker) × ((a.hosts ≡ b.hosts) × ◌≡◌ {A = Key × List ℕ} (a.key, a.comment) (b.key, b.comment))

together : (a b : KnownHost) → SameParts a b → a ≡ b
together a b (marker, (hosts, key)) = λ j. record { marker = marker j; hosts = hosts j; key = (key j).0; comment = (key j).1 }

apart : (a b : KnownHost) → a ≡ b → SameParts a b
apart a b same = (ap (λ (h : KnownHost). h.marker) same, (ap (λ (h : KnownHost). h.hosts) same, λ j. ((same j).key, (same j).comment)))

pub returns-clause-equal : goal.returns-clause-equal
returns-clause-equal c = λ x y is_x is_y. Decides-like _ (together (known_host_of x) (known_host_of y)) (apart (known_host_of x) (known_host_of y))
    (Decides-and _ _ (optional_markers _ c.equal_markers.ensures x.marker y.marker)
    (Decides-and _ _ (c.equal_hosts.ensures x.host_patterns y.host_patterns)
    (c.compared_public_keys.ensures.equal x.public_key y.public_key is_x is_y)))

pub returns-clause-same : goal.returns-clause-same
returns-clause-same c = λ x y is. together (known_host_of x) (known_host_of y)
    (both _ _ (optional_markers _ c.equal_markers.ensures x.marker y.marker).0
    (both _ _ (c.equal_hosts.ensures x.host_patterns y.host_patterns).0
    (c.compared_public_keys.ensures.same x.public_key y.public_key)) is)

use Rattle.std.proofs.Common.{◌≡◌, ℕ, List, refl, ap, sym, false, true≢false, nat_eq}
use Rattle.std.proofs.lemmas.Bool.{eqb-false}
use Rattle.std.specs.Bool.{Decides}
use Rattle.std.proofs.lemmas.Bool.Decides.{Decides-and, Decides-like}
use Rattle.std.proofs.lemmas.Slice.Eq.{bytes_eq-Decides, slice_eq-Decides}
use Rattle.sshkey_entries.specs.KnownHosts.{Hosts, HashedName, Patterns}
use Rattle.sshkey_known_hosts.specs.HostEntries.{hosts_of}
use Rattle.sshkey_known_hosts.specs.declared.host_patterns.HostPatterns.TheVariants as hosts
use Rattle.sshkey_known_hosts.proofs.laws.equal_hosts.Goals as goal

same_patterns : (ps qs : List (List ℕ)) → Patterns ps ≡ Patterns qs → ps ≡ qs
same_patterns ps qs e = cc

same_hashes : (s t h i : List ℕ) → HashedName s h ≡ HashedName t i → (s ≡ t) × (h ≡ i)
same_hashes s t h i e = (cc, cc)

hashed : (s t h i : List ℕ) → (s ≡ t) × (h ≡ i) → HashedName s h ≡ HashedName t i
hashed s t h i (salt, hash) = rw (salt, hash) refl

-- the place of a kind in the list of kinds
abbrev place : Hosts → ℕ
place (Patterns ps) = 0
place (HashedName s h) = 1

-- hosts of two kinds are not the same
apart : (x y : Hosts) → nat_eq (place x) (place y) ≡ false → Decides false (x ≡ y)
apart x y e = (λ never. absurd (true≢false (sym never)), λ same. absurd (eqb-false (place x) (place y) e (ap place same)))

pub returns : goal.returns
returns c (hosts.Patterns x) (hosts.Patterns y) = Decides-like _ (ap Patterns) (same_patterns _ _) (slice_eq-Decides bytes_eq-Decides x.items y.items _ refl)
returns c (hosts.HashedName s h) (hosts.HashedName t i) = Decides-like _ (hashed _ _ _ _) (same_hashes _ _ _ _) (Decides-and _ _ (bytes_eq-Decides _ _) (bytes_eq-Decides _ _))
returns c x y = apart (hosts_of x) (hosts_of y) refl

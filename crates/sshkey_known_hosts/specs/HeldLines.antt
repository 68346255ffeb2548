-- The lines of several texts of known_hosts, and those that are held.
use denote.Ref.{Bor}
use Rattle.std.specs.List.{flat_map}
use Rattle.std.specs.Prelude.{ℕ, List, ◌≡◌, ◌≤◌, ◌+◌, [], ◌∷◌, ◌++◌, length, take, drop, ◌↔◌}
use Rattle.sshkey_entries.specs.Fields.{filled_lines}
use Rattle.sshkey_known_hosts.specs.declared.held_line.HeldLine.{HeldLine}
use Rattle.sshkey_known_hosts.specs.HeldNames.{TellsNames}
use Rattle.sshkey_known_hosts.specs.declared.places.LinePlace.{LinePlace}
use Rattle.sshkey_entries.specs.HostVerdicts.{HidesSome, IsAuthority, IsKnown, IsListed, IsRevoked}
use Rattle.sshkey_model.specs.Keys.{Key}

-- the lines of all the texts, in order, without empty lines and comments
abbrev pub lines_of : List (Bor (List ℕ)) → List (List ℕ)
lines_of texts = flat_map (λ text. filled_lines text.now) texts

abbrev pub held_lines : List HeldLine → List (List ℕ)
held_lines held = flat_map (λ h. filled_lines h.text.now) held

-- The places of the lines of a text of known_hosts.

abbrev pub total_length : List LinePlace → ℕ
total_length [] = 0
total_length (p ∷ places) = p.length + total_length places

-- The text begins with so many bytes, its lines are theirs and those of what follows, and the names
-- of theirs are told.
pub record IsPlaceOf (p : LinePlace) (text : List ℕ) : Type 0 where
  pub fits : p.length ≤ length text
  pub cut : filled_lines text ≡ filled_lines (take p.length text) ++ filled_lines (drop p.length text)
  pub names : TellsNames p.names (take p.length text)

-- They go over the whole text, one after the other.
abbrev pub ArePlacesOf : List LinePlace → List ℕ → Type 0
ArePlacesOf [] text = text ≡ []
ArePlacesOf (p ∷ places) text = IsPlaceOf p text × ArePlacesOf places (drop p.length text)

-- Lines of known_hosts that say the same of a name.

-- They revoke the same keys, list the same ones and the same authorities, and some line may be
-- hidden, and some key is listed, among these exactly if among those.
pub record SaySame (hmac : List ℕ → List ℕ → List ℕ) (name : List ℕ) (lines others : List (List ℕ)) : Type 0 where
  pub revoked : (key : Key) → IsRevoked hmac name key lines ↔ IsRevoked hmac name key others
  pub hidden : HidesSome hmac name lines ↔ HidesSome hmac name others
  pub listed : (key : Key) → IsListed hmac name key lines ↔ IsListed hmac name key others
  pub known : IsKnown hmac name lines ↔ IsKnown hmac name others
  pub authority : (key : Key) → IsAuthority hmac name key lines ↔ IsAuthority hmac name key others

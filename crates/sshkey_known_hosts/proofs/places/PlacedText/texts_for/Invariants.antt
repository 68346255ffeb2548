use Rattle.std.proofs.Common.{◌≡◌, ◌++◌, ℕ, List, length}
use Rattle.sshkey_entries.specs.Fields.{filled_lines}
use Rattle.sshkey_entries.specs.HostVerdicts.{known_name, standard_port}
use Rattle.sshkey_known_hosts.specs.HeldLines.{lines_of, ArePlacesOf, total_length, SaySame}
use Rattle.sshkey_known_hosts.proofs.places.PlacedText.texts_for.Given as goal

-- The places that are left are as long as what is left of the text; and where they are its places,
-- the texts say the same of both names as the lines so far.
abbrev pub invariant-places : goal.invariant-places
invariant-places l = (total_length l.places ≡ length l.left) × (ArePlacesOf l.self.places.now l.self.text.now → (before : List (List ℕ)) × (filled_lines l.self.text.now ≡ before ++ filled_lines l.left) × ArePlacesOf l.places l.left × ((hmac : List ℕ → List ℕ → List ℕ) → SaySame hmac (known_name l.host l.port) before (lines_of l.texts.items) × SaySame hmac (known_name l.host standard_port) before (lines_of l.texts.items)))

abbrev pub decreases-places : goal.decreases-places
decreases-places l = length l.places

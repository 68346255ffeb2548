use Rattle.std.proofs.Common.{◌≡◌, ◌+◌, ◌++◌, List, length, take}
use Rattle.std.specs.Str.Lines.{lines}
use Rattle.sshkey_known_hosts.specs.HeldLines.{ArePlacesOf}
use Rattle.sshkey_known_hosts.specs.declared.places.LinePlace.{LinePlace}
use Rattle.sshkey_known_hosts.proofs.places.write_places.Given as goal

-- Places of what is left are, behind those that are written, places of the text; and as many are
-- left as lines.
abbrev pub invariant-lines : goal.invariant-lines
invariant-lines l = ((more : List LinePlace) → ArePlacesOf more l.left → ArePlacesOf (take l.count l.places ++ more) l.text) × (l.count + length (lines l.left) ≡ length l.places)

abbrev pub decreases-lines : goal.decreases-lines
decreases-lines l = length l.left

-- Values that are equal by their bytes are hashed alike.
use Rattle.std.specs.Prelude.{◌≡◌, ℕ, List, true}
use Rattle.std.proofs.Common.{ap}
use Rattle.std.specs.Hash as fed
use Rattle.std.specs.Str.{bytes_eq}
use Rattle.std.proofs.lemmas.Slice.Eq.{bytes_eq-Decides}

pub same_hash : {X : Type 0} (bytes_of : X → List ℕ) (x y : X) → bytes_eq (bytes_of x) (bytes_of y) ≡ true → fed.slice fed.u8 (bytes_of x) ≡ fed.slice fed.u8 (bytes_of y)
same_hash bytes_of x y same = ap (fed.slice fed.u8) ((bytes_eq-Decides (bytes_of x) (bytes_of y)).0 same)

-- What the law of normal forms says of each kind of value.
use Rattle.std.specs.Prelude.{◌≡◌, ◌↔◌, [], Ok}
use Rattle.sshkey_model.specs.Parts.{Fits, Parts, flat}
use Rattle.sshkey_model.specs.Reading.{Front}

-- Two values have equal normal forms exactly if they are equal, and each is read back of its normal
-- form, with nothing left: normalising twice is normalising once.
pub record AreNormalForms {V : Type 0} (Is : V → Type 0) (normal : V → Parts) (read : Front V) : Type 0 where
  pub determine : (v w : V) → Is v → Is w → Fits (normal v) → Fits (normal w) → (flat (normal v) ≡ flat (normal w)) ↔ (v ≡ w)
  pub again : (v : V) → Is v → Fits (normal v) → read (flat (normal v)) ≡ Ok (v, [])

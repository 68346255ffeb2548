-- What ECDSA keys mean.
use Rattle.std.specs.Prelude.{ℕ, List, Bool, false, Ok}
use Rattle.std.specs.Str.{bytes_eq}
use Rattle.sshkey_model.specs.Reading.{Whole, ◌>>=◌}
use Rattle.sshkey_model.specs.Names.{Curve, Nistp256, Nistp384, Nistp521}
use Rattle.sshkey_model.specs.Points.{IsPoint, point_curve}
use Rattle.sshkey_model.specs.Keys.{Key, Ecdsa}
use Rattle.sshkey_kinds.specs.declared.ecdsa.EcdsaPublicKey.{EcdsaPublicKey}
use Rattle.sshkey_kinds.specs.declared.ecdsa.EcdsaPublicKey.TheVariants.{NistP256, NistP384, NistP521}
use Rattle.sshkey_kinds.specs.EcPoint.{point_of}

-- its curve and its point
abbrev pub ecdsa_of : EcdsaPublicKey → Curve × List ℕ
ecdsa_of (NistP256 p) = (Nistp256, point_of p)
ecdsa_of (NistP384 p) = (Nistp384, point_of p)
ecdsa_of (NistP521 p) = (Nistp521, point_of p)

abbrev pub ecdsa_key_of : EcdsaPublicKey → Key
ecdsa_key_of k = Ecdsa (ecdsa_of k).0 (ecdsa_of k).1

-- the key of a point string, whose curve its tag and its length tell
abbrev pub sec1_from : Whole (Curve × List ℕ)
sec1_from b = point_curve b >>= λ c. Ok (c, b)

-- a point string of one of the curves
abbrev pub IsAnyPoint : List ℕ → Type 0
IsAnyPoint b = (c : Curve) × IsPoint c b

-- the same curve and the same bytes
abbrev pub same_key : EcdsaPublicKey → EcdsaPublicKey → Bool
same_key (NistP256 p) (NistP256 q) = bytes_eq (point_of p) (point_of q)
same_key (NistP256 p) _ = false
same_key (NistP384 p) (NistP384 q) = bytes_eq (point_of p) (point_of q)
same_key (NistP384 p) _ = false
same_key (NistP521 p) (NistP521 q) = bytes_eq (point_of p) (point_of q)
same_key (NistP521 p) _ = false

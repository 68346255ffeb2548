-- A key in a box is read as the model reads it, without the choices of its spelling.
use Rattle.std.proofs.Common.{◌≡◌, ℕ, List, [], ◌∷◌, Result, Ok, Err, refl}
use Rattle.sshkey_model.specs.Reading.{Fault, ◌>>=◌, end_of, whole, box_at, after_at}
use Rattle.sshkey_model.specs.Keys.{Key, Head, key_at, key_data_at}
use Rattle.sshkey_model.proofs.CombinedReaders.{bind_assoc}
use Rattle.sshkey_base.proofs.MappedBoxes.{made, on_value, box_map}

-- the key that was read, without the name at its head
abbrev pub plain : Key × Head → Key
plain x = x.0

key_is : (b : List ℕ) → key_data_at b ≡ (key_at b >>= on_value plain)
unfolding key_data_at key_at after_at
key_is b = simp bind_assoc

key_end : (r : Result ((Key × Head) × List ℕ) Fault) → ((r >>= on_value plain) >>= λ x. end_of x.0 x.1) ≡ ((r >>= λ x. end_of x.0 x.1) >>= made plain)
key_end (Ok (x, [])) = refl
key_end (Ok (x, (b ∷ rest))) = refl
key_end (Err e) = refl

pub key_whole : (b : List ℕ) → whole key_data_at b ≡ (whole key_at b >>= made plain)
key_whole b = rw (key_is b) (key_end (key_at b))

pub key_box : (b : List ℕ) → box_at (whole key_data_at) b ≡ (box_at (whole key_at) b >>= on_value plain)
key_box b = box_map (whole key_at) (whole key_data_at) plain key_whole b

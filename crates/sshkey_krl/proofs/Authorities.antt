-- The normal form of an authority's key, also where its bytes are not.
use Rattle.std.proofs.Common.{◌≡◌, ◌≢◌, ◌≤◌, ◌<◌, ℕ, Bool, true, false, ◌&&◌, List, [], ◌∷◌, ◌++◌, length, refl, sym, ap, ◌∙◌, arith}
use Rattle.std.specs.Prelude.{bytes_eq, codes, drop, take, nat_eq}
use Rattle.std.proofs.lemmas.List.{length-append}
use Rattle.sshkey_model.specs.Keys.{Head, Head256, Head512, HasHead, Key, Plain, body, key, key_algorithm, normal_key, SpellsKey}
use Rattle.sshkey_model.specs.Parts.{flat}
use Rattle.sshkey_keys_ref.specs.KeyBytes.{IsRenamed}
use Rattle.sshkey_krl.specs.Writing.{ssh_rsa}

regrouped : (h p q : Bool) → (h && (p && q)) ≡ ((h && p) && q)
regrouped true p q = refl
regrouped false p q = refl

none_false : (p : Bool) → (p && false) ≡ false
none_false true = refl
none_false false = refl

-- to compare with two lists is to compare with each
pub cut : (h b t : List ℕ) → bytes_eq b (h ++ t) ≡ (bytes_eq (take (length h) b) h && bytes_eq (drop (length h) b) t)
cut [] b t = refl
cut (x ∷ h) [] t = refl
cut (x ∷ h) (c ∷ b) t = rw (cut h b t) (regrouped (nat_eq c x) (bytes_eq (take (length h) b) h) (bytes_eq (drop (length h) b) t))

-- a list that is too short is another
short : (h b : List ℕ) → length b < length h → bytes_eq (take (length h) b) h ≡ false
short [] b less = absurd (omega (arith, less))
short (x ∷ h) [] less = refl
short (x ∷ h) (c ∷ b) less = rw (short h b (omega (arith, less))) (none_false (nat_eq c x))

abbrev Same : List ℕ → List ℕ → Bool
Same bytes hashed = bytes_eq (take 11 bytes) ssh_rsa && bytes_eq (drop 11 bytes) (drop 16 hashed)

pub too_short : (bytes hashed : List ℕ) → length bytes < 11 → false ≡ Same bytes hashed
too_short bytes hashed less = rw (short ssh_rsa bytes less) refl

pub other_name : (bytes hashed : List ℕ) → bytes_eq (take 11 bytes) ssh_rsa ≡ false → false ≡ Same bytes hashed
other_name bytes hashed e = rw e refl

pub same_name : (bytes hashed : List ℕ) (y : Bool) → bytes_eq (take 11 bytes) ssh_rsa ≡ true → y ≡ bytes_eq (drop 11 bytes) (drop 16 hashed) → y ≡ Same bytes hashed
same_name bytes hashed y e said = rw e said

-- ---- a key under the name of RSA with a hash

abbrev Parted : List ℕ → List ℕ → Type 0
Parted hashed normal = (16 ≤ length hashed) × (normal ≡ ssh_rsa ++ drop 16 hashed)

at_least : (h t : List ℕ) → length h ≤ length (h ++ t)
at_least h t = omega (arith, length-append h t)

abbrev hashed_name : List ℕ → List ℕ
hashed_name name = 0 ∷ 0 ∷ 0 ∷ 12 ∷ name

parted : (k : Key) (hashed : List ℕ) → SpellsKey k hashed → hashed ≢ flat (normal_key k) → Parted hashed (flat (normal_key k))
unfolding flat
parted k hashed s other = go s.choices s.place s.shape
  where
    go : (h : Head) → HasHead (key_algorithm k) h → hashed ≡ flat (key k h) → Parted hashed (flat (normal_key k))
    go Plain place shape = absurd (other shape)
    go Head256 place shape = rw (shape, place) (at_least (hashed_name (codes "rsa-sha2-256")) (flat (body k)), refl)
    go Head512 place shape = rw (shape, place) (at_least (hashed_name (codes "rsa-sha2-512")) (flat (body k)), refl)

pub renamed : (k : Key) (bytes hashed : List ℕ) (y : Bool) → IsRenamed hashed → SpellsKey k hashed → (16 ≤ length hashed → y ≡ Same bytes hashed) → y ≡ bytes_eq bytes (flat (normal_key k))
renamed k bytes hashed y is s said =
    let p = parted k hashed s (is k s).1 in
    rw (p.1) (said p.0 ∙ sym (cut ssh_rsa bytes (drop 16 hashed)))

pub normal_is : (k : Key) (bytes key normal : List ℕ) (y : Bool) → (normal ≡ key) × ((k : Key) → SpellsKey k key → key ≡ flat (normal_key k)) → SpellsKey k key → y ≡ bytes_eq bytes normal → y ≡ bytes_eq bytes (flat (normal_key k))
normal_is k bytes key normal y is s said = said ∙ ap (bytes_eq bytes) (is.0 ∙ is.1 k s)

pub ruleset authorities = (too_short, other_name, same_name, normal_is)

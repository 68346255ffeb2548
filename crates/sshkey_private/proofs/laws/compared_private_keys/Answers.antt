use Rattle.std.proofs.Common.{◌≡◌, refl, ap}
use Rattle.std.proofs.lemmas.Bool.Decides.{Decides-and, Decides-like}
use Rattle.sshkey_base.proofs.Comparisons.{both}
use Rattle.sshkey_private.specs.Comparisons.{Seen, seen}
use Rattle.sshkey_private.specs.PrivateKeys.{data_of, outer_of}
use Rattle.sshkey_private.proofs.laws.compared_private_keys.Goals as goal

SameFields : Seen → Seen → Type 0
SameFields a b = (a.cipher ≡ b.cipher) × ((a.kdf ≡ b.kdf) × ((a.public ≡ b.public) × (a.pair ≡ b.pair)))

together : (a b : Seen) → SameFields a b → a ≡ b
unfolding SameFields
together a b (cipher, (kdf, (public, pair))) = rw (cipher, kdf, public, pair) refl

apart : (a b : Seen) → a ≡ b → SameFields a b
unfolding SameFields
apart a b same =
    (ap (λ (s : Seen). s.cipher) same, (ap (λ (s : Seen). s.kdf) same, (ap (λ (s : Seen). s.public) same, ap (λ (s : Seen). s.pair) same)))

pub returns-clause-equal : goal.returns-clause-equal
unfolding SameFields
returns-clause-equal c = λ x y is_x is_y. Decides-like _ (together _ _) (apart (seen x) (seen y))
    (Decides-and _ _ (c.compared_ciphers.ensures.equal x.cipher y.cipher)
    (Decides-and _ _ (c.equal_kdfs.ensures x.kdf y.kdf)
    (Decides-and _ _ (c.compared_public_keys.ensures.equal (outer_of x) (outer_of y) is_x is_y) (c.equal_pairs.ensures (data_of x) (data_of y)))))

pub returns-clause-same : goal.returns-clause-same
unfolding SameFields
returns-clause-same c = λ x y is. together (seen x) (seen y)
    (both _ _ (c.compared_ciphers.ensures.equal x.cipher y.cipher).0
    (both _ _ (c.equal_kdfs.ensures x.kdf y.kdf).0
    (both _ _ (c.compared_public_keys.ensures.same (outer_of x) (outer_of y)) (c.equal_pairs.ensures (data_of x) (data_of y)).0)) is)

-- The question about a padded signature is one that a verifier may be asked.
use Rattle.std.proofs.Common.{◌≡◌, ℕ, ◌≤◌, ◌+◌, List, ◌++◌, length, take, true, false, Bool, Some, None, replicate, refl, sym, ap, subst, arith, ◌∙◌}
use Rattle.std.proofs.lemmas.List.{length-replicate, take-replicate}
use Rattle.std.proofs.lemmas.Slice.{take-put_mid}
use Rattle.sshkey_model.specs.Keys.{Key, RsaKey, Dsa, Ecdsa, Ed25519, Rsa, SkEcdsa, SkEd25519, Opaque}
use Rattle.sshkey_model.specs.Names.{Hash, Algorithm}
use Rattle.sshkey_model.specs.Points.{curve_eq}
use Rattle.sshkey_model.specs.Signatures.{Signature}
use Rattle.sshkey_model.specs.Verification.{Question, question_under}
use Rattle.sshkey_keys.specs.Asked.{IsAsked}
use Rattle.openssh_limits.specs.Padding.{padded_blob}
use borrow.Rule.Slice.PartMut.{put_mid}

-- only RSA with a hash asks about an RSA key
by_rsa : (r : RsaKey) (q : Question) (a : Algorithm) (k : Key) (m : List ℕ) (g : Signature) → question_under a k m g ≡ Some q → q.key ≡ Rsa r → (h : Hash) × (g.algorithm ≡ a → q.algorithm ≡ Algorithm.Rsa (Some h))
by_rsa r q (Algorithm.Rsa (Some h)) (Rsa k) m g is of = (h, λ same. cc (is, same))
by_rsa r q Algorithm.Dsa (Dsa k) m g is of = absurd (cc (is, of))
by_rsa r q Algorithm.Ed25519 (Ed25519 k) m g is of = absurd (cc (is, of))
by_rsa r q Algorithm.SkEcdsa (SkEcdsa k) m g is of = absurd (cc (is, of))
by_rsa r q Algorithm.SkEd25519 (SkEd25519 k) m g is of = absurd (cc (is, of))
by_rsa r q (Algorithm.Ecdsa d) (Ecdsa c point) m g is of = go (curve_eq c d) refl
  where
    go : (same : Bool) → curve_eq c d ≡ same → (h : Hash) × (g.algorithm ≡ Algorithm.Ecdsa d → q.algorithm ≡ Algorithm.Rsa (Some h))
    go true e = absurd (cc (rw e at is, of))
    go false e = absurd (cc (rw e at is))
by_rsa r q (Algorithm.Rsa None) k m g is of = absurd (cc is)
by_rsa r q _ k m g is of = absurd (cc is)

rsa_asked : (h : Hash) (r : RsaKey) (m blob : List ℕ) (q : Question) → q ≡ record { algorithm = Algorithm.Rsa (Some h); key = Rsa r; message = m; blob = blob } → IsAsked q
rsa_asked h r m blob q is = subst IsAsked (sym is) (record { key = Rsa r; message = m; signature = record { algorithm = Algorithm.Rsa (Some h); blob = blob }; form = tt; is = refl })

pub still_asked : (a : Algorithm) (k : Key) (m blob : List ℕ) → IsAsked (record { algorithm = a; key = k; message = m; blob = blob }) → IsAsked (record { algorithm = a; key = k; message = m; blob = padded_blob k blob })
still_asked a (Rsa r) m blob asked =
    let by = by_rsa r _ asked.signature.algorithm asked.key asked.message asked.signature asked.is refl in
    rsa_asked by.0 r m (padded_blob (Rsa r) blob) _ (ap (λ (x : Algorithm). record { algorithm = x; key = Rsa r; message = m; blob = padded_blob (Rsa r) blob }) (by.1 refl))
still_asked a (Dsa k) m blob asked = asked
still_asked a (Ecdsa c point) m blob asked = asked
still_asked a (Ed25519 k) m blob asked = asked
still_asked a (SkEcdsa k) m blob asked = asked
still_asked a (SkEd25519 k) m blob asked = asked
still_asked a (Opaque name k) m blob asked = asked

-- the bytes, written into a room of zeros after so many of them
pub placed : (zeros k : ℕ) (room written bytes : List ℕ) → room ≡ replicate 2048 0 → written ≡ bytes → zeros + length bytes ≤ 2048 → take (zeros + length bytes) (put_mid zeros k room written) ≡ replicate zeros 0 ++ bytes
placed zeros k room written bytes of_zeros same fits =
    let within : zeros ≤ length room = omega (arith, fits, ap (λ (l : List ℕ). length l) of_zeros, length-replicate {A = ℕ} 2048 0) in
    take-put_mid zeros k room written (zeros + length bytes) (ap (λ (l : List ℕ). zeros + length l) (sym same)) within
    ∙ (ap (λ (l : List ℕ). take zeros l ++ written) of_zeros ∙ (ap (λ (l : List ℕ). l ++ written) (take-replicate zeros 2048 0 (omega (arith, fits))) ∙ ap (λ (l : List ℕ). replicate zeros 0 ++ l) same))

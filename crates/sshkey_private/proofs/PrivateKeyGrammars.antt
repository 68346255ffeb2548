-- Private keys are read in steps as they are spelled, and nothing may follow an encrypted one.
use Rattle.std.proofs.Common.{◌≡◌, inl, inr, ℕ, List, [], ◌∷◌, ◌++◌, length, append-nil, append_assoc, Option, Some, None, true, Result, Ok, Err, refl, sym, ap, subst, ◌∙◌}
use Rattle.sshkey_model.specs.Grammar.{MayFollow}
use Rattle.sshkey_model.specs.Keys.{Key}
use Rattle.sshkey_model.specs.KeyDerivation.{Cipher, NoCipher, Kdf, NoKdf, Bcrypt}
use Rattle.sshkey_model.specs.PrivateKeys.{UnencryptedKey, PrivateKey, Unencrypted, Encrypted, may_precede}
use Rattle.sshkey_model.specs.Reading.{Fault, Length, TrailingKeyData, ◌>>=◌}
use Rattle.sshkey_model.proofs.CombinedReaders.{bind_ok, met, ok_is}
use Rattle.sshkey_model.specs.Formats.{IsFormat}
use Rattle.sshkey_terms.proofs.Lawful.{called_chosen}
use Rattle.sshkey_ciphers.specs.Formats.{sealed_format}
use Rattle.sshkey_private.specs.PrivateParts.{part_format}
use Rattle.sshkey_private.specs.PrivateKeyFormats.{Opening, opening_at, key_of_part, unencrypted_below, sealed_with, encrypted_format, content_term, content_format, file_format, last_of, last_encrypted_at, last_content_at, steps_at, not_encrypted, delimited_by, IsDecoder, SpellsFile, private_key_below, private_key_format, padded_key_format}
use Rattle.sshkey_private.proofs.Lawful.{file_grammar, file_lawful}

unencrypted_last : (limit : ℕ) (public : Key) (b : List ℕ) → unencrypted_below limit public b ≡ (unencrypted_below limit public b >>= last_of)
unfolding unencrypted_below
unencrypted_last limit public b = go ((part_format limit public).read b)
  where
    one : (k : Option UnencryptedKey) (rest : List ℕ) → (key_of_part k >>= λ x. Ok (x, rest)) ≡ ((key_of_part k >>= λ x. Ok (x, rest)) >>= last_of)
    one (Some k) rest = refl
    one None rest = refl

    go : (r : Result (Option UnencryptedKey × List ℕ) Fault) → (r >>= λ x. key_of_part x.0 >>= λ y. Ok (y, x.1)) ≡ ((r >>= λ x. key_of_part x.0 >>= λ y. Ok (y, x.1)) >>= last_of)
    go (Ok x) = one x.0 x.1
    go (Err e) = refl

encrypted_last : (c : Cipher) (k : Kdf) (public : Key) (b : List ℕ) → last_encrypted_at c k public b ≡ ((encrypted_format c k public).read b >>= last_of)
unfolding last_encrypted_at
encrypted_last c k public b = go ((sealed_format c).read b)
  where
    go : (r : Result ((List ℕ × List ℕ) × List ℕ) Fault) → (r >>= λ x. last_of (sealed_with c k public x.0.0 x.0.1, x.1)) ≡ ((r >>= λ x. Ok (sealed_with c k public x.0.0 x.0.1, x.1)) >>= last_of)
    go (Ok x) = refl
    go (Err e) = refl

content_last : (limit : ℕ) (c : Cipher) (k : Kdf) (public : Key) (b : List ℕ) → last_content_at limit c k public b ≡ ((content_term limit c k public).read b >>= last_of)
content_last limit NoCipher NoKdf public b = unencrypted_last limit public b
content_last limit NoCipher (Bcrypt o) public b = refl
content_last limit c k public b = encrypted_last c k public b

-- They give what the term gives, and refuse what follows an encrypted key.
steps_are : (limit : ℕ) (b : List ℕ) → steps_at limit b ≡ ((file_format limit).read b >>= last_of)
unfolding steps_at
steps_are limit b = go (opening_at b) ∙ ap (λ (r : Result (PrivateKey × List ℕ) Fault). r >>= last_of) (sym ((called_chosen opening_at (λ h. (content_format limit h).read)).same b))
  where
    go : (r : Result (Opening × List ℕ) Fault) → (r >>= λ h. last_content_at limit h.0.cipher h.0.kdf h.0.public h.1) ≡ ((r >>= λ h. (content_format limit h.0).read h.1) >>= last_of)
    go (Ok h) = content_last limit h.0.cipher h.0.kdf h.0.public h.1
    go (Err e) = refl

-- ---- from the front

nothing_after : (k : PrivateKey) → may_precede k [] ≡ true
nothing_after (Unencrypted k) = refl
nothing_after (Encrypted k) = refl

kept : (k l : PrivateKey) → not_encrypted k ≡ Ok l → k ≡ l
kept (Unencrypted k) l e = ok_is (Unencrypted k) l e
kept (Encrypted k) l e = absurd cc

may_be_last : (k : PrivateKey) (rest : List ℕ) → may_precede k rest ≡ true → last_of (k, rest) ≡ Ok (k, rest)
may_be_last k rest may = rw may refl

module _ (limit : ℕ) where
  pub decoder : IsDecoder (SpellsFile limit) (steps_at limit)
  decoder = record {
    takes = λ b k rest e.
        let x = bind_ok ((file_format limit).read b) last_of (k, rest) (sym (steps_are limit b) ∙ e) in
        let last = met (may_precede x.0.0 x.0.1) (TrailingKeyData (length x.0.1)) (Ok x.0) (k, rest) x.2 in
        let t = (file_grammar limit).takes b x.0.0 x.0.1 x.1 in
        subst (λ (z : PrivateKey × List ℕ). (front : List ℕ) × (SpellsFile limit) z.0 front × (b ≡ front ++ z.1) × (may_precede z.0 z.1 ≡ true)) (ok_is x.0 (k, rest) last.1) (t.0, t.1, t.2, last.0);
    again = λ k front rest s may. steps_are limit (front ++ rest) ∙ ap (λ (r : Result (PrivateKey × List ℕ) Fault). r >>= last_of) ((file_grammar limit).again k front rest s) ∙ may_be_last k rest may;
  }

  pub file_alone : (k : PrivateKey) (front : List ℕ) → (SpellsFile limit) k front → steps_at limit front ≡ Ok (k, [])
  file_alone k front s = ap (steps_at limit) (sym (append-nil front)) ∙ decoder.again k front [] s (nothing_after k)

  may_follow : (k : PrivateKey) (front rest : List ℕ) → (SpellsFile limit) k front → may_precede k rest ≡ true → MayFollow (delimited_by (steps_at limit)) k front rest
  may_follow (Unencrypted k) front rest s may = inr (rw (file_alone (Unencrypted k) front s) refl)
  may_follow (Encrypted k) front [] s may = inl refl
  may_follow (Encrypted k) front (d ∷ rest) s may = absurd cc

  pub file_takes : (b : List ℕ) (k : PrivateKey) (rest : List ℕ) → steps_at limit b ≡ Ok (k, rest) → (front : List ℕ) × (SpellsFile limit) k front × (b ≡ front ++ rest) × MayFollow (delimited_by (steps_at limit)) k front rest
  file_takes b k rest e = let t = decoder.takes b k rest e in (t.0, t.1, t.2, may_follow k t.0 rest t.1 t.3)

  pub file_same : (b : List ℕ) (x : PrivateKey × List ℕ) → delimited_by (steps_at limit) b ≡ Ok x → steps_at limit b ≡ Ok x
  file_same b x e =
      let y = bind_ok (steps_at limit b) (λ y. not_encrypted y.0 >>= λ k. Ok (k, y.1)) x e in
      let k = bind_ok (not_encrypted y.0.0) (λ k. Ok (k, y.0.1)) x y.2 in
      let is : y.0.0 ≡ k.0 = kept y.0.0 k.0 k.1 in
      y.1 ∙ (λ i. Ok (is i, y.0.1)) ∙ k.2

  pub file_before : (b : List ℕ) (k : PrivateKey) (r rest : List ℕ) → delimited_by (steps_at limit) b ≡ Ok (k, r) → delimited_by (steps_at limit) (b ++ rest) ≡ Ok (k, r ++ rest)
  file_before b (Unencrypted k) r rest e =
      let key = Unencrypted k in
      let t = decoder.takes b key r (file_same b (key, r) e) in
      let more : b ++ rest ≡ t.0 ++ (r ++ rest) = ap (λ (l : List ℕ). l ++ rest) t.2 ∙ append_assoc t.0 r rest in
      rw (ap (steps_at limit) more ∙ decoder.again key t.0 (r ++ rest) t.1 refl) refl
  file_before b (Encrypted k) r rest e = let same = file_same b (Encrypted k, r) e in absurd (cc (rw same at e))

  pub file_lengths : (b : List ℕ) (m : ℕ) → (file_format limit).overruns b m → steps_at limit b ≡ Err Length
  file_lengths b m o = steps_are limit b ∙ ap (λ (r : Result (PrivateKey × List ℕ) Fault). r >>= last_of) ((file_lawful limit).lengths b m o)

  pub below_lawful : IsFormat (private_key_below limit)
  below_lawful = record {
    grammar = record { same = file_same; before = file_before; takes = file_takes; alone = file_alone };
    lengths = file_lengths;
  }

pub private_key_lawful : IsFormat private_key_format
private_key_lawful = below_lawful 8

pub padded_key_lawful : IsFormat padded_key_format
padded_key_lawful = below_lawful 256

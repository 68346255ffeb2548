-- The term of a private key spells what PROTOCOL.key lays out.
use Rattle.std.proofs.Common.{◌≡◌, ℕ, zero, suc, ◌+◌, ◌-◌, ◌%◌, ◌<◌, eqb, true, Option, Some, None, List, ◌++◌, append_assoc, length, Ok, refl, sym, ap, subst, ◌∙◌, arith}
use Rattle.std.specs.Prelude.{◌==◌}
use Rattle.std.specs.Int.{w32}
use Rattle.std.proofs.lemmas.Bool.{eqb-true, eq-eqb, lt-ltb, and_from}
use Rattle.std.proofs.lemmas.List.{length-append}
use Rattle.sshkey_model.specs.Parts.{Parts, Any, nothing, bytes, number, box, ◌&◌, flat, Fits, InRange, BoxesFit, HasLength, are_bytes}
use Rattle.sshkey_model.specs.Reading.{Length, Crypto, PublicKey}
use Rattle.sshkey_model.specs.Grammar.{IsSpelled, spelled}
use Rattle.sshkey_model.specs.Texts.{IsText, string}
use Rattle.sshkey_model.specs.Keys.{Key, IsKey, key, key_algorithm, Head, HasHead, HasKeyPlaces}
use Rattle.sshkey_model.specs.KeyDerivation.{Cipher, NoCipher, block_size, tag_size, cipher, Kdf, NoKdf, Bcrypt, kdf}
use Rattle.sshkey_model.specs.KeyPairs.{KeyPair, public_half, KeyPairChoices, plain_pair, IsKeyPair, HasKeyPairPlaces, keypair, keypair_format}
use Rattle.sshkey_model.specs.PrivateKeys.{UnencryptedKey, PrivateKey, Unencrypted, Encrypted, key_cipher, key_kdf, public_key, rising, private_key_magic, private_part, private_key, normal_private_key, PrivateKeyChoices, plain_private_key, IsUnencryptedKey, IsPrivateKey, HasContentPlaces, HasPrivateKeyPlaces, key_eq}
use Rattle.sshkey_model.proofs.CombinedReaders.{met, ok_is, fits_both, fits_first, fits_bytes}
use Rattle.sshkey_model.proofs.EqualKeys.{same_key, key_itself}
use Rattle.sshkey_model.proofs.KeyPairReaders.{plain_keypair_has}
use Rattle.sshkey_model.proofs.Grammars.{ends}
use Rattle.sshkey_model.specs.Leaves.{number32_format}
use Rattle.sshkey_base.proofs.Lawful.{number32_lawful}
use Rattle.sshkey_model.proofs.Trees.{IsTree, Alike, alike, grouped, leaf_tree, open_tree, dependent_tree, then_tree, box_tree, kept_tree, tested_tree, made_tree}
use Rattle.sshkey_ciphers.proofs.Ciphertexts.{rising_length}
use Rattle.sshkey_ciphers.specs.Formats.{AreBlocks, blocks_format, cipher_format}
use Rattle.sshkey_ciphers.proofs.Lawful.{kdf_tree, blocks_lawful, cipher_lawful}
use Rattle.sshkey_private.specs.PrivateParts.{is_half, unencrypted, one_checkint, checkint_format, pair_format, inner_format, SpellsPadded}
use Rattle.sshkey_private.specs.PrivateKeyFormats.{Opening, magic_format, one_format, sealing_format, opening_with, opening_format, PaddedChoices, padded_content, padded_private_key, HasPadding, HasPlacesBelow, key_of_part, sealed_with, encrypted_format, content_term, SpellsFile, SpellsPrivateKey, SpellsPaddedKey}
use Rattle.sshkey_private.proofs.Lawful.{checkint_lawful, pair_lawful, magic_lawful, one_lawful, sealing_lawful, opening_lawful}

-- ---- the checkint, and the same again

checkint_tree : IsTree checkint_format.Spells (λ (x : ℕ × Unit {0}). Any x.0) (λ x. number w32 x.0 & number w32 x.0)
checkint_tree = tested_tree (then_tree {First = number32_format.Spells} {delimited_at = number32_format.delimited_at} (ends number32_lawful.grammar (λ _. refl)) leaf_tree leaf_tree) one_checkint there back
  where
    there : (x : (ℕ × ℕ) × (Unit {0} × Unit {0})) (n : ℕ) → Any x.0.0 × Any x.0.1 → one_checkint x.0 ≡ Ok n → (u : Unit {0}) × Any n × Alike (number w32 x.0.0 & number w32 x.0.1) (number w32 n & number w32 n)
    there x n is e =
        let h = met (eqb x.0.1 x.0.0) Crypto (Ok x.0.0) n e in
        let first : x.0.0 ≡ n = ok_is x.0.0 n h.1 in
        let second : x.0.1 ≡ n = eqb-true _ _ h.0 ∙ first in
        (tt, tt, alike _ _ (λ i. number w32 (first i) & number w32 (second i)))

    back : (y : ℕ × Unit {0}) → Any y.0 → (x : (ℕ × ℕ) × (Unit {0} × Unit {0})) × (Any x.0.0 × Any x.0.1) × (one_checkint x.0 ≡ Ok y.0) × Alike (number w32 x.0.0 & number w32 x.0.1) (number w32 y.0 & number w32 y.0)
    back y is = (((y.0, y.0), (tt, tt)), (tt, tt), (let same : eqb y.0 y.0 ≡ true = eq-eqb y.0 y.0 refl in rw same refl), alike _ _ refl)

-- ---- a pair of the public key

abbrev IsSomePair : Option KeyPair → KeyPairChoices → Type 0
IsSomePair (Some k) s = IsSpelled IsKeyPair HasKeyPairPlaces (k, s)
IsSomePair None s = ⊥

abbrev pair_tree : Option KeyPair → KeyPairChoices → Parts
pair_tree (Some k) s = keypair k s
pair_tree None s = nothing

some_tree : IsTree keypair_format.Spells (λ (x : Option KeyPair × KeyPairChoices). IsSomePair x.0 x.1) (λ x. pair_tree x.0 x.1)
some_tree = record { takes = takes; again = λ x is fits. again x.0 x.1 is fits }
  where
    takes : (k : Option KeyPair) (b : List ℕ) → keypair_format.Spells k b → (s : KeyPairChoices) × IsSomePair k s × Fits (pair_tree k s) × (b ≡ flat (pair_tree k s))
    takes (Some k) b s = (s.choices, record { is = s.is; place = s.place }, s.fits, s.shape)
    takes None b s = absurd s

    again : (k : Option KeyPair) (s : KeyPairChoices) → IsSomePair k s → Fits (pair_tree k s) → keypair_format.Spells k (flat (pair_tree k s))
    again (Some k) s is fits = record { is = is.is; choices = s; place = is.place; fits = fits; shape = refl }
    again None s is fits = absurd is

-- ---- the private part of a key that is not encrypted

abbrev IsPart : Key → Option UnencryptedKey → KeyPairChoices → Type 0
IsPart public (Some k) s = IsUnencryptedKey k × HasKeyPairPlaces k.pair s × (key_eq (public_half k.pair) public ≡ true)
IsPart public None s = ⊥

abbrev part_tree : Option UnencryptedKey → KeyPairChoices → Parts
part_tree (Some k) s = private_part k s
part_tree None s = nothing

abbrev IsInner : Key → ℕ → Option KeyPair → List ℕ → KeyPairChoices → Type 0
IsInner public n k comment s = Any n × ((IsSomePair k s × (is_half k public ≡ true)) × IsText comment)

abbrev inner_parts_tree : ℕ → Option KeyPair → List ℕ → KeyPairChoices → Parts
inner_parts_tree n k comment s = (number w32 n & number w32 n) & pair_tree k s & string comment

inner_tree : (public : Key) → IsTree (inner_format public).Spells (λ (x : Option UnencryptedKey × KeyPairChoices). IsPart public x.0 x.1) (λ x. part_tree x.0 x.1)
inner_tree public = made_tree
    (then_tree {First = checkint_format.Spells} {delimited_at = checkint_format.delimited_at} (ends checkint_lawful.grammar (λ _. refl)) checkint_tree
    (then_tree {First = (pair_format public).Spells} {delimited_at = (pair_format public).delimited_at} (ends (pair_lawful public).grammar (λ _. refl)) (kept_tree some_tree (λ k. is_half k public) (λ _. PublicKey)) leaf_tree))
    (λ a. unencrypted a.0 a.1.0 a.1.1)
    (λ x is. there x.0.0 x.0.1.0 x.0.1.1 x.1.1.0 is)
    (λ y is. back y.0 y.1 is)
  where
    there : (n : ℕ) (k : Option KeyPair) (comment : List ℕ) (s : KeyPairChoices) → IsInner public n k comment s → (u : KeyPairChoices) × IsPart public (unencrypted n k comment) u × Alike (inner_parts_tree n k comment s) (part_tree (unencrypted n k comment) u)
    there n (Some k) comment s is = (s, (record { pair = is.1.0.0.is; comment = is.1.1 }, is.1.0.0.place, is.1.0.1), grouped (number w32 n) (number w32 n) (keypair k s & string comment))
    there n None comment s is = absurd is.1.0.0

    back : (k : Option UnencryptedKey) (s : KeyPairChoices) → IsPart public k s → (x : (ℕ × (Option KeyPair × List ℕ)) × (Unit {0} × (KeyPairChoices × Unit {0}))) × IsInner public x.0.0 x.0.1.0 x.0.1.1 x.1.1.0 × (unencrypted x.0.0 x.0.1.0 x.0.1.1 ≡ k) × Alike (inner_parts_tree x.0.0 x.0.1.0 x.0.1.1 x.1.1.0) (part_tree k s)
    back (Some k) s is = (((k.checkint, (Some k.pair, k.comment)), (tt, (s, tt))), (tt, ((record { is = is.0.pair; place = is.1 }, is.2), is.0.comment)), refl, grouped (number w32 k.checkint) (number w32 k.checkint) (keypair k.pair s & string k.comment))
    back None s is = absurd is

-- ---- and its padding

rising_bytes : (k n : ℕ) → k + n < 257 → are_bytes (rising k n) ≡ true
rising_bytes k zero small = refl
rising_bytes k (suc n) small = and_from _ _ (lt-ltb k 256 (omega (arith, small))) (rising_bytes (suc k) n (omega (arith, small)))

module _ {A S : Type 0} {Spelling : A → List ℕ → Type 0} {Is : A × S → Type 0} {tree : A × S → Parts} (t : IsTree Spelling Is tree) where
  padded_tree : (limit : ℕ) → limit < 257 → IsTree (SpellsPadded limit Spelling) (λ (x : A × (S × ℕ)). Is (x.0, x.1.0) × ((length (flat (tree (x.0, x.1.0))) + x.1.1) % 8 ≡ 0) × (x.1.1 < limit)) (λ (x : A × (S × ℕ)). tree (x.0, x.1.0) & bytes (rising 1 x.1.1))
  unfolding flat
  padded_tree limit low = record {
    takes = λ a b s.
        let x = t.takes a s.front s.spelled in
        let text = flat (tree (a, x.0)) in
        let shape : b ≡ text ++ rising 1 s.padding = s.all ∙ ap (λ (l : List ℕ). l ++ rising 1 s.padding) x.3 in
        let sum : length b ≡ length text + s.padding = ap length shape ∙ length-append text (rising 1 s.padding) ∙ ap (λ (n : ℕ). length text + n) (rising_length 1 s.padding) in
        ((x.0, s.padding), (x.1, ap (λ (n : ℕ). n % 8) (sym sum) ∙ s.blocks, s.few), fits_both (tree (a, x.0)) (bytes (rising 1 s.padding)) x.2 (fits_bytes (rising 1 s.padding) (rising_bytes 1 s.padding (omega (arith, s.few, low)))), shape);
    again = λ x is fits.
        let text = flat (tree (x.0, x.1.0)) in
        let sum : length (text ++ rising 1 x.1.1) ≡ length text + x.1.1 = length-append text (rising 1 x.1.1) ∙ ap (λ (n : ℕ). length text + n) (rising_length 1 x.1.1) in
        record { front = text; padding = x.1.1; spelled = t.again (x.0, x.1.0) is.0 (fits_first (tree (x.0, x.1.0)) (bytes (rising 1 x.1.1)) fits); all = refl; few = is.2; blocks = ap (λ (n : ℕ). n % 8) sum ∙ is.1 };
  }

-- ---- what follows the public key

abbrev Choices : Type 0
Choices = KeyPairChoices × ℕ

-- nothing is asked here of the public key by itself
abbrev IsContent : PrivateKey → Type 0
IsContent (Unencrypted k) = IsUnencryptedKey k
IsContent (Encrypted k) = (k.cipher ≡ NoCipher → ⊥) × (length k.ciphertext % block_size k.cipher ≡ 0) × (length k.tag ≡ tag_size k.cipher)

abbrev IsContentOf : ℕ → Cipher → Kdf → Key → PrivateKey → Choices → Type 0
IsContentOf limit c k public x s = IsContent x × (HasContentPlaces x s.0 × HasPadding limit x s.0 s.1) × (key_cipher x ≡ c) × (key_kdf x ≡ k) × (public_key x ≡ public)

abbrev IsContentTree : ℕ → Cipher → Kdf → Key → Type 0
IsContentTree limit c k public = IsTree (content_term limit c k public).Spells (λ (x : PrivateKey × Choices). IsContentOf limit c k public x.0 x.1) (λ (x : PrivateKey × Choices). padded_content x.0 x.1.0 x.1.1)

abbrev IsPadded : ℕ → Key → Option UnencryptedKey → Choices → Type 0
IsPadded limit public k s = IsPart public k s.0 × ((length (flat (part_tree k s.0)) + s.1) % 8 ≡ 0) × (s.1 < limit)

abbrev box_tree_of : Option UnencryptedKey → Choices → Parts
box_tree_of k s = box (part_tree k s.0 & bytes (rising 1 s.1))

unencrypted_tree : (limit : ℕ) → limit < 257 → (public : Key) → IsContentTree limit NoCipher NoKdf public
unencrypted_tree limit low public = tested_tree (box_tree (padded_tree (inner_tree public) limit low)) key_of_part (λ x k is e. there x.0 x.1 k is e) (λ y is. back y.0 y.1 is)
  where
    there : (x : Option UnencryptedKey) (s : Choices) (k : PrivateKey) → IsPadded limit public x s → key_of_part x ≡ Ok k → (u : Choices) × IsContentOf limit NoCipher NoKdf public k u × Alike (box_tree_of x s) (padded_content k u.0 u.1)
    there (Some x) s k is e = subst (λ (z : PrivateKey). (u : Choices) × IsContentOf limit NoCipher NoKdf public z u × Alike (box_tree_of (Some x) s) (padded_content z u.0 u.1)) (ok_is (Unencrypted x) k e) (s, (is.0.0, (is.0.1, (is.1, is.2)), refl, refl, same_key (public_half x.pair) public is.0.2), alike _ _ refl)
    there None s k is e = absurd is.0

    back : (k : PrivateKey) (s : Choices) → IsContentOf limit NoCipher NoKdf public k s → (x : Option UnencryptedKey × Choices) × IsPadded limit public x.0 x.1 × (key_of_part x.0 ≡ Ok k) × Alike (box_tree_of x.0 x.1) (padded_content k s.0 s.1)
    back (Unencrypted k) s is = ((Some k, s), ((is.0, is.1.0, subst (λ (z : Key). key_eq (public_half k.pair) z ≡ true) is.4 (key_itself (public_half k.pair))), is.1.1.0, is.1.1.1), refl, alike _ _ refl)
    back (Encrypted k) s is = absurd (is.0.0 is.2)

encrypted_tree : (limit : ℕ) (c : Cipher) (k : Kdf) (public : Key) → (c ≡ NoCipher → ⊥) → IsTree (encrypted_format c k public).Spells (λ (x : PrivateKey × Choices). IsContentOf limit c k public x.0 x.1) (λ (x : PrivateKey × Choices). padded_content x.0 x.1.0 x.1.1)
encrypted_tree limit c k public some = made_tree
    (then_tree {First = (blocks_format c).Spells} {delimited_at = (blocks_format c).delimited_at} (ends (blocks_lawful c).grammar (λ _. refl)) leaf_tree leaf_tree)
    (λ a. sealed_with c k public a.0 a.1)
    (λ x is. ((plain_pair, 0), ((some, eqb-true _ _ is.0, is.1), (refl, refl), refl, refl, refl), alike _ _ refl))
    (λ y is. back y.0 y.1 is)
  where
    back : (x : PrivateKey) (s : Choices) → IsContentOf limit c k public x s → (a : (List ℕ × List ℕ) × (Unit {0} × Unit {0})) × (AreBlocks c a.0.0 × HasLength (tag_size c) a.0.1) × (sealed_with c k public a.0.0 a.0.1 ≡ x) × Alike (string a.0.0 & bytes a.0.1) (padded_content x s.0 s.1)
    back (Unencrypted q) s h = absurd (some (sym h.2))
    back (Encrypted q) s h = (
      ((q.ciphertext, q.tag), (tt, tt)),
      (eq-eqb _ _ (subst (λ (z : Cipher). length q.ciphertext % block_size z ≡ 0) h.2 h.0.1), subst (λ (z : Cipher). length q.tag ≡ tag_size z) h.2 h.0.2),
      (λ i. Encrypted (record { cipher = sym h.2 i; kdf = sym h.3 i; public = sym h.4 i; ciphertext = q.ciphertext; tag = q.tag })),
      alike _ _ refl,
    )

-- no private key has the cipher none and a key derivation
refused_tree : (limit : ℕ) (o : _) (public : Key) → IsContentTree limit NoCipher (Bcrypt o) public
refused_tree limit o public = record { takes = λ x b s. absurd s; again = λ x is fits. absurd (none x.0 x.1 is) }
  where
    none : (x : PrivateKey) (s : Choices) → IsContentOf limit NoCipher (Bcrypt o) public x s → ⊥
    none (Unencrypted k) s h = cc h.3
    none (Encrypted k) s h = h.0.0 h.2

content_tree : (limit : ℕ) → limit < 257 → (c : Cipher) (k : Kdf) (public : Key) → IsContentTree limit c k public
content_tree limit low NoCipher NoKdf public = unencrypted_tree limit low public
content_tree limit low NoCipher (Bcrypt o) public = refused_tree limit o public
content_tree limit low c k public = encrypted_tree limit c k public (λ e. cc e)

-- ---- what stands before it

abbrev before_content : Cipher → Kdf → Key → Head → Parts
before_content c k public head = (bytes private_key_magic & cipher c & kdf k) & number w32 1 & box (key public head)

opening_tree : IsTree opening_format.Spells (λ (x : Opening × Head). IsSpelled IsKey HasKeyPlaces (x.0.public, x.1)) (λ x. before_content x.0.cipher x.0.kdf x.0.public x.1)
opening_tree = made_tree
    (then_tree {First = sealing_format.Spells} {delimited_at = sealing_format.delimited_at} (ends sealing_lawful.grammar (λ _. refl))
    (then_tree {First = magic_format.Spells} {delimited_at = magic_format.delimited_at} (ends magic_lawful.grammar (λ _. refl)) leaf_tree
    (then_tree {First = cipher_format.Spells} {delimited_at = cipher_format.delimited_at} (ends cipher_lawful.grammar (λ _. refl)) leaf_tree kdf_tree))
    (then_tree {First = one_format.Spells} {delimited_at = one_format.delimited_at} (ends one_lawful.grammar (λ _. refl)) (kept_tree leaf_tree (λ n. n == 1) (λ _. Length)) (box_tree open_tree)))
    opening_with
    (λ x is. (x.1.1.1, is.1.1, alike _ _ (λ i. (bytes (is.0.0 i) & cipher x.0.0.1.0 & kdf x.0.0.1.1) & number w32 (eqb-true _ _ is.1.0.1 i) & box (key x.0.1.1 x.1.1.1))))
    (λ y is. ((((private_key_magic, (y.0.cipher, y.0.kdf)), (1, y.0.public)), ((tt, (tt, tt)), (tt, y.1))), ((refl, (tt, tt)), ((tt, refl), is)), refl, alike _ _ refl))

-- ---- the whole file

regrouped : (m c k n p q : Parts) → Alike (((m & c & k) & n & p) & q) (m & c & k & n & p & q)
unfolding flat InRange BoxesFit
regrouped m c k n p q = record {
  bytes = simp append_assoc;
  there = λ f. record { range = (f.range.0.0.0, (f.range.0.0.1.0, (f.range.0.0.1.1, (f.range.0.1.0, (f.range.0.1.1, f.range.1))))); boxes = (f.boxes.0.0.0, (f.boxes.0.0.1.0, (f.boxes.0.0.1.1, (f.boxes.0.1.0, (f.boxes.0.1.1, f.boxes.1))))) };
  back = λ f. record { range = (((f.range.0, (f.range.1.0, f.range.1.1.0)), (f.range.1.1.1.0, f.range.1.1.1.1.0)), f.range.1.1.1.1.1); boxes = (((f.boxes.0, (f.boxes.1.0, f.boxes.1.1.0)), (f.boxes.1.1.1.0, f.boxes.1.1.1.1.0)), f.boxes.1.1.1.1.1) };
}

is_private : (k : PrivateKey) → IsKey (public_key k) → IsContent k → IsPrivateKey k
is_private (Unencrypted k) public h = h
is_private (Encrypted k) public h = record { cipher = h.0; public = public; ciphertext = h.1; tag = h.2 }

is_content : (k : PrivateKey) → IsPrivateKey k → IsKey (public_key k) × IsContent k
is_content (Unencrypted k) h = ((h.pair.0, h.pair.1.0), h)
is_content (Encrypted k) h = (h.public, (h.cipher, h.ciphertext, h.tag))

abbrev Chosen : Type 0
Chosen = (Opening × PrivateKey) × (Head × Choices)

abbrev IsFile : ℕ → Chosen → Type 0
IsFile limit x = IsSpelled IsKey HasKeyPlaces (x.0.0.public, x.1.0) × IsContentOf limit x.0.0.cipher x.0.0.kdf x.0.0.public x.0.1 x.1.1

abbrev read_tree : Chosen → Parts
read_tree x = before_content x.0.0.cipher x.0.0.kdf x.0.0.public x.1.0 & padded_content x.0.1 x.1.1.0 x.1.1.1

pub file_tree : (limit : ℕ) → limit < 257 → IsTree (SpellsFile limit) (IsSpelled IsPrivateKey (HasPlacesBelow limit)) (spelled padded_private_key)
file_tree limit low = made_tree
    (dependent_tree {First = opening_format.Spells} {delimited_at = opening_format.delimited_at} (ends opening_lawful.grammar (λ _. refl)) opening_tree (λ h. content_tree limit low h.cipher h.kdf h.public))
    (λ a. a.1)
    there
    back
  where
    there : (x : Chosen) → IsFile limit x → (u : PaddedChoices) × IsSpelled IsPrivateKey (HasPlacesBelow limit) (x.0.1, u) × Alike (read_tree x) (padded_private_key x.0.1 u)
    there x is =
        let c = is.1 in
        let parts = padded_content x.0.1 x.1.1.0 x.1.1.1 in (
          record { key = record { outer = x.1.0; pair = x.1.1.0 }; padding = x.1.1.1 },
          record {
            is = is_private x.0.1 (subst IsKey (sym c.4) is.0.is) c.0;
            place = ((subst (λ (z : Key). HasHead (key_algorithm z) x.1.0) (sym c.4) is.0.place, c.1.0), c.1.1);
          },
          subst (λ (p : Parts). Alike (read_tree x) p) (λ i. bytes private_key_magic & cipher (sym c.2 i) & kdf (sym c.3 i) & number w32 1 & box (key (sym c.4 i) x.1.0) & parts) (regrouped (bytes private_key_magic) (cipher x.0.0.cipher) (kdf x.0.0.kdf) (number w32 1) (box (key x.0.0.public x.1.0)) parts),
        )

    back : (y : PrivateKey × PaddedChoices) → IsSpelled IsPrivateKey (HasPlacesBelow limit) y → (x : Chosen) × IsFile limit x × (x.0.1 ≡ y.0) × Alike (read_tree x) (padded_private_key y.0 y.1)
    back y is =
        let c = is_content y.0 is.is in (
          ((record { cipher = key_cipher y.0; kdf = key_kdf y.0; public = public_key y.0 }, y.0), (y.1.key.outer, (y.1.key.pair, y.1.padding))),
          (record { is = c.0; place = is.place.0.0 }, (c.1, (is.place.0.1, is.place.1), refl, refl, refl)),
          refl,
          regrouped (bytes private_key_magic) (cipher (key_cipher y.0)) (kdf (key_kdf y.0)) (number w32 1) (box (key (public_key y.0) y.1.key.outer)) (padded_content y.0 y.1.key.pair y.1.padding),
        )

-- ---- with the padding that is written

-- the least padding
pub least : (k : PrivateKey) → KeyPairChoices → ℕ
least (Unencrypted k) s = (8 - length (flat (private_part k s)) % 8) % 8
least (Encrypted k) s = 0

least_has : (k : PrivateKey) (s : KeyPairChoices) → HasPadding 8 k s (least k s)
unfolding least
least_has (Unencrypted k) s = (omega arith, omega arith)
least_has (Encrypted k) s = refl

only_least : (k : PrivateKey) (s : PaddedChoices) → HasPadding 8 k s.key.pair s.padding → padded_private_key k s ≡ private_key k s.key
only_least (Unencrypted k) s h =
    let blocks : (length (flat (private_part k s.key.pair)) + s.padding) % 8 ≡ 0 = h.0 in
    let few : s.padding < 8 = h.1 in
    let only : s.padding ≡ (8 - length (flat (private_part k s.key.pair)) % 8) % 8 = omega (arith, blocks, few) in
    ap (λ (n : ℕ). bytes private_key_magic & cipher NoCipher & kdf NoKdf & number w32 1 & box (key (public_half k.pair) s.key.outer) & box (private_part k s.key.pair & bytes (rising 1 n))) only
only_least (Encrypted k) s h = refl

abbrev pub with_least : PrivateKey → PrivateKeyChoices → PaddedChoices
with_least k s = record { key = s; padding = least k s.pair }

pub least_same : (k : PrivateKey) (s : PrivateKeyChoices) → padded_private_key k (with_least k s) ≡ private_key k s
least_same k s = only_least k (with_least k s) (least_has k s.pair)

pub least_places : (k : PrivateKey) (s : PrivateKeyChoices) → HasPrivateKeyPlaces k s → HasPlacesBelow 8 k (with_least k s)
least_places k s has = (has, least_has k s.pair)

pub private_key_tree : IsTree SpellsPrivateKey (IsSpelled IsPrivateKey HasPrivateKeyPlaces) (spelled private_key)
private_key_tree = record {
  takes = λ k b s.
      let x = (file_tree 8 (omega arith)).takes k b s in
      let same = only_least k x.0 x.1.place.1 in
      (x.0.key, record { is = x.1.is; place = x.1.place.0 }, subst Fits same x.2, x.3 ∙ ap flat same);
  again = λ x is fits.
      let same = least_same x.0 x.1 in
      subst (SpellsPrivateKey x.0) (ap flat same) ((file_tree 8 (omega arith)).again (x.0, with_least x.0 x.1) (record { is = is.is; place = least_places x.0 x.1 is.place }) (subst Fits (sym same) fits));
}

plain_has : (k : PrivateKey) → HasPrivateKeyPlaces k plain_private_key
plain_has (Unencrypted k) = (tt, plain_keypair_has k.pair)
plain_has (Encrypted k) = (tt, refl)

-- what is written of a private key is one of its spellings
pub private_normal : (k : PrivateKey) → IsPrivateKey k → Fits (normal_private_key k) → SpellsPrivateKey k (flat (normal_private_key k))
private_normal k is fits = private_key_tree.again (k, plain_private_key) (record { is = is; place = plain_has k }) fits

pub more_places : (k : PrivateKey) (s : PaddedChoices) → HasPlacesBelow 8 k s → HasPlacesBelow 256 k s
more_places (Unencrypted k) s h = (h.0, (h.1.0, omega (arith, h.1.1)))
more_places (Encrypted k) s h = h

-- it is a spelling with more padding, too
pub plain_padding : (k : PrivateKey) (b : List ℕ) → SpellsPrivateKey k b → SpellsPaddedKey k b
plain_padding k b s =
    let x = (file_tree 8 (omega arith)).takes k b s in
    rw x.3 ((file_tree 256 (omega arith)).again (k, x.0) (record { is = x.1.is; place = more_places k x.0 x.1.place }) x.2)

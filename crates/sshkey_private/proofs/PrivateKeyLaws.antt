-- No spelling of a private key begins another, however long its padding is.
use Rattle.std.proofs.Common.{◌≡◌, ℕ, List, ◌++◌, append_assoc, length, sym, ap, subst, ◌∙◌, arith}
use Rattle.std.specs.Int.{w32}
use Rattle.std.proofs.lemmas.List.{append_cancel_left}
use Rattle.sshkey_model.specs.Parts.{bytes, number, box, ◌&◌, flat, Fits, IsPrefixFree}
use Rattle.sshkey_model.specs.Grammar.{IsSpelled, spelled}
use Rattle.sshkey_model.specs.Texts.{string}
use Rattle.sshkey_model.specs.Keys.{Key, Head, key}
use Rattle.sshkey_model.specs.KeyDerivation.{cipher, kdf}
use Rattle.sshkey_model.specs.KeyPairs.{KeyPair, KeyPairChoices, keypair}
use Rattle.sshkey_model.specs.PrivateKeys.{UnencryptedKey, PrivateKey, Unencrypted, Encrypted, key_cipher, key_kdf, public_key, private_key_magic, private_part, private_key, PrivateKeyChoices, rising, IsPrivateKey, HasContentPlaces, HasPrivateKeyPlaces, normal_private_key}
use Rattle.sshkey_model.proofs.CombinedReaders.{fits_first, fits_second, fits_inside, fits_length, fits_number, prefix, number_reads, wide32, box_reads, whole_reads}
use Rattle.sshkey_model.proofs.KeyReaders.{key_reads}
use Rattle.sshkey_model.proofs.KeyPairReaders.{keypair_reads}
use Rattle.sshkey_model.proofs.Trees.{prefix_free, determined}
use Rattle.sshkey_ciphers.proofs.Ciphertexts.{rising_length}
use Rattle.sshkey_private.specs.PrivateKeyFormats.{PaddedChoices, padded_content, padded_private_key, HasPadding, HasPaddedPlaces, private_value_at}
use Rattle.sshkey_private.proofs.Lawful.{file_grammar}
use Rattle.sshkey_private.proofs.PrivateKeyTrees.{file_tree, private_key_tree, with_least, least_same, least_places, more_places, private_normal}
use Rattle.sshkey_private.proofs.KeyForms.{of_formed}
use Rattle.sshkey_model.specs.Laws.{DetermineValues, ReadBack}
use Rattle.sshkey_private.proofs.PrivateKeyGrammars.{file_alone}

abbrev twice : UnencryptedKey → List ℕ
twice k = flat (number w32 k.checkint)

from_left : (k : UnencryptedKey) (s : KeyPairChoices) (n : ℕ) → flat (private_part k s & bytes (rising 1 n)) ≡ twice k ++ (twice k ++ (flat (keypair k.pair s) ++ (flat (string k.comment) ++ rising 1 n)))
unfolding flat
from_left k s n = simp append_assoc

pair_fits : (k : UnencryptedKey) (s : KeyPairChoices) (n : ℕ) → Fits (private_part k s & bytes (rising 1 n)) → Fits (keypair k.pair s)
pair_fits k s n fits = fits_first (keypair k.pair s) (string k.comment) (fits_second (number w32 k.checkint) _ (fits_second (number w32 k.checkint) _ (fits_first (private_part k s) (bytes (rising 1 n)) fits)))

-- one private part in two spellings
one_content : (k : PrivateKey) (s u : KeyPairChoices) (n m : ℕ) → IsPrivateKey k → HasContentPlaces k s → HasContentPlaces k u → HasPadding 256 k s n → HasPadding 256 k u m → Fits (padded_content k s n) → Fits (padded_content k u m) → flat (padded_content k s n) ≡ flat (padded_content k u m) → (s ≡ u) × (n ≡ m)
unfolding flat
one_content (Unencrypted k) s u n m is s-has u-has n-has m-has s-fits u-fits e =
    let p = private_part k s & bytes (rising 1 n) in
    let q = private_part k u & bytes (rising 1 m) in
    let inside = prefix (number_reads w32 wide32) (length (flat p)) (length (flat q)) (flat p) (flat q) tt (fits_number w32 _ (fits_length p s-fits)) tt (fits_number w32 _ (fits_length q u-fits)) e in
    let pairs = append_cancel_left (twice k) _ _ (append_cancel_left (twice k) _ _ (sym (from_left k s n) ∙ inside.1 ∙ from_left k u m)) in
    let same = prefix keypair_reads (k.pair, s) (k.pair, u) (flat (string k.comment) ++ rising 1 n) (flat (string k.comment) ++ rising 1 m) (record { is = is.pair; place = s-has }) (pair_fits k s n (fits_inside p s-fits)) (record { is = is.pair; place = u-has }) (pair_fits k u m (fits_inside q u-fits)) pairs in
    let padding : rising 1 n ≡ rising 1 m = append_cancel_left (flat (string k.comment)) _ _ same.1 in
    (ap (λ (x : KeyPair × KeyPairChoices). x.1) same.0, sym (rising_length 1 n) ∙ ap length padding ∙ rising_length 1 m)
one_content (Encrypted k) s u n m is s-has u-has n-has m-has s-fits u-fits e = (s-has ∙ sym u-has, n-has ∙ sym m-has)

-- the public key follows the number of keys, and the private part follows it
after_fits : (k : PrivateKey) (s : PaddedChoices) → Fits (padded_private_key k s) → Fits (box (key (public_key k) s.key.outer) & padded_content k s.key.pair s.padding)
after_fits k s fits = fits_second (number w32 1) _ (fits_second (kdf (key_kdf k)) _ (fits_second (cipher (key_cipher k)) _ (fits_second (bytes private_key_magic) _ fits)))

one_choice : (k : PrivateKey) (s u : PaddedChoices) → IsSpelled IsPrivateKey HasPaddedPlaces (k, s) → Fits (padded_private_key k s) → IsSpelled IsPrivateKey HasPaddedPlaces (k, u) → Fits (padded_private_key k u) → flat (padded_private_key k s) ≡ flat (padded_private_key k u) → s ≡ u
unfolding flat
one_choice k s u s-is s-fits u-is u-fits e =
    let s-after = after_fits k s s-fits in
    let u-after = after_fits k u u-fits in
    let s-content = padded_content k s.key.pair s.padding in
    let u-content = padded_content k u.key.pair u.padding in
    let s-key = box (key (public_key k) s.key.outer) in
    let u-key = box (key (public_key k) u.key.outer) in
    let sealing = append_cancel_left (flat (cipher (key_cipher k))) _ _ (append_cancel_left private_key_magic _ _ e) in
    let keys = append_cancel_left (flat (number w32 1)) _ _ (append_cancel_left (flat (kdf (key_kdf k))) _ _ sealing) in
    let one = prefix (box_reads (whole_reads key_reads)) (public_key k, s.key.outer) (public_key k, u.key.outer) (flat s-content) (flat u-content) (record { is = of_formed k s-is.is; place = s-is.place.0.0 }) (fits_first s-key s-content s-after) (record { is = of_formed k u-is.is; place = u-is.place.0.0 }) (fits_first u-key u-content u-after) keys in
    let outer : s.key.outer ≡ u.key.outer = ap (λ (x : Key × Head). x.1) one.0 in
    let content = one_content k s.key.pair u.key.pair s.padding u.padding s-is.is s-is.place.0.1 u-is.place.0.1 s-is.place.1 u-is.place.1 (fits_second s-key s-content s-after) (fits_second u-key u-content u-after) one.1 in
    λ i. record { key = record { outer = outer i; pair = content.0 i }; padding = content.1 i }

pub padded_prefix : IsPrefixFree (IsSpelled IsPrivateKey HasPaddedPlaces) (spelled padded_private_key)
padded_prefix = prefix_free (file_tree 256 (omega arith)) (file_grammar 256) one_choice

one_plain : (k : PrivateKey) (s u : PrivateKeyChoices) → IsSpelled IsPrivateKey HasPrivateKeyPlaces (k, s) → Fits (private_key k s) → IsSpelled IsPrivateKey HasPrivateKeyPlaces (k, u) → Fits (private_key k u) → flat (private_key k s) ≡ flat (private_key k u) → s ≡ u
one_plain k s u s-is s-fits u-is u-fits e =
    let s-place = more_places k (with_least k s) (least_places k s s-is.place) in
    let u-place = more_places k (with_least k u) (least_places k u u-is.place) in
    ap (λ (x : PaddedChoices). x.key) (one_choice k (with_least k s) (with_least k u) (record { is = s-is.is; place = s-place }) (subst Fits (sym (least_same k s)) s-fits) (record { is = u-is.is; place = u-place }) (subst Fits (sym (least_same k u)) u-fits) (ap flat (least_same k s) ∙ e ∙ ap flat (sym (least_same k u))))

pub plain_prefix : IsPrefixFree (IsSpelled IsPrivateKey HasPrivateKeyPlaces) (spelled private_key)
plain_prefix = prefix_free private_key_tree (file_grammar 8) one_plain

-- The lemmas of the laws, which their functions name together.

pub private_determined : DetermineValues IsPrivateKey normal_private_key
private_determined = determined (file_grammar 8) private_normal

pub private_read_back : ReadBack IsPrivateKey normal_private_key private_value_at
unfolding ReadBack
private_read_back k is fits = file_alone 8 k (flat (normal_private_key k)) (private_normal k is fits)

pub ruleset laws = (private_determined, private_read_back)

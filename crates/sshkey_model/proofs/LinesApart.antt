-- No bytes spell a key and a certificate: the name of a key that is not opaque is none of a
-- certificate, and an opaque key is two strings. So no text is a line of both.
use Rattle.std.proofs.Common.{◌≡◌, ℕ, List, [], ◌++◌, length, Result, Ok, sym, ap, ◌∙◌, arith, append_assoc, append-nil}
use Rattle.std.proofs.lemmas.List.{length-append}
use Rattle.base64.specs.Engines.{standard}
use Rattle.base64.specs.GeneralPurpose.{encode_of}
use Rattle.sshkey_model.specs.Parts.{Parts, box, ◌&◌, flat, Fits}
use Rattle.sshkey_model.specs.Reading.{Fault}
use Rattle.sshkey_model.specs.Grammar.{SpellsWith}
use Rattle.sshkey_model.specs.Texts.{string}
use Rattle.sshkey_model.specs.Names.{Nistp256, Algorithm, algorithm_name, named}
use Rattle.sshkey_model.specs.CertificateNames.{certificate_name, certified_from}
use Rattle.sshkey_model.specs.Keys.{Key, Ecdsa, Opaque, Head, Plain, Head256, Head512, IsKey, HasKeyPlaces, body, headed, key, key_algorithm}
use Rattle.sshkey_model.specs.Signatures.{signature}
use Rattle.sshkey_model.specs.Certificates.{Certificate, IsCertificate, HasCertificatePlaces, certificate, to_be_signed}
use Rattle.sshkey_model.specs.Lines.{key_name, name_of_certificate, LinesAreApart}
use Rattle.sshkey_model.proofs.CombinedReaders.{prefix, string_reads, bytes_fit, fits_first, fits_second}
use Rattle.sshkey_model.proofs.TextReaders.{box_shows}
use Rattle.sshkey_model.proofs.CertificateNameReaders.{certified_again}
use Rattle.sshkey_model.proofs.Base64Words.{one_blob}
use Rattle.sshkey_model.proofs.LineCuts.{one_cut}
use Rattle.sshkey_model.proofs.Lines.{line_cut}
use Rattle.sshkey_model.proofs.Blobs.{key_blobs, certificate_blobs}

-- the first strings are the same
first_string : (n m : List ℕ) (p nonce_and_on q : Parts) → Fits (string n & p) → Fits ((string m & nonce_and_on) & q) → flat (string n & p) ≡ flat ((string m & nonce_and_on) & q) → (n ≡ m) × (flat p ≡ flat nonce_and_on ++ flat q)
unfolding flat
first_string n m p on q one other e =
    prefix string_reads n m (flat p) (flat on ++ flat q) tt (fits_first (string n) p one) tt (fits_first (string m) on (fits_first (string m & on) q other)) (e ∙ append_assoc (flat (string m)) (flat on) (flat q))

-- one string and nothing more is no string and a box after it
one_string : (k nonce : List ℕ) (p q : Parts) → Fits (string k) → Fits (string nonce & p) → flat (string k) ≡ flat (string nonce & p) ++ flat (box q) → ⊥
unfolding flat
one_string k nonce p q one other e =
    let second = prefix string_reads k nonce [] (flat p ++ flat (box q)) tt one tt (fits_first (string nonce) p other) (append-nil (flat (string k)) ∙ e ∙ append_assoc (flat (string nonce)) (flat p) (flat (box q))) in
    omega (arith, ap length second.1, length-append (flat p) (flat (box q)), box_shows q)

abbrev found : Algorithm → Result Algorithm Fault
found a = Ok a

-- the name before a key that is not opaque is none of a certificate
other_name : (k : Key) (h : Head) (a : Algorithm) (nonce : List ℕ) (p q : Parts) → HasKeyPlaces k h → Fits (body k) → Fits (string nonce & p) → certified_from (algorithm_name (headed h (key_algorithm k))) ≡ found a → flat (body k) ≡ flat (string nonce & p) ++ flat (box q) → ⊥
unfolding named
other_name k Head256 a nonce p q has f g e same = cc e
other_name k Head512 a nonce p q has f g e same = cc e
other_name (Opaque n k) Plain a nonce p q has f g e same = one_string k nonce p q f g same
other_name (Ecdsa Nistp256 x) Plain a nonce p q has f g e same = cc e
other_name _ Plain a nonce p q has f g e same = cc e

pub blobs_apart : (k : Key) (c : Certificate) (bytes : List ℕ) → SpellsWith IsKey HasKeyPlaces key k bytes → SpellsWith IsCertificate HasCertificatePlaces certificate c bytes → ⊥
blobs_apart k c bytes a b =
    let name = algorithm_name (headed a.choices (key_algorithm k)) in
    let certified = certificate_name (key_algorithm c.signed.key) in
    let after = fits_first (to_be_signed c.signed b.choices) (box (signature c.signature)) b.fits in
    let first = first_string name certified (body k) _ (box (signature c.signature)) a.fits b.fits (sym a.shape ∙ b.shape) in
    let is_certified : certified_from name ≡ found (key_algorithm c.signed.key) = ap certified_from first.0 ∙ certified_again (key_algorithm c.signed.key) b.is.0.name in
    other_name k a.choices (key_algorithm c.signed.key) c.signed.nonce _ (signature c.signature) a.place (fits_second (string name) (body k) a.fits) (fits_second (string certified) _ after) is_certified first.1

pub lines_apart : LinesAreApart
unfolding LinesAreApart
lines_apart text m n k c a b =
    let cuts = one_cut text (key_name k) (encode_of standard a.blob) m (name_of_certificate c) (encode_of standard b.blob) n (line_cut text (key_name k) a.blob m a.line) (line_cut text (name_of_certificate c) b.blob n b.line) in
    let blob = one_blob a.blob b.blob (bytes_fit a.blob (key_blobs.bytes k a.blob a.spelled)) (bytes_fit b.blob (certificate_blobs.bytes c b.blob b.spelled)) cuts.1 in
    blobs_apart k c a.blob a.spelled (rw blob b.spelled)

-- What is spelled in parts is some bytes, of one value.
use Rattle.std.proofs.Common.{◌≡◌, ℕ, ◌<◌, List, [], ◌++◌, length, true, sym, ap, ◌∙◌, subst, refl, arith}
use Rattle.std.proofs.lemmas.List.{length-append}
use Rattle.std.specs.Int.{w32, to_be_bytes, byte_len}
use Rattle.sshkey_model.specs.Parts.{Parts, nothing, bytes, number, box, ◌&◌, flat, InRange, are_bytes}
use Rattle.sshkey_model.specs.Reading.{Front}
use Rattle.sshkey_model.specs.Lines.{IsBlob}
use Rattle.sshkey_model.specs.Grammar.{SpellsWith, IsSpelled, spelled}
use Rattle.sshkey_model.specs.Names.{algorithm_name}
use Rattle.sshkey_model.specs.Keys.{Key, Head, key_algorithm, headed, body, key, IsKey, HasKeyPlaces}
use Rattle.sshkey_model.proofs.CombinedReaders.{ReadsFront, are_bytes-append, number_bytes}
use Rattle.sshkey_model.proofs.Grammars.{grammar_with, one_front}
use Rattle.sshkey_model.specs.Signatures.{signature}
use Rattle.sshkey_model.specs.Certificates.{Certificate, IsCertificate, HasCertificatePlaces, certificate, to_be_signed, CertificateChoices}
use Rattle.sshkey_model.proofs.TextReaders.{box_shows}
use Rattle.sshkey_model.proofs.KeyReaders.{key_reads}
use Rattle.sshkey_model.proofs.CertificateReaders.{certificate_reads}

pub flat_bytes : (p : Parts) → InRange p → are_bytes (flat p) ≡ true
unfolding flat InRange
flat_bytes nothing h = refl
flat_bytes (bytes b) h = h
flat_bytes (number w n) h = number_bytes (byte_len w) n
flat_bytes (box p) h = are_bytes-append (to_be_bytes w32 (length (flat p))) (flat p) (number_bytes 4 (length (flat p))) (flat_bytes p h)
flat_bytes (p & q) h = are_bytes-append (flat p) (flat q) (flat_bytes p h.0) (flat_bytes q h.1)

-- a lawful kind may stand in lines
pub blobs : {V S : Type 0} {Is : V → Type 0} {HasPlace : V → S → Type 0} {spell : V → S → Parts} {read : Front (V × S)}
    → ReadsFront (IsSpelled Is HasPlace) (spelled spell) read → ((v : V) (s : S) → 0 < length (flat (spell v s))) → IsBlob (SpellsWith Is HasPlace spell)
blobs {V} {S} {Is} {HasPlace} {spell} {read} reads some = record {
  bytes = λ v b s. ap are_bytes s.shape ∙ flat_bytes (spell v s.choices) s.fits.range;
  some = λ v b s. subst (λ (l : List ℕ). 0 < length l) (sym s.shape) (some v s.choices);
  one = λ v w b s t. (one_front (grammar_with reads) v w b b [] [] s t refl).0;
}

pub some_key : (k : Key) (h : Head) → 0 < length (flat (key k h))
unfolding flat
some_key k h = omega (
  arith,
  length-append (to_be_bytes w32 (length (algorithm_name (headed h (key_algorithm k)))) ++ algorithm_name (headed h (key_algorithm k))) (flat (body k)),
  length-append (to_be_bytes w32 (length (algorithm_name (headed h (key_algorithm k))))) (algorithm_name (headed h (key_algorithm k))),
)

pub key_blobs : IsBlob (SpellsWith IsKey HasKeyPlaces key)
key_blobs = blobs key_reads some_key

some_after : (p q : Parts) → 0 < length (flat q) → 0 < length (flat (p & q))
unfolding flat
some_after p q some = omega (arith, some, length-append (flat p) (flat q))

some_certificate : (c : Certificate) (s : CertificateChoices) → 0 < length (flat (certificate c s))
some_certificate c s = some_after (to_be_signed c.signed s) (box (signature c.signature)) (box_shows (signature c.signature))

pub certificate_blobs : IsBlob (SpellsWith IsCertificate HasCertificatePlaces certificate)
certificate_blobs = blobs certificate_reads some_certificate

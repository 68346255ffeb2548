-- No certificate's signed bytes are those of an SSH signature, and each determine their parts.
use Rattle.std.proofs.Common.{◌≡◌, ℕ, ◌/◌, ◌%◌, List, length, get_or, refl, ap, arith}
use Rattle.sshkey_model.specs.Parts.{flat}
use Rattle.sshkey_model.specs.CertificateNames.{certificate_name}
use Rattle.sshkey_model.specs.Keys.{key_algorithm}
use Rattle.sshkey_model.specs.SshSignatures.{signature_magic}
use Rattle.sshkey_model.specs.Laws.{AreApart, DetermineSignedData}
use Rattle.sshkey_model.proofs.CombinedReaders.{then_reads, literal_reads, string_reads, injective}
use Rattle.sshkey_model.proofs.NameReaders.{hash_reads}
use Rattle.sshkey_model.proofs.ShortNames.{short_certificate_name}

pub are_apart : AreApart
unfolding flat AreApart
are_apart c s namespace reserved h digest is e =
    let first : length (certificate_name (key_algorithm c.key)) / 16777216 % 256 ≡ 83 = ap (λ (z : List ℕ). get_or z 0 0) e in
    omega (arith, first, short_certificate_name (key_algorithm c.key) is.name)

pub determine_signed_data : DetermineSignedData
determine_signed_data n m r q h k d e fits other same =
    let whole_ = injective (then_reads (literal_reads signature_magic) (λ _. then_reads string_reads (λ _. then_reads string_reads (λ _. then_reads hash_reads (λ _. string_reads))))) (signature_magic, (n, (r, (h, d)))) (signature_magic, (m, (q, (k, e)))) (refl, (tt, (tt, (tt, tt)))) fits (refl, (tt, (tt, (tt, tt)))) other same in
    (ap (λ x. x.1.0) whole_, ap (λ x. x.1.1.0) whole_, ap (λ x. x.1.1.1.0) whole_, ap (λ x. x.1.1.1.1) whole_)

-- How the sections of a key revocation list are spelled (PROTOCOL.krl).
use Rattle.std.specs.Prelude.{ℕ, List, [], ◌∷◌, Result, Ok, Err, ◌==◌, Bool, if◌then◌else◌, ◌++◌, codes}
use Rattle.openssh_limits.specs.Limits.{openssh_reads_key}
use Rattle.sshkey_model.specs.Formats.{Format}
use Rattle.sshkey_model.specs.Leaves.{array_format, string_format, number32_format, number64_format}
use Rattle.sshkey_model.specs.Keys.{Key, key_data_at}
use Rattle.sshkey_model.specs.Reading.{Fault, FormatEncoding, ◌>>=◌, whole, Version}
use Rattle.sshkey_model.specs.Terms.{◌then◌, tested, literal_format}
use Rattle.sshkey_model.specs.ToEnd.{values_to_end}
use Rattle.sshkey_krl.specs.Parts.{numbered, part_format, text_from}
use Rattle.sshkey_krl.specs.Revocation.{Authority, Certificates, Everybody, Keys, Part, Section, Sha1s, Sha256s, Signer, Krl}
use Rattle.sshkey_krl.specs.declared.section.SectionKind.{SectionKind}
use Rattle.sshkey_krl.specs.declared.section.SectionKind.TheVariants as kinds
use Rattle.sshkey_terms.specs.Slices.{found_or}

-- ---- the authority: a key that OpenSSH reads, or no bytes

-- OpenSSH reads RSA from 1,024 bits on.
abbrev pub is_read_signer : Key → Bool
is_read_signer = openssh_reads_key 1024

abbrev signer : Key → Result Authority Fault
signer k = if is_read_signer k then Ok (Signer k) else Err FormatEncoding

abbrev pub authority_from : List ℕ → Result Authority Fault
authority_from [] = Ok Everybody
authority_from (c ∷ b) = whole key_data_at (c ∷ b) >>= signer

-- the authority, a string without a meaning, and the parts
abbrev pub certificates_of : Authority × (List ℕ × List Part) → Result Section Fault
certificates_of c = Ok (Certificates c.0 c.1.1)

-- ---- a section

abbrev pub kind_from : ℕ → Result SectionKind Fault
kind_from n =
    if n == 1 then Ok kinds.Certificates
    else if n == 2 then Ok kinds.Keys
    else if n == 3 then Ok kinds.Sha1
    else if n == 5 then Ok kinds.Sha256
    else Err FormatEncoding

abbrev pub body : SectionKind → Format Section
body kinds.Certificates = tested certificates_of (tested authority_from string_format then string_format then values_to_end part_format)
body kinds.Keys = tested (λ keys. Ok (Keys keys)) (values_to_end string_format)
body kinds.Sha1 = tested (λ digests. Ok (Sha1s digests)) (values_to_end (array_format 20))
body kinds.Sha256 = tested (λ digests. Ok (Sha256s digests)) (values_to_end (array_format 32))

abbrev pub section_format : Format Section
section_format = numbered kind_from body

-- How a key revocation list is spelled (PROTOCOL.krl), and what contracts see of one.

abbrev pub magic : List ℕ
magic = codes "SSHKRL" ++ 10 ∷ 0 ∷ []

-- the only version there is
abbrev pub version_from : ℕ → Result ℕ Fault
version_from n = if n == 1 then Ok n else Err (Version n)

-- the magic and the version; the number, the date and the flags; a string without a meaning and the
-- comment
abbrev pub header_format : Format ((List ℕ × ℕ) × ((ℕ × (ℕ × ℕ)) × (List ℕ × List ℕ)))
header_format = (literal_format magic then tested version_from number32_format) then ((number64_format then number64_format then number64_format) then (string_format then tested text_from string_format))

abbrev pub krl_of : ((List ℕ × ℕ) × ((ℕ × (ℕ × ℕ)) × (List ℕ × List ℕ))) × List Section → Result Krl Fault
krl_of x = let numbers = x.0.1.0 in let texts = x.0.1.1 in Ok (record { number = numbers.0; date = numbers.1.0; flags = numbers.1.1; reserved = texts.0; comment = texts.1; sections = x.1 })

-- the sections stand up to the end
abbrev pub krl_format : Format Krl
krl_format = tested krl_of (header_format then values_to_end section_format)

-- the bytes spell the list
abbrev pub SpellsKrl : Krl → List ℕ → Type 0
SpellsKrl = krl_format.Spells

-- what stands for the list of bytes that spell none
abbrev pub no_krl : Krl
no_krl = record { number = 0; date = 0; flags = 0; reserved = []; comment = []; sections = [] }

-- the list that all the bytes spell
unfoldable pub krl_in : List ℕ → Krl
krl_in b = found_or no_krl (whole krl_format.read b)

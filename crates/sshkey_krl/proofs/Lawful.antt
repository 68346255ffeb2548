-- The formats are lawful, and no item of a list is empty.
use Rattle.std.proofs.Common.{ℕ, length, Result, ap, arith}
use Rattle.std.proofs.lemmas.List.{length-append}
use Rattle.sshkey_base.proofs.Lawful.{array_lawful, byte_lawful, number32_lawful, number64_lawful, string_lawful}
use Rattle.sshkey_base.proofs.Writing.{length_number8, length_number64}
use Rattle.sshkey_model.specs.Formats.{Format, IsFormat}
use Rattle.sshkey_model.specs.Leaves.{array_format, number32_format, number64_format, string_format}
use Rattle.sshkey_model.proofs.TextReaders.{box_shows}
use Rattle.sshkey_model.specs.Parts.{bytes}
use Rattle.sshkey_model.specs.Reading.{Fault}
use Rattle.sshkey_terms.proofs.Lawful.{boxed_lawful, called_lawful, literal_lawful, tested_lawful, then_lawful, values_to_end_lawful}
use Rattle.sshkey_model.specs.Terms.{◌then◌, literal_format, tested}
use Rattle.sshkey_model.specs.ToEnd.{HasBytes}
use Rattle.sshkey_krl.specs.Krls.{header_format, krl_format, krl_of, magic, version_from, authority_from, section_format}
use Rattle.sshkey_krl.specs.Parts as parts
use Rattle.sshkey_krl.specs.Parts.{key_id_format, numbered, part_format, serial_format, text_from}
use Rattle.sshkey_krl.specs.Krls as sections
use Rattle.sshkey_krl.specs.Revocation.{serial_from}
use Rattle.sshkey_krl.specs.declared.part.PartKind.{PartKind}
use Rattle.sshkey_krl.specs.declared.part.PartKind.TheVariants as part_kinds
use Rattle.sshkey_krl.specs.declared.section.SectionKind.{SectionKind}
use Rattle.sshkey_krl.specs.declared.section.SectionKind.TheVariants as section_kinds

-- ---- a value that its number calls for, in a string

numbered_lawful : {K A : Type 0} (kind_from : ℕ → Result K Fault) {body : K → Format A} → ((k : K) → IsFormat (body k)) → IsFormat (numbered kind_from body)
numbered_lawful kind_from laws = called_lawful (tested_lawful kind_from byte_lawful) (λ k. boxed_lawful (laws k))

-- the number is a byte
number_shows : {K A : Type 0} (kind_from : ℕ → Result K Fault) (body : K → Format A) → HasBytes (numbered kind_from body)
number_shows kind_from body x b s =
    let byte = s.spelled.first in
    omega (arith, ap length s.spelled.all, length-append s.spelled.front s.spelled.after, ap length byte.spelled.shape, length_number8 byte.inner)

-- ---- parts

pub serial_lawful : IsFormat serial_format
serial_lawful = tested_lawful serial_from number64_lawful

pub serial_shows : HasBytes serial_format
serial_shows n b s = omega (arith, ap length s.spelled.shape, length_number64 s.inner)

pub key_id_lawful : IsFormat key_id_format
key_id_lawful = tested_lawful text_from string_lawful

pub key_id_shows : HasBytes key_id_format
key_id_shows text b s = omega (arith, ap length s.spelled.shape, box_shows (bytes s.inner))

part_body_lawful : (k : PartKind) → IsFormat (parts.body k)
part_body_lawful part_kinds.Serials = tested_lawful _ (values_to_end_lawful serial_shows serial_lawful)
part_body_lawful part_kinds.Range = tested_lawful _ (then_lawful number64_lawful number64_lawful)
part_body_lawful part_kinds.Bitmap = tested_lawful _ (then_lawful number64_lawful string_lawful)
part_body_lawful part_kinds.KeyIds = tested_lawful _ (values_to_end_lawful key_id_shows key_id_lawful)

pub part_lawful : IsFormat part_format
part_lawful = numbered_lawful parts.kind_from part_body_lawful

pub part_shows : HasBytes part_format
part_shows = number_shows parts.kind_from parts.body

-- ---- sections

pub string_shows : HasBytes string_format
string_shows x b s = omega (arith, ap length s.shape, box_shows (bytes x))

pub array_shows : (n : ℕ) → HasBytes (array_format n)
array_shows n x b s = omega (arith, ap length s.shape, box_shows (bytes x))

section_body_lawful : (k : SectionKind) → IsFormat (sections.body k)
section_body_lawful section_kinds.Certificates = tested_lawful _ (then_lawful (tested_lawful authority_from string_lawful) (then_lawful string_lawful (values_to_end_lawful part_shows part_lawful)))
section_body_lawful section_kinds.Keys = tested_lawful _ (values_to_end_lawful string_shows string_lawful)
section_body_lawful section_kinds.Sha1 = tested_lawful _ (values_to_end_lawful (array_shows 20) (array_lawful 20))
section_body_lawful section_kinds.Sha256 = tested_lawful _ (values_to_end_lawful (array_shows 32) (array_lawful 32))

pub section_lawful : IsFormat section_format
section_lawful = numbered_lawful sections.kind_from section_body_lawful

pub section_shows : HasBytes section_format
section_shows = number_shows sections.kind_from sections.body

-- ---- the list

pub magic_lawful : IsFormat (literal_format magic)
magic_lawful = literal_lawful magic

pub version_lawful : IsFormat (tested version_from number32_format)
version_lawful = tested_lawful version_from number32_lawful

pub comment_lawful : IsFormat (tested text_from string_format)
comment_lawful = tested_lawful text_from string_lawful

pub opening_lawful : IsFormat (literal_format magic then tested version_from number32_format)
opening_lawful = then_lawful magic_lawful version_lawful

pub numbers_lawful : IsFormat (number64_format then number64_format then number64_format)
numbers_lawful = then_lawful number64_lawful (then_lawful number64_lawful number64_lawful)

pub header_lawful : IsFormat header_format
header_lawful = then_lawful opening_lawful (then_lawful numbers_lawful (then_lawful string_lawful comment_lawful))

pub krl_lawful : IsFormat krl_format
krl_lawful = tested_lawful krl_of (then_lawful header_lawful (values_to_end_lawful section_shows section_lawful))

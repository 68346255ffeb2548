-- The format of SSH signatures is lawful.
use Rattle.sshkey_model.specs.SshSignatures.{signature_magic}
use Rattle.sshkey_model.proofs.NameReaders.{hash_checks}
use Rattle.sshkey_model.specs.Formats.{IsFormat}
use Rattle.sshkey_model.specs.Needs.{NoNeed}
use Rattle.sshkey_model.specs.Names.{hash_format}
use Rattle.sshkey_base.proofs.Lawful.{label_lawful, number32_lawful, string_lawful, text_lawful}
use Rattle.sshkey_terms.proofs.Lawful.{boxed_lawful, literal_lawful, tested_lawful, then_lawful}
use Rattle.sshkey_keys.proofs.Lawful.{key_lawful, signature_lawful}
use Rattle.sshkey_sshsig.specs.SshSignatureFormats.{magic_format, version_from, version_format, namespace_from, namespace_format, opening_format, statement_format, ssh_signature_of_parts, ssh_signature_format}

pub magic_lawful : IsFormat magic_format
magic_lawful = literal_lawful signature_magic

pub version_lawful : IsFormat version_format
version_lawful = tested_lawful version_from number32_lawful

pub namespace_lawful : IsFormat namespace_format
namespace_lawful = tested_lawful namespace_from text_lawful

pub hash_lawful : IsFormat hash_format
hash_lawful = label_lawful NoNeed hash_checks

pub opening_lawful : IsFormat opening_format
opening_lawful = then_lawful magic_lawful (then_lawful version_lawful (boxed_lawful key_lawful))

pub statement_lawful : IsFormat statement_format
statement_lawful = then_lawful namespace_lawful (then_lawful string_lawful (then_lawful hash_lawful (boxed_lawful signature_lawful)))

pub ssh_signature_lawful : IsFormat ssh_signature_format
ssh_signature_lawful = tested_lawful ssh_signature_of_parts (then_lawful opening_lawful statement_lawful)

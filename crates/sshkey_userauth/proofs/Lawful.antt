-- The formats are lawful.
use Rattle.std.specs.Prelude.{Ok}
use Rattle.sshkey_model.specs.Formats.{IsFormat}
use Rattle.sshkey_base.proofs.Lawful.{string_lawful}
use Rattle.sshkey_model.specs.Terms.{literal_format}
use Rattle.sshkey_terms.proofs.Lawful.{called_lawful, literal_lawful, tested_lawful, then_lawful}
use Rattle.sshkey_userauth.specs.Requests.{Hostbound, Method, Publickey, has_signature, message_number}
use Rattle.sshkey_userauth.specs.RequestFormats.{bound_credential, credential_format, method_and_credential, method_format, method_from, opening_format, plain_credential, request_of_parts, signed_format, userauth_format}

pub number_lawful : IsFormat (literal_format message_number)
number_lawful = literal_lawful message_number

pub signed_lawful : IsFormat signed_format
signed_lawful = literal_lawful has_signature

pub method_lawful : IsFormat method_format
method_lawful = tested_lawful method_from string_lawful

credential_lawful : (m : Method) → IsFormat (credential_format m)
credential_lawful Publickey = tested_lawful (λ x. Ok (plain_credential x)) (then_lawful signed_lawful (then_lawful string_lawful string_lawful))
credential_lawful Hostbound = tested_lawful (λ x. Ok (bound_credential x)) (then_lawful signed_lawful (then_lawful string_lawful (then_lawful string_lawful string_lawful)))

pub called_method_lawful : IsFormat method_and_credential
called_method_lawful = called_lawful method_lawful credential_lawful

pub opening_lawful : IsFormat opening_format
opening_lawful = then_lawful string_lawful (then_lawful number_lawful (then_lawful string_lawful string_lawful))

pub userauth_lawful : IsFormat userauth_format
userauth_lawful = tested_lawful request_of_parts (then_lawful opening_lawful called_method_lawful)

pub ruleset lawful = (number_lawful, signed_lawful, method_lawful, called_method_lawful, userauth_lawful)

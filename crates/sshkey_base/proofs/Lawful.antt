-- The formats of the leaves are lawful.
use Rattle.std.specs.Prelude.{ℕ, List}
use Rattle.std.specs.Int.{w8, w32, w64}
use Rattle.sshkey_model.specs.Grammar.{Checks}
use Rattle.sshkey_model.specs.Parts.{Any, bytes}
use Rattle.sshkey_model.specs.Reading.{Whole, whole, bytes_at, number_at}
use Rattle.sshkey_model.proofs.Grammars.{by_itself}
use Rattle.sshkey_model.specs.Formats.{IsFormat}
use Rattle.sshkey_model.specs.Leaves.{byte_format, number32_format, number64_format, string_format, array_format}
use Rattle.sshkey_model.specs.ShortStrings.{short_format}
use Rattle.sshkey_model.specs.Texts.{text_format, texts_format}
use Rattle.sshkey_model.specs.Mpints.{mpint_format}
use Rattle.sshkey_model.specs.Labels.{label_format}
use Rattle.sshkey_model.specs.CertificateNames.{certified_format}
use Rattle.sshkey_base.proofs.Leaves.{byte_grammar, number32_grammar, number64_grammar, string_grammar, array_grammar, short_grammar, text_grammar, texts_grammar, mpint_grammar, label_grammar, certified_grammar}
use Rattle.sshkey_base.proofs.Lengths.{no_lengths, string_lengths, box_lengths, short_lengths, text_lengths, mpint_lengths, label_lengths, texts_lengths, certified_lengths}

pub byte_lawful : IsFormat byte_format
byte_lawful = record { grammar = by_itself byte_grammar; lengths = no_lengths (number_at w8) }

pub number32_lawful : IsFormat number32_format
number32_lawful = record { grammar = by_itself number32_grammar; lengths = no_lengths (number_at w32) }

pub number64_lawful : IsFormat number64_format
number64_lawful = record { grammar = by_itself number64_grammar; lengths = no_lengths (number_at w64) }

pub string_lawful : IsFormat string_format
string_lawful = record { grammar = by_itself string_grammar; lengths = string_lengths }

pub array_lawful : (n : ℕ) → IsFormat (array_format n)
array_lawful n = record { grammar = by_itself (array_grammar n); lengths = box_lengths (whole (bytes_at n)) }

pub short_lawful : (n : ℕ) → IsFormat (short_format n)
short_lawful n = record { grammar = by_itself (short_grammar n); lengths = short_lengths n }

pub text_lawful : IsFormat text_format
text_lawful = record { grammar = by_itself text_grammar; lengths = text_lengths }

pub mpint_lawful : IsFormat mpint_format
mpint_lawful = record { grammar = by_itself mpint_grammar; lengths = mpint_lengths }

pub texts_lawful : IsFormat texts_format
texts_lawful = record { grammar = by_itself texts_grammar; lengths = texts_lengths }

pub label_lawful : {N : Type 0} {Is : N → Type 0} {name : N → List ℕ} {named : Whole N} (needs : List ℕ → ℕ → Type 0) → Checks Any bytes Is (λ n. bytes (name n)) named → IsFormat (label_format Is name named needs)
label_lawful {named = named} needs checks = record { grammar = by_itself (label_grammar checks); lengths = label_lengths named }

pub certified_lawful : IsFormat certified_format
certified_lawful = record { grammar = by_itself certified_grammar; lengths = certified_lengths }

pub ruleset lawful = (byte_lawful, number32_lawful, number64_lawful, string_lawful, array_lawful, short_lawful, text_lawful, mpint_lawful, texts_lawful)

-- The readers of the leaves take exactly their spellings.
use Rattle.std.specs.Prelude.{ℕ, List, length, nat_le}
use Rattle.std.specs.Int.{w8, w32, w64}
use Rattle.sshkey_model.specs.CertificateNames.{IsCertified, certificate_algorithm, certificate_algorithm_at}
use Rattle.sshkey_model.specs.Grammar.{IsGrammar, Spells, Checks}
use Rattle.sshkey_model.specs.Mpints.{mpint_at, SpellsMpint}
use Rattle.sshkey_model.specs.Parts.{Any, bytes}
use Rattle.sshkey_model.specs.Reading.{Length, Whole, whole, bytes_at, number_at, string_at, box_at}
use Rattle.sshkey_model.specs.Texts.{string, text_at, texts_at, SpellsTexts, SpellsText}
use Rattle.sshkey_model.proofs.CertificateNameReaders.{certificate_algorithm_reads}
use Rattle.sshkey_model.proofs.CombinedReaders.{wide8, wide32, wide64, bytes_reads, number_reads, string_reads, box_reads, whole_reads, checked_string_reads, kept_bytes}
use Rattle.sshkey_model.proofs.Grammars.{grammar}
use Rattle.sshkey_model.proofs.MpintReaders.{mpint_reads}
use Rattle.sshkey_model.proofs.TextReaders.{text_reads, texts_reads}
use Rattle.sshkey_model.specs.Labels.{label_at}
use Rattle.sshkey_model.specs.Leaves.{SpellsByte, SpellsNumber32, SpellsNumber64, SpellsString, SpellsArray}
use Rattle.sshkey_model.specs.ShortStrings.{SpellsShort, short_at}

pub byte_grammar : IsGrammar SpellsByte (number_at w8)
byte_grammar = grammar (number_reads w8 wide8)

pub number32_grammar : IsGrammar SpellsNumber32 (number_at w32)
number32_grammar = grammar (number_reads w32 wide32)

pub number64_grammar : IsGrammar SpellsNumber64 (number_at w64)
number64_grammar = grammar (number_reads w64 wide64)

pub string_grammar : IsGrammar SpellsString string_at
string_grammar = grammar string_reads

pub array_grammar : (n : ℕ) → IsGrammar (SpellsArray n) (box_at (whole (bytes_at n)))
array_grammar n = grammar (box_reads (whole_reads (bytes_reads n)))

pub short_grammar : (n : ℕ) → IsGrammar (SpellsShort n) (short_at n)
unfolding short_at
short_grammar n = grammar (checked_string_reads (kept_bytes (λ b. nat_le (length b) n) Length))

pub text_grammar : IsGrammar SpellsText text_at
text_grammar = grammar text_reads

pub texts_grammar : IsGrammar SpellsTexts texts_at
texts_grammar = grammar texts_reads

pub mpint_grammar : IsGrammar SpellsMpint mpint_at
mpint_grammar = grammar mpint_reads

pub label_grammar : {N : Type 0} {Is : N → Type 0} {name : N → List ℕ} {named : Whole N} → Checks Any bytes Is (λ n. bytes (name n)) named → IsGrammar (Spells Is (λ n. string (name n))) (label_at named)
unfolding label_at
label_grammar checks = grammar (checked_string_reads checks)

pub certified_grammar : IsGrammar (Spells IsCertified certificate_algorithm) certificate_algorithm_at
certified_grammar = grammar certificate_algorithm_reads

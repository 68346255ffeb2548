-- The plain reader of keys takes exactly the spellings.
use Rattle.std.proofs.Common.{refl}
use Rattle.sshkey_model.specs.Parts.{flat, Fits}
use Rattle.sshkey_model.specs.Reading.{after_at}
use Rattle.sshkey_model.specs.Grammar.{IsGrammar}
use Rattle.sshkey_model.specs.Names.{Algorithm, name_format}
use Rattle.sshkey_model.specs.Keys.{Key, Plain, IsKey, normal_key, key_at, body_at, SpellsBody, SpellsKey, key_data_at}
use Rattle.sshkey_model.proofs.CombinedReaders.{bind_assoc}
use Rattle.sshkey_model.proofs.Grammars.{grammar, grammar_with, same_grammar}
use Rattle.sshkey_model.proofs.KeyReaders.{body_reads, key_reads}
use Rattle.sshkey_terms.proofs.Lawful.{IsChosen, called_chosen}

pub body_grammar : (a : Algorithm) → IsGrammar (SpellsBody a) (body_at a)
body_grammar a = grammar (body_reads a)

pub key_grammar : IsGrammar SpellsKey key_data_at
unfolding key_data_at key_at after_at
key_grammar = same_grammar (grammar_with key_reads) (λ b. simp bind_assoc)

-- what is written of a key is one of its spellings
pub key_normal : (k : Key) → IsKey k → Fits (normal_key k) → SpellsKey k (flat (normal_key k))
key_normal k is fits = record { is = is; choices = Plain; place = tt; fits = fits; shape = refl }

-- it is read after its name
pub key_chosen : IsChosen key_data_at name_format.read body_at
unfolding key_data_at
key_chosen = called_chosen name_format.read body_at

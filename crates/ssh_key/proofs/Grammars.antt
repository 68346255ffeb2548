-- A lawful plain reader takes exactly the spellings.
pub use Rattle.sshkey_model.proofs.Grammars.{AllEnd, SpellsBoth, both_at, grammar, grammar_with, same_grammar, one_front, none_spelled, by_itself, ends, all_end}

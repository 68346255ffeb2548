-- Formats are lawful: those of leaves, of terms of lawful formats, of keys, signatures and pairs.
pub use Rattle.sshkey_base.proofs.Lengths.{no_lengths, string_lengths, checked_lengths, box_lengths, boxed_lengths, to_end_lengths, box_list_lengths}
pub use Rattle.sshkey_base.proofs.Lawful.{byte_lawful, number32_lawful, number64_lawful, string_lawful, array_lawful, short_lawful, text_lawful, mpint_lawful, texts_lawful, label_lawful, certified_lawful}
pub use Rattle.sshkey_terms.proofs.Lawful.{with_first, IsMapped, checked_read, IsChosen, called_chosen, called_ends, chosen_lengths, dependent_lawful, then_lawful, tested_lawful, without_memory_lawful, boxed_lawful, literal_lawful, called_lawful, needing_lawful, or_nothing_lawful, read_as_lawful, known_as_lawful, values_lawful, counted_lawful, values_to_end_lawful, each_after_lawful}
pub use Rattle.sshkey_keys.proofs.Lawful.{key_lawful, signature_lawful}
pub use Rattle.sshkey_pairs.proofs.Keypairs.{keypair_lawful}

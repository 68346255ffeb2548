-- A line is cut into its words in one way, and its second word is that of one blob, whose length it
-- announces.
pub use Rattle.sshkey_model.proofs.Base64Words.{one_blob}
pub use Rattle.sshkey_model.proofs.Blobs.{certificate_blobs}
pub use Rattle.sshkey_model.proofs.LineCuts.{one_cut}
pub use Rattle.sshkey_model.proofs.Lines.{line_cut}
pub use Rattle.sshkey_public.proofs.ReadLines.{cut_words, cuts_word, no_words, only_cut, same_words}
pub use Rattle.sshkey_base64.proofs.GoodBytes.{announced_word, length_word}

-- Texts and lists of texts are read as they are spelled.
use Rattle.std.proofs.Common.{◌<◌, List, [], ◌∷◌, length, Option, None, Some, arith}
use Rattle.std.specs.Str.{is_utf8}
use Rattle.std.specs.List.{AllByRecursion}
use Rattle.sshkey_model.specs.Parts.{Parts, bytes, box, each, flat}
use Rattle.sshkey_model.specs.Reading.{CharacterEncoding, list_whole, IsChain}
use Rattle.sshkey_model.specs.Texts.{string, IsText, text_at, texts, texts_at}
use Rattle.sshkey_model.proofs.CombinedReaders.{ReadsFront, ReadsWhole, checked_string_reads, kept_bytes, box_reads, list_reads, as_whole_form}

pub text_reads : ReadsFront IsText string text_at
unfolding text_at
text_reads = checked_string_reads (kept_bytes is_utf8 CharacterEncoding)

-- a box is never empty
pub box_shows : (p : Parts) → 0 < length (flat (box p))
unfolding flat
box_shows p = omega arith

chain_all : {A : Type 0} (Is : A → Type 0) (before : Option A) (xs : List A) → IsChain (λ _ x. Is x) before xs → AllByRecursion Is xs
unfolding IsChain
chain_all Is before [] h = tt
chain_all Is before (x ∷ xs) h = (h.0, chain_all Is (Some x) xs h.1)

all_chain : {A : Type 0} (Is : A → Type 0) (before : Option A) (xs : List A) → AllByRecursion Is xs → IsChain (λ _ x. Is x) before xs
unfolding IsChain
all_chain Is before [] h = tt
all_chain Is before (x ∷ xs) h = (h.0, all_chain Is (Some x) xs h.1)

-- what stands in the box
pub text_list_reads : ReadsWhole (AllByRecursion IsText) (each string) (list_whole (λ before. text_at))
text_list_reads = as_whole_form (chain_all IsText None) (all_chain IsText None) (list_reads (λ _. text_reads) (λ t. box_shows (bytes t)) None)

pub texts_reads : ReadsFront (AllByRecursion IsText) (texts) texts_at
unfolding texts_at
texts_reads = box_reads text_list_reads

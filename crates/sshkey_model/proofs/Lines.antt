-- When a text is a line of a value, and that it is a line of one at most.
use Rattle.std.proofs.Common.{◌≡◌, ℕ, List, length, sym, ap, ◌∙◌, subst, refl, arith}
use Rattle.base64.specs.Engines.{standard}
use Rattle.base64.specs.GeneralPurpose.{encode_of, IsBytes}
use Rattle.sshkey_model.specs.Lines.{IsLine, IsLineOf, IsNoLine, HasWordCharacters, joined, IsCut, IsBlob, LinesDetermineValues}
use Rattle.sshkey_model.proofs.CombinedReaders.{bytes_fit}
use Rattle.sshkey_model.proofs.Base64Words.{word_not, some_word, one_blob}
use Rattle.sshkey_model.proofs.LineCuts.{one_cut}
use Rattle.sshkey_model.specs.Texts.{IsText}

pub line_cut : (text first blob comment : List ℕ) → IsLine text first blob comment → IsCut text first (encode_of standard blob) comment
line_cut text first blob comment h = record { is = h.is; some_first = h.some_first; some_word = some_word blob h.some_blob; characters = h.characters; one_word = word_not blob }

module _ {V : Type 0} (first : V → List ℕ) (Spelling : V → List ℕ → Type 0) where
  -- A text that is not cut into words is no line.
  pub no_cut : (text : List ℕ) → ((f w m : List ℕ) → IsCut text f w m → ⊥) → IsNoLine first Spelling text
  no_cut text none = λ v comment line. none _ _ comment (line_cut text _ line.blob comment line.line)

  module _ (blobs : IsBlob Spelling) where
    blob_fits : (v : V) (blob : List ℕ) → Spelling v blob → IsBytes blob
    blob_fits v blob s = bytes_fit blob (blobs.bytes v blob s)

    -- nor one whose second word is not Base64
    pub no_blob : (text f w m : List ℕ) → IsCut text f w m → ((blob : List ℕ) → IsBytes blob → w ≡ encode_of standard blob → ⊥) → IsNoLine first Spelling text
    no_blob text f w m cut none = λ v comment line.
        let same = one_cut text f w m _ _ comment cut (line_cut text _ line.blob comment line.line) in
        none line.blob (blob_fits v line.blob line.spelled) same.1

    -- the parts of a line are those that it was cut into
    same_parts : (text f w m blob : List ℕ) → IsCut text f w m → w ≡ encode_of standard blob → IsBytes blob → (v : V) (comment : List ℕ) (line : IsLineOf first Spelling text v comment)
        → (f ≡ first v) × (blob ≡ line.blob) × (m ≡ comment)
    same_parts text f w m blob cut word fits v comment line =
        let same = one_cut text f w m _ _ comment cut (line_cut text _ line.blob comment line.line) in
        (same.0, one_blob blob line.blob fits (blob_fits v line.blob line.spelled) (sym word ∙ same.1), same.2)

    -- nor one whose blob spells nothing
    pub no_value : (text f w m blob : List ℕ) → IsCut text f w m → w ≡ encode_of standard blob → IsBytes blob → ((v : V) → Spelling v blob → ⊥) → IsNoLine first Spelling text
    no_value text f w m blob cut word fits none = λ v comment line.
        let same = same_parts text f w m blob cut word fits v comment line in
        none v (subst (λ (b : List ℕ). Spelling v b) (sym same.1) line.spelled)

    -- nor one whose first word is not that of the value
    pub other_first : (text f w m blob : List ℕ) (v : V) → IsCut text f w m → w ≡ encode_of standard blob → IsBytes blob → Spelling v blob → (f ≡ first v → ⊥) → IsNoLine first Spelling text
    other_first text f w m blob v cut word fits spelled other = λ u comment line.
        let same = same_parts text f w m blob cut word fits u comment line in
        let value : u ≡ v = blobs.one u v blob (subst (λ (b : List ℕ). Spelling u b) (sym same.1) line.spelled) spelled in
        other (same.0 ∙ ap first value)

    -- A text that is so cut, with the value's first word and a blob that spells it, is its line.
    pub is_line : (text f w m blob : List ℕ) (v : V) → IsText text → IsCut text f w m → w ≡ encode_of standard blob → Spelling v blob → f ≡ first v → IsLineOf first Spelling text v m
    is_line text f w m blob v utf8 cut word spelled same = record {
      blob = blob;
      spelled = spelled;
      line = record {
        utf8 = utf8;
        is = cut.is ∙ ap (λ (x : List ℕ). joined f x m) word ∙ ap (λ (x : List ℕ). joined x (encode_of standard blob) m) same;
        some_first = omega (arith, ap length same, cut.some_first);
        some_blob = blobs.some v blob spelled;
        characters = subst HasWordCharacters same cut.characters;
      };
    }

    -- A text is a line of one value at most, and with one comment.
    pub one_line : (text m n : List ℕ) (v w : V) → IsLineOf first Spelling text v m → IsLineOf first Spelling text w n → (v ≡ w) × (m ≡ n)
    one_line text m n v w a b =
        let same = same_parts text (first v) (encode_of standard a.blob) m a.blob (line_cut text _ a.blob m a.line) refl (blob_fits v a.blob a.spelled) w n b in
        (blobs.one v w b.blob (subst (λ (x : List ℕ). Spelling v x) same.1 a.spelled) b.spelled, same.2)

    pub one_value : LinesDetermineValues first Spelling
    unfolding LinesDetermineValues
    one_value = one_line

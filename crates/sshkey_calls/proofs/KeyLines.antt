-- What a line holds, and stands in the room.
use Rattle.std.proofs.Common.{◌≡◌, ◌≢◌, ◌<◌, ℕ, ◌⊎◌, List, ◌++◌, length, inl, inr, refl, sym, ap, ◌∙◌, subst, arith}
use Rattle.base64.specs.GeneralPurpose.{IsBytes}
use Rattle.sshkey_model.specs.Certificates.{Certificate, certificate_format, SpellsCertificate}
use Rattle.sshkey_model.specs.Keys.{Key, key_format, SpellsKey}
use Rattle.sshkey_model.specs.Lines.{IsLine, IsLineOf, IsNoLine, key_name, name_of_certificate}
use Rattle.sshkey_model.specs.Texts.{IsText}
use Rattle.sshkey_model.proofs.Blobs.{certificate_blobs, key_blobs}
use Rattle.sshkey_model.proofs.CombinedReaders.{bytes_fit}
use Rattle.sshkey_public.specs.Lines.{HasComment, NeedsValue}
use Rattle.sshkey_calls.specs.KeyLines.{ArePlaced, Content, HoldsContent, NeedsLine, ReadsContent, TellsLineFault, content_of, line_bytes}
use Rattle.sshkey_calls.specs.Rooms.{GivesValue, IsLaidOut}
use Rattle.sshkey_calls.proofs.Rooms.{give_one, none_given, no_memory as nothing_said}
use Rattle.sshkey_calls.specs.declared.line.Line.{Line}

-- ---- in the room

-- A blob, and a comment that was added after it.
pub laid : (kind : ℕ) (blob comment before content : List ℕ) (line : Line) → before ≡ blob → content ≡ before ++ comment → line.kind ≡ kind → line.blob.start ≡ 0 → line.blob.length ≡ length before → line.comment.start ≡ length before → line.comment.length ≡ length comment → line.length ≡ length content → IsLaidOut line_bytes ArePlaced (content_of kind blob comment) content line
laid kind blob comment before content line is added same at_front blob_length after comment_length all =
    let content_is : content ≡ blob ++ comment = added ∙ ap (λ (x : List ℕ). x ++ comment) is in (
      content_is,
      record {
        kind = same;
        blob = (at_front, blob_length ∙ ap length is);
        comment = (after ∙ ap length is, comment_length);
        length = all ∙ ap length content_is;
      },
    )

-- One that is there has no fault.
pub told : (x : Content) (n : ℕ) (was line : Line) (before after : List ℕ) → GivesValue (λ y. y ≡ x) line_bytes ArePlaced (λ (a : Line). a.length) n was line before after → ReadsContent (λ y. y ≡ x) n was line before after
told x n was line before after gives = record { gives = gives; fault = λ not_zero not_one not_two. absurd (gives.none not_zero not_one not_two x refl) }

-- What is read is what is wanted.
read_one : {Wanted : Content → Type 0} (x : Content) (n : ℕ) (was line : Line) (before after : List ℕ) → Wanted x → ReadsContent (λ y. y ≡ x) n was line before after → ReadsContent Wanted n was line before after
read_one x n was line before after wanted reads = record { gives = give_one x n was line before after wanted reads.gives; fault = reads.fault }

-- Nothing is said.
pub no_memory : {Wanted : Content → Type 0} (n : ℕ) (was line : Line) (before after : List ℕ) → (line ≡ was) × (after ≡ before) → n ≡ 1 → ReadsContent Wanted n was line before after
no_memory n was line before after same one = record { gives = nothing_said n was line before after same one; fault = λ _ not_one _. absurd (not_one one) }

-- There is none.
pub none_read : {Wanted : Content → Type 0} (n : ℕ) (was line : Line) (before after : List ℕ) → (line ≡ was) × (after ≡ before) → (n ≢ 1 → (9 < n) × (n < 30)) → (n ≢ 1 → (x : Content) → Wanted x → ⊥) → n ≢ 0 → n ≢ 2 → ReadsContent Wanted n was line before after
none_read n was line before after same range none some apart = record { gives = none_given n was line before after same some apart none; fault = λ _ not_one _. range not_one }

-- ---- in the line

-- What is told of the blob and the comment of a line that was read.
abbrev Tells : List ℕ → ℕ → List ℕ → ℕ → Line → Line → List ℕ → List ℕ → Type 0
Tells text kind comment n was line before after = (first blob : List ℕ) → IsLine text first blob comment → IsBytes blob → ReadsContent (λ x. x ≡ content_of kind blob comment) n was line before after

pub reads_key : (text : List ℕ) (k : Key) (comment : List ℕ) (n : ℕ) (was answer : Line) (before after : List ℕ) → IsLineOf key_name SpellsKey text k comment → Tells text 1 comment n was answer before after → ReadsContent (HoldsContent text) n was answer before after
reads_key text k comment n was answer before after line tells =
    read_one (content_of 1 line.blob comment) n was answer before after (inl (refl, (k, line.spelled, line.line)))
    (tells (key_name k) line.blob line.line (bytes_fit line.blob (key_blobs.bytes k line.blob line.spelled)))

pub reads_certificate : (text : List ℕ) (c : Certificate) (comment : List ℕ) (n : ℕ) (was answer : Line) (before after : List ℕ) → IsLineOf name_of_certificate SpellsCertificate text c comment → Tells text 2 comment n was answer before after → ReadsContent (HoldsContent text) n was answer before after
reads_certificate text c comment n was answer before after line tells =
    read_one (content_of 2 line.blob comment) n was answer before after (inr (refl, (c, line.spelled, line.line)))
    (tells (name_of_certificate c) line.blob line.line (bytes_fit line.blob (certificate_blobs.bytes c line.blob line.spelled)))

-- A line of neither holds nothing.
pub holds_nothing : (text : List ℕ) → IsNoLine key_name SpellsKey text → IsNoLine name_of_certificate SpellsCertificate text → (x : Content) → HoldsContent text x → ⊥
holds_nothing text no_key no_certificate x holds = elim holds [
  | inl key ↦ no_key key.1.0 x.comment (record { blob = x.blob; spelled = key.1.1; line = key.1.2 })
  | inr certificate ↦ no_certificate certificate.1.0 x.comment (record { blob = x.blob; spelled = certificate.1.1; line = certificate.1.2 })
]

-- What holds something is a text.
pub held_text : (text : List ℕ) (x : Content) → HoldsContent text x → IsText text
held_text text x holds = elim holds [
  | inl key ↦ key.1.2.utf8
  | inr certificate ↦ certificate.1.2.utf8
]

-- Of a line of neither one of the two faults is told.
pub fault_told : (text : List ℕ) (of_key of_certificate n : ℕ) (was answer : Line) (before after : List ℕ) → (answer ≡ was) × (after ≡ before) → IsNoLine key_name SpellsKey text → (9 < of_key) × (of_key < 30) → (of_certificate ≢ 1 → IsNoLine name_of_certificate SpellsCertificate text) → (of_certificate ≢ 1 → (9 < of_certificate) × (of_certificate < 30)) → of_certificate ≢ 0 → of_certificate ≢ 2 → (n ≡ of_key) ⊎ (n ≡ of_certificate) → (of_certificate ≡ 1 → n ≡ 1) → ReadsContent (HoldsContent text) n was answer before after
fault_told text of_key of_certificate n was answer before after same no_key range no_certificate ranges some apart either memory = none_read n was answer before after same
    (λ not_one. elim either [
      | inl key ↦ subst (λ (x : ℕ). (9 < x) × (x < 30)) (sym key) range
      | inr certificate ↦ subst (λ (x : ℕ). (9 < x) × (x < 30)) (sym certificate) (ranges (λ one. not_one (memory one)))
    ])
    (λ not_one. holds_nothing text no_key (no_certificate (λ one. not_one (memory one))))
    (λ zero_. elim either [
      | inl key ↦ omega (arith, key, zero_, range.0)
      | inr certificate ↦ some (sym certificate ∙ zero_)
    ])
    (λ two. elim either [
      | inl key ↦ omega (arith, key, two, range.0)
      | inr certificate ↦ apart (sym certificate ∙ two)
    ])

-- ---- memory

-- for a line
pub needs_key_line : (text : List ℕ) (k : Key) (comment : List ℕ) → IsLineOf key_name SpellsKey text k comment → NeedsLine text
needs_key_line text k comment line = inr (inr (content_of 1 line.blob comment, inl (refl, (k, line.spelled, line.line))))

pub needs_certificate_line : (text : List ℕ) (c : Certificate) (comment : List ℕ) → IsLineOf name_of_certificate SpellsCertificate text c comment → NeedsLine text
needs_certificate_line text c comment line = inr (inr (content_of 2 line.blob comment, inr (refl, (c, line.spelled, line.line))))

-- or for its bytes
pub needs_key : (text : List ℕ) → NeedsValue key_format text ⊎ HasComment key_name SpellsKey text → NeedsLine text
needs_key text (inl value) = inl value
needs_key text (inr has) = needs_key_line text has.value has.comment has.line

pub needs_certificate : (text : List ℕ) → NeedsValue certificate_format text ⊎ HasComment name_of_certificate SpellsCertificate text → NeedsLine text
needs_certificate text (inl value) = inr (inl value)
needs_certificate text (inr has) = needs_certificate_line text has.value has.comment has.line

-- One of the two faults is memory only where that of the certificate is.
pub memory_of : (of_key of_certificate n : ℕ) → 9 < of_key → (n ≡ of_key) ⊎ (n ≡ of_certificate) → n ≡ 1 → of_certificate ≡ 1
memory_of of_key of_certificate n big (inl key) one = absurd (omega (arith, big, key, one))
memory_of of_key of_certificate n big (inr certificate) one = sym certificate ∙ one

-- ---- its fault

-- A line that holds something has none.
pub no_fault : (text : List ℕ) (x : Content) (n : ℕ) (was line : Line) (before after : List ℕ) → HoldsContent text x → ReadsContent (HoldsContent text) n was line before after → TellsLineFault text n
no_fault text x n was line before after holds reads not_zero not_one not_two = absurd (reads.gives.none not_zero not_one not_two x holds)

pub key_has_none : (text : List ℕ) (k : Key) (comment : List ℕ) (n : ℕ) (was answer : Line) (before after : List ℕ) → IsLineOf key_name SpellsKey text k comment → Tells text 1 comment n was answer before after → TellsLineFault text n
key_has_none text k comment n was answer before after line tells = no_fault text (content_of 1 line.blob comment) n was answer before after (inl (refl, (k, line.spelled, line.line))) (reads_key text k comment n was answer before after line tells)

pub certificate_has_none : (text : List ℕ) (c : Certificate) (comment : List ℕ) (n : ℕ) (was answer : Line) (before after : List ℕ) → IsLineOf name_of_certificate SpellsCertificate text c comment → Tells text 2 comment n was answer before after → TellsLineFault text n
certificate_has_none text c comment n was answer before after line tells = no_fault text (content_of 2 line.blob comment) n was answer before after (inr (refl, (c, line.spelled, line.line))) (reads_certificate text c comment n was answer before after line tells)

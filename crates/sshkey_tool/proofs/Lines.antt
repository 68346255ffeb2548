-- What was written, piece by piece.
use Rattle.std.proofs.Common.{◌≡◌, ◌≤◌, ◌+◌, ◌-◌, ℕ, List, ◌++◌, length, take, drop, Option, None, Some, sym, ap, ◌∙◌, arith, ◌<◌, [], ◌∷◌, get_or, map, refl}
use Rattle.std.proofs.lemmas.List.{append_assoc, take_all, length-drop, length-take, map-append, take_more}
use Rattle.std.proofs.Math.Seq.{take-add}
use Rattle.std.specs.Io.KnownBytes.{Appends}
use Rattle.std.specs.Prelude.{String, string_bytes, codes, decimal}
use Rattle.sshkey_model.specs.Certificates.{Certificate}
use Rattle.sshkey_model.specs.Lines.{key_line, key_name}
use Rattle.sshkey_model.specs.Options.{CertificateOption}
use Rattle.sshkey_cert_values.specs.CertificateFields.{option_of}
use Rattle.sshkey_tool.specs.Lines.{in_lines, line_end, principal_line, principal_lines, option_line, type_word, end_text, subject_lines, window_lines, field_lines, certificate_lines}

all_left : (text : List ℕ) (n : ℕ) → take (length text - n) (drop n text) ≡ drop n text
all_left text n = take_all (length text - n) (drop n text) (omega (arith, length-drop n text))

pub fewer : (text : List ℕ) (n k : ℕ) → n ≤ length text → k ≤ length (take (length text - n) (drop n text)) → n + k ≤ length text
fewer text n k within bound = omega (arith, length-take (length text - n) (drop n text), length-drop n text)

pub more : (old mid new : Option (List ℕ)) (text : List ℕ) (n k : ℕ) → Appends old mid (take n text) → Appends mid new (take k (take (length text - n) (drop n text))) → Appends old new (take (n + k) text)
more None mid new text n k a b = tt
more (Some xs) None new text n k a b = absurd a
more (Some xs) (Some ys) None text n k a b = absurd b
more (Some xs) (Some ys) (Some zs) text n k a b =
    b ∙ ap (λ (l : List ℕ). ys ++ take k l) (all_left text n) ∙ ap (λ (l : List ℕ). l ++ take k (drop n text)) a
    ∙ append_assoc xs (take n text) (take k (drop n text)) ∙ ap (λ (l : List ℕ). xs ++ l) (sym (take-add n k text))

-- Lines, one after the other.

pub lines_append : (xs ys : List (List ℕ)) → in_lines (xs ++ ys) ≡ in_lines xs ++ in_lines ys
lines_append [] ys = refl
lines_append (x ∷ xs) ys = ap (λ (l : List ℕ). x ++ (line_end ++ l)) (lines_append xs ys) ∙ sym (append_assoc x (line_end ++ in_lines xs) (in_lines ys))

-- ---- a line for each

module _ {Z : Type 0} where
  abbrev pub shown : List (String Z) → List ℕ
  shown ps = in_lines (map principal_line (map string_bytes ps))

  shown_one_more : (ps : List (String Z)) (p : String Z) → shown (ps ++ p ∷ []) ≡ shown ps ++ (principal_line (string_bytes p) ++ line_end)
  shown_one_more ps p =
      ap (λ (l : List (List ℕ)). in_lines (map principal_line l)) (map-append string_bytes ps (p ∷ []))
      ∙ ap in_lines (map-append principal_line (map string_bytes ps) (string_bytes p ∷ []))
      ∙ lines_append (map principal_line (map string_bytes ps)) (principal_line (string_bytes p) ∷ [])

  -- the line of the next principal after those so far
  pub principal_more : (ps : List (String Z)) (i : ℕ) (p : String Z) (text now : List ℕ) → i < length ps → p ≡ get_or ps i p → text ≡ principal_line (string_bytes p) ++ line_end → now ≡ shown (take i ps) ++ text → now ≡ shown (take (i + 1) ps)
  principal_more ps i p text now below is line after =
      after
      ∙ ap (λ (l : List ℕ). shown (take i ps) ++ l) line
      ∙ sym (shown_one_more (take i ps) p)
      ∙ ap (λ (q : String Z). shown (take i ps ++ q ∷ [])) is
      ∙ sym (ap shown (take_more ps i p below))

-- ---- options

module _ {Y Z : Type 0} (kind : List ℕ) where
  abbrev pub options_shown : List (String Y × String Z) → List ℕ
  options_shown es = in_lines (map (option_line kind) (map option_of es))

-- ---- all lines

abbrev pub subject_text : (name kind serial key_id : List ℕ) → List ℕ
subject_text name kind serial key_id =
    codes "algorithm " ++ (name ++ (10 ∷ codes "type " ++ (kind ++ (10 ∷ codes "serial " ++ (serial ++ (10 ∷ codes "key id " ++ (key_id ++ line_end)))))))

pub subject_is : (c : Certificate) (name kind serial key_id text : List ℕ) → name ≡ key_name c.signed.key → kind ≡ type_word c.signed.certificate_type → serial ≡ decimal c.signed.serial → key_id ≡ c.signed.key_id → text ≡ subject_text name kind serial key_id → text ≡ in_lines (subject_lines c)
subject_is c name kind serial key_id text e1 e2 e3 e4 is =
    let all : subject_text name kind serial key_id ≡ in_lines (subject_lines c) = rw (e1, e2, e3, e4) refl in
    is ∙ all

abbrev pub window_text : (after before : List ℕ) → List ℕ
window_text after before = codes "valid after " ++ (after ++ (10 ∷ codes "valid before " ++ (before ++ line_end)))

pub window_is : (c : Certificate) (after before text : List ℕ) → after ≡ decimal c.signed.valid_after → before ≡ end_text c.signed.valid_before → text ≡ window_text after before → text ≡ in_lines (window_lines c)
window_is c after before text e1 e2 is =
    let all : window_text after before ≡ in_lines (window_lines c) = rw (e1, e2) refl in
    is ∙ all

pub fields_are : (c : Certificate) (subject window text : List ℕ) → subject ≡ in_lines (subject_lines c) → window ≡ in_lines (window_lines c) → text ≡ subject ++ window → text ≡ in_lines (field_lines c)
fields_are c subject window text e1 e2 is =
    is
    ∙ ap (λ (l : List ℕ). l ++ window) e1
    ∙ ap (λ (l : List ℕ). in_lines (subject_lines c) ++ l) e2
    ∙ sym (lines_append (subject_lines c) (window_lines c))

-- the lines of each part, and the line of the authority
abbrev pub parts_text : (fields principals critical extensions authority : List ℕ) → List ℕ
parts_text fields principals critical extensions authority =
    fields ++ (principals ++ (critical ++ (extensions ++ (codes "ca " ++ (authority ++ line_end)))))

abbrev pub options_text : (kind : List ℕ) → List CertificateOption → List ℕ
options_text kind os = in_lines (map (option_line kind) os)

abbrev pub certificate_text : Certificate → List ℕ
certificate_text c = parts_text (in_lines (field_lines c)) (in_lines (principal_lines c.signed.valid_principals))
    (options_text (codes "critical option") c.signed.critical_options)
    (options_text (codes "extension") c.signed.extensions) (key_line c.signed.signature_key [])

certificate_is : (c : Certificate) → in_lines (certificate_lines c) ≡ certificate_text c
certificate_is c =
    let ca : List (List ℕ) = (codes "ca " ++ key_line c.signed.signature_key []) ∷ [] in
    let extensions : List (List ℕ) = map (option_line (codes "extension")) c.signed.extensions in
    let critical : List (List ℕ) = map (option_line (codes "critical option")) c.signed.critical_options in
    let principals : List (List ℕ) = principal_lines c.signed.valid_principals in
    lines_append (field_lines c) (principals ++ (critical ++ (extensions ++ ca)))
    ∙ ap (λ (l : List ℕ). in_lines (field_lines c) ++ l) (lines_append principals (critical ++ (extensions ++ ca)))
    ∙ ap (λ (l : List ℕ). in_lines (field_lines c) ++ (in_lines principals ++ l)) (lines_append critical (extensions ++ ca))
    ∙ ap (λ (l : List ℕ). in_lines (field_lines c) ++ (in_lines principals ++ (in_lines critical ++ l))) (lines_append extensions ca)

pub lines_are : (c : Certificate) (fields principals critical extensions authority text : List ℕ) →
    fields ≡ in_lines (field_lines c) →
    principals ≡ in_lines (principal_lines c.signed.valid_principals) →
    critical ≡ options_text (codes "critical option") c.signed.critical_options →
    extensions ≡ options_text (codes "extension") c.signed.extensions →
    authority ≡ key_line c.signed.signature_key [] →
    text ≡ parts_text fields principals critical extensions authority →
    text ≡ in_lines (certificate_lines c)
lines_are c fields principals critical extensions authority text e1 e2 e3 e4 e5 is =
    let all : parts_text fields principals critical extensions authority ≡ certificate_text c = rw (e1, e2, e3, e4, e5) refl in
    is ∙ all ∙ sym (certificate_is c)

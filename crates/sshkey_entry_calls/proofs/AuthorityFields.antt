-- The number of a refusal.
use Rattle.std.proofs.Common.{◌≡◌, ◌≢◌, ◌<◌, ℕ, arith, refl, ◌∙◌, ◌≤◌, ◌+◌, ◌-◌, List, [], ◌∷◌, ◌++◌, Bool, true, false, length, take, ap, append_assoc, length-append, sym}
use Rattle.sshkey_base.specs.Causes.{Cause, Faulty, NoMemory, Other}
use Rattle.std.proofs.Math.Seq.{take-append_seam}
use Rattle.sshkey_entries.specs.Fields.{CutsField, CutsWord, without_blanks, without_front, is_blank}
use Rattle.sshkey_entries.proofs.Fronts.{nothing_stays, skipped, stays}
use Rattle.sshkey_entry_calls.specs.Authorities.{BeginsWithFields}

-- only memory that was refused has the number of memory
pub memory_alone : (of_error : Cause) (n : ℕ) → (of_error ≢ NoMemory → 9 < n) → n ≡ 1 → of_error ≡ NoMemory
memory_alone NoMemory n range one = refl
memory_alone (Faulty fault) n range one =
    let r = range (λ e. cc e) in
    absurd (omega (arith, one, r))
memory_alone Other n range one =
    let r = range (λ e. cc e) in
    absurd (omega (arith, one, r))

-- The two fields at the front of a line of a file of authorities.

front_of : (is : ℕ → Bool) (text : List ℕ) → (front : List ℕ) × (text ≡ front ++ without_front is text)
front_of is [] = ([], sym (nothing_stays is))
front_of is (c ∷ text) = go (is c) refl (front_of is text)
  where
    go : (b : Bool) → is c ≡ b → (front : List ℕ) × (text ≡ front ++ without_front is text) → (front : List ℕ) × (c ∷ text ≡ front ++ without_front is (c ∷ text))
    go true e more = (c ∷ more.0, ap (λ (t : List ℕ). c ∷ t) (more.1 ∙ ap (λ (t : List ℕ). more.0 ++ t) (sym (skipped is c text e))))
    go false e more = ([], sym (stays is c text e))

module _ (line before rest : List ℕ) (is : line ≡ before ++ rest) where
  size_is : length line ≡ length before + length rest
  size_is = ap length is ∙ length-append before rest

  ends_in : length rest ≤ length line
  ends_in = omega (arith, size_is)

  before_is : take (length line - length rest) line ≡ before
  before_is =
      let size : length line - length rest ≡ length before = omega (arith, size_is) in
      ap (λ (n : ℕ). take n line) size ∙ ap (take (length before)) is ∙ take-append_seam before rest

module _ (line name after word rest : List ℕ) (first : CutsField line name after) (second : CutsWord (without_blanks after) word rest) where
  whole : (blanks : List ℕ) → after ≡ blanks ++ without_blanks after → line ≡ (name ++ (blanks ++ second.field)) ++ rest
  whole blanks front =
      first.is ∙ ap (λ (t : List ℕ). name ++ t) (front ∙ ap (λ (t : List ℕ). blanks ++ t) second.is)
      ∙ sym (append_assoc name (blanks ++ second.field) rest ∙ ap (λ (t : List ℕ). name ++ t) (append_assoc blanks second.field rest))

  pub shorter : length rest ≤ length line
  shorter =
      let front = front_of is_blank after in
      ends_in line (name ++ (front.0 ++ second.field)) rest (whole front.0 front.1)

  pub begins : BeginsWithFields line (take (length line - length rest) line)
  begins =
      let front = front_of is_blank after in
      let is = whole front.0 front.1 in record {
        name = name;
        word = word;
        rest = rest;
        two = record { after = after; first = first; second = second };
        is = is ∙ ap (λ (t : List ℕ). t ++ rest) (sym (before_is line (name ++ (front.0 ++ second.field)) rest is));
      }

-- The string at a place.
use Rattle.std.proofs.Common.{◌≡◌, ◌≢◌, ◌≤◌, ◌<◌, ◌+◌, ◌-◌, ◌↔◌, ℕ, List, [], ◌++◌, length, take, drop, Ok, refl, sym, ap, subst, ◌∙◌, arith, append_assoc, length-append, length-drop}
use Rattle.std.specs.Int.{w32, to_be_bytes, w64}
use Rattle.std.proofs.Math.ListN.{drop_of_length-le}
use Rattle.std.proofs.lemmas.List.{drop-drop, take_all}
use Rattle.std.proofs.Math.Seq.{take-append_seam, drop-append_seam}
use Rattle.sshkey_model.specs.Parts.{flat, each, number}
use Rattle.sshkey_model.specs.Reading.{bytes_at, number_at, string_at}
use Rattle.sshkey_model.specs.Texts.{string}
use Rattle.sshkey_model.proofs.CombinedReaders.{wide32, wide64}
use Rattle.sshkey_calls.specs.Certificates.{FindsString, ArePartsOf, beginning, part_end}
use Rattle.sshkey_calls.specs.Rooms.{IsPartOf, bytes_of}
use Rattle.sshkey_calls.specs.declared.part.Part.{Part}
use Rattle.sshkey_model.specs.CertificateNames.{certificate_algorithm}
use Rattle.sshkey_model.specs.Certificates.{Certificate, CertificateChoices, certificate, certificate_type}
use Rattle.sshkey_model.specs.Keys.{body, key, key_algorithm, SpellsKey}
use Rattle.sshkey_model.specs.Options.{each_option}
use Rattle.sshkey_model.specs.Signatures.{signature}
use Rattle.sshkey_cert_ref.specs.Lists.{SpellsEachOption, SpellsEachText}
use Rattle.sshkey_calls.specs.declared.lists.CertificateParts.{CertificateParts}

-- ---- what follows the first bytes

-- The part has these bytes, and the rest follows it.
pub record Stands (b s rest : List ℕ) (part : Part) : Type 0 where
  pub content : bytes_of part b ≡ s
  pub after : drop (part.start + part.length) b ≡ rest
  pub within : IsPartOf part b

pub stands : (b x s rest : List ℕ) (n : ℕ) → n ≤ length b → drop n b ≡ x ++ (s ++ rest) → Stands b s rest (record { start = n + length x; length = length s })
stands b x s rest n most is =
    let there : drop (n + length x) b ≡ s ++ rest = sym (drop-drop (length x) n b) ∙ ap (drop (length x)) is ∙ drop-append_seam x (s ++ rest) in
    record {
      content = ap (take (length s)) there ∙ take-append_seam s rest;
      after = sym (drop-drop (length s) (n + length x) b) ∙ ap (drop (length s)) there ∙ drop-append_seam s rest;
      within = omega (arith, most, ap length is, length-drop n b, length-append x (s ++ rest), length-append s rest);
    }

pub string_stands : (b s rest : List ℕ) (n : ℕ) → drop n b ≡ flat (string s) ++ rest → Stands b s rest (record { start = n + 4; length = length s })
unfolding flat
string_stands b s rest n is =
    let head = to_be_bytes w32 (length s) in
    let most : n ≤ length b = omega (arith, ap length is, length-drop n b, length-append (head ++ s) rest, length-append head s, wide32.len (length s)) in
    subst (λ (k : ℕ). Stands b s rest (record { start = n + k; length = length s })) (wide32.len (length s)) (stands b head s rest n most (is ∙ append_assoc head s rest))

-- ---- nothing begins at the end, or after it

empty : (x : List ℕ × List ℕ) → string_at [] ≢ Ok x
unfolding string_at number_at bytes_at
empty x e = cc e

nothing_after : (b : List ℕ) (place : ℕ) → length b ≤ place → (x : List ℕ × List ℕ) → string_at (drop place b) ≢ Ok x
nothing_after b place h x e = empty x (subst (λ (l : List ℕ). string_at l ≡ Ok x) (drop_of_length-le b h) e)

-- the slice from a place on
pub whole_slice : (b : List ℕ) (place : ℕ) → take (length b - place) (drop place b) ≡ drop place b
whole_slice b place = take_all (length b - place) (drop place b) (omega (arith, length-drop place b))

-- ---- where it was found

pub finds : (b s rest : List ℕ) (place : ℕ) (was : Part) → drop place b ≡ flat (string s) ++ rest → string_at (drop place b) ≡ Ok (s, rest) → FindsString b place 0 was (record { start = place + 4; length = length s })
finds b s rest place was all is =
    let there = string_stands b s rest place all in
    record {
      found = λ _. rw (there.content, there.after) is;
      within = λ _. there.within;
      last = λ e. absurd (cc e);
      at_end = λ e. absurd (nothing_after b place (omega (arith, e)) (s, rest) is);
      none = λ some _ _. some refl;
      others = λ some _. absurd (some refl);
      stays = λ some. absurd (some refl);
    }

-- ---- where there is none

module _ (b : List ℕ) (place : ℕ) (answer : Part) where
  none : (n : ℕ) → n ≢ 0 → (n ≡ 3) ↔ (place ≡ length b) → (n ≢ 3 → n ≡ 13) → length b ≤ place → FindsString b place n answer answer
  none n some end_ others past = record {
    found = λ z. absurd (some z);
    within = λ z. absurd (some z);
    last = end_.0;
    at_end = end_.1;
    none = λ _. nothing_after b place past;
    others = λ _. others;
    stays = λ _. refl;
  }

  pub ends : place ≡ length b → FindsString b place 3 answer answer
  ends e = none 3 (λ z. cc z) (λ _. e, λ _. refl) (λ other. absurd (other refl)) (omega (arith, e))

  pub is_past : length b < place → FindsString b place 13 answer answer
  is_past h = none 13 (λ z. cc z) (λ z. absurd (cc z), λ e. absurd (omega (arith, h, e))) (λ _. refl) (omega (arith, h))

-- Where the parts of a certificate stand.

regroup : (n m b s t k p v w o e r a g : List ℕ) → (n ++ (m ++ (b ++ (s ++ (t ++ (k ++ (p ++ (v ++ (w ++ (o ++ (e ++ (r ++ a)))))))))))) ++ g ≡ (n ++ (m ++ (b ++ (s ++ t)))) ++ (k ++ (p ++ ((v ++ w) ++ (o ++ (e ++ (r ++ (a ++ g)))))))
regroup n m b s t k p v w o e r a g = simp (append_assoc)

string_length : (s : List ℕ) → length (flat (string s)) ≡ length s + 4
unfolding flat
string_length s = omega (arith, length-append (to_be_bytes w32 (length s)) s, wide32.len (length s))

module _ (c : Certificate) (s : CertificateChoices) where
  abbrev principals : List ℕ
  principals = flat (each string c.signed.valid_principals)

  abbrev window : List ℕ
  window = flat (number w64 c.signed.valid_after) ++ flat (number w64 c.signed.valid_before)

  abbrev critical_options : List ℕ
  critical_options = flat (each_option c.signed.critical_options s.critical_options)

  abbrev extensions : List ℕ
  extensions = flat (each_option c.signed.extensions s.extensions)

  abbrev authority : List ℕ
  authority = flat (key c.signed.signature_key s.signature_key)

  abbrev after_window : List ℕ
  after_window = flat (string critical_options) ++ (flat (string extensions) ++ (flat (string c.signed.reserved) ++ (flat (string authority) ++ flat (string (flat (signature c.signature))))))

  joined : flat (certificate c s) ≡ flat (beginning c) ++ (flat (string c.signed.key_id) ++ (flat (string principals) ++ (window ++ after_window)))
  unfolding flat
  joined = regroup (flat (certificate_algorithm (key_algorithm c.signed.key))) (flat (string c.signed.nonce)) (flat (body c.signed.key)) (flat (number w64 c.signed.serial)) (flat (certificate_type c.signed.certificate_type)) (flat (string c.signed.key_id)) (flat (string principals)) (flat (number w64 c.signed.valid_after)) (flat (number w64 c.signed.valid_before)) (flat (string critical_options)) (flat (string extensions)) (flat (string c.signed.reserved)) (flat (string authority)) (flat (string (flat (signature c.signature))))

  past_window : (b : List ℕ) (n : ℕ) → drop n b ≡ window ++ after_window → drop (n + 16) b ≡ after_window
  unfolding flat
  past_window b n is =
      let sixteen : length window ≡ 16 = omega (arith, length-append (to_be_bytes w64 c.signed.valid_after) (to_be_bytes w64 c.signed.valid_before), wide64.len c.signed.valid_after, wide64.len c.signed.valid_before) in
      sym (drop-drop 16 n b) ∙ ap (drop 16) is ∙ subst (λ (k : ℕ). drop k (window ++ after_window) ≡ after_window) sixteen (drop-append_seam window after_window)

  abbrev pub parts : CertificateParts
  parts =
      let key_id : Part = record { start = length (flat (beginning c)) + 4; length = length c.signed.key_id } in
      let texts : Part = record { start = part_end key_id + 4; length = length principals } in
      let critical : Part = record { start = part_end texts + 16 + 4; length = length critical_options } in
      let others : Part = record { start = part_end critical + 4; length = length extensions } in
      record { key_id = key_id; principals = texts; critical_options = critical; extensions = others; authority = record { start = part_end others + 4 + length c.signed.reserved + 4; length = length authority } }

  -- They stand there in the bytes, and the signature after them.
  pub stand : (b : List ℕ) → b ≡ flat (certificate c s) → SpellsEachText c.signed.valid_principals principals → SpellsEachOption (c.signed.critical_options, s.critical_options) critical_options → SpellsEachOption (c.signed.extensions, s.extensions) extensions → SpellsKey c.signed.signature_key authority → ArePartsOf c b parts × (length b ≡ part_end parts.authority + 4 + length (flat (signature c.signature)))
  stand b is texts critical others key =
      let f = flat (beginning c) in
      let key_id_is = string_stands b c.signed.key_id _ (length f) (ap (drop (length f)) (is ∙ joined) ∙ drop-append_seam f _) in
      let texts_are = string_stands b principals _ _ key_id_is.after in
      let critical_are = string_stands b critical_options _ _ (past_window b _ texts_are.after) in
      let others_are = string_stands b extensions _ _ critical_are.after in
      let reserved_is = string_stands b c.signed.reserved _ _ others_are.after in
      let key_is = string_stands b authority _ _ reserved_is.after in (
        record {
          key_id = key_id_is.content;
          principals = rw texts_are.content texts;
          critical_options = (s.critical_options, rw critical_are.content critical);
          extensions = (s.extensions, rw others_are.content others);
          authority = rw key_is.content key;
          placed = record { key_id = refl; principals = refl; critical_options = refl; extensions = refl; authority = refl };
          within = (key_id_is.within, texts_are.within, critical_are.within, others_are.within, key_is.within);
        },
        omega (arith, key_is.within, ap length key_is.after, length-drop (part_end parts.authority) b, string_length (flat (signature c.signature))),
      )

pub same_part : (p q : Part) → p.start ≡ q.start → p.length ≡ q.length → p ≡ q
same_part p q start long = let same : ◌≡◌ {A = Part} (record { start = p.start; length = p.length }) (record { start = q.start; length = q.length }) = rw (start, long) refl in same

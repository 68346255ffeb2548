-- What the fields of a line are read as.
use Rattle.std.proofs.Common.{◌≡◌, ◌≢◌, ℕ, ◌<◌, List, [], ◌++◌, length, Bool, true, false, ◌==◌, eqb-true, sym, ap, subst, refl, ◌∙◌, arith, inl, inr, ◌⊎◌, ◌≤◌, codes, get_or, tests}
use Rattle.std.proofs.lemmas.Bool.{eqb-false, cases_lt}
use Rattle.base64.specs.Engines.{standard}
use Rattle.base64.specs.GeneralPurpose.{encode_of}
use Rattle.sshkey_base.specs.declared.encoding.Error.TheVariants.{Length}
use Rattle.sshkey_base.specs.declared.error.Error.{Error}
use Rattle.sshkey_base.specs.declared.error.Error.TheVariants.{AlgorithmUnknown, Encoding}
use Rattle.sshkey_model.specs.Keys.{Key, SpellsKey, key_format, key_algorithm}
use Rattle.sshkey_model.specs.Lines.{key_name}
use Rattle.sshkey_model.proofs.Base64Words.{one_blob, some_word}
use Rattle.sshkey_model.proofs.Blobs.{key_blobs}
use Rattle.sshkey_model.proofs.CombinedReaders.{bytes_fit}
use Rattle.sshkey_entries.specs.Fields.{without_blanks, CutsWord, IsField, AreKeyFields, AreNoKeyFields, CutsField, AreFields, HasKeyFault, NeedsKeyFields}
use Rattle.sshkey_entries.proofs.Fields.{same_cut, same_field}
use Rattle.sshkey_public.specs.Lines.{HasFaultOfWord, NeedsWord, IsWordOf, IsNoWord}
use Rattle.std.proofs.lemmas.List.{get_or_past}
use Rattle.std.specs.Str.{IsUtf8}
use Rattle.std.proofs.lemmas.Str.{IsUtf8-from_ascii}
use Rattle.base64.proofs.EngineFacts.{IsAscii-encode_of}
use Rattle.sshkey_base.proofs.LabelLaws.{algorithm_ascii}
use Rattle.sshkey_base.proofs.Labels.{ascii}
use Rattle.sshkey_entries.specs.OtherKeys.{IsFormerName, IsOtherName, SpellsName}

pub no_length : (n : ℕ) (b : Bool) → b ≡ (n == 0) → b ≡ true → n ≡ 0
no_length n b e t = eqb-true n 0 (sym e ∙ t)

pub some_length : (n : ℕ) (b : Bool) → b ≡ (n == 0) → b ≡ false → 0 < n
some_length n b e t = let other : n ≢ 0 = eqb-false n 0 (sym e ∙ t) in omega arith

module _ (text name after skipped word rest : List ℕ) (first : CutsField text name after) (skips : skipped ≡ without_blanks after) (second : CutsWord skipped word rest) where
  -- no other name and word stand there
  pub same_parts : (k : Key) (comment : List ℕ) (f : AreKeyFields text k comment) → (name ≡ key_name k) × (word ≡ encode_of standard f.blob)
  same_parts k comment f =
      let names = same_field name (key_name k) after f.after_name first.one_word f.one_word first.ends f.name_ends (sym first.is ∙ f.is) in
      let there = subst (λ (t : List ℕ). CutsWord t (encode_of standard f.blob) f.after_key) (ap without_blanks (sym names.1) ∙ sym skips) f.word in
      (names.0, (same_cut skipped word (encode_of standard f.blob) rest f.after_key second there).0)

  pub no_word : length word ≡ 0 → AreNoKeyFields text
  no_word none = λ k comment f. omega (arith, none, ap length (same_parts k comment f).1, some_word f.blob (key_blobs.some k f.blob f.spelled))

  pub bad_word : IsNoWord SpellsKey word → AreNoKeyFields text
  bad_word none = λ k comment f. none k (record { blob = f.blob; spelled = f.spelled; is = (same_parts k comment f).1 })

  pub other_name : (k : Key) → IsWordOf SpellsKey word k → (name ≡ key_name k → ⊥) → AreNoKeyFields text
  other_name k w other = λ l comment f.
      let same = same_parts l comment f in
      let blob = one_blob w.blob f.blob (bytes_fit w.blob (key_blobs.bytes k w.blob w.spelled)) (bytes_fit f.blob (key_blobs.bytes l f.blob f.spelled)) (sym w.is ∙ same.1) in
      let keys = key_blobs.one k l f.blob (subst (SpellsKey k) blob w.spelled) f.spelled in
      other (same.0 ∙ ap key_name (sym keys))

  pub fields_read : (k : Key) (comment : List ℕ) → IsWordOf SpellsKey word k → name ≡ key_name k → comment ≡ without_blanks rest → AreKeyFields text k comment
  fields_read k comment w named is = record {
    blob = w.blob;
    after_name = after;
    after_key = rest;
    is = first.is ∙ ap (λ (n : List ℕ). n ++ after) named;
    one_word = subst IsField named first.one_word;
    name_ends = first.ends;
    word = subst (λ (t : List ℕ). CutsWord t (encode_of standard w.blob) rest) skips (subst (λ (v : List ℕ). CutsWord skipped v rest) w.is second);
    spelled = w.spelled;
    comment_is = is;
  }

  pub fields_are : AreFields text name word rest
  fields_are = record { after = after; first = first; second = subst (λ (t : List ℕ). CutsWord t word rest) skips second }

  pub same_word : (n w r : List ℕ) → AreFields text n w r → (name ≡ n) × (word ≡ w)
  same_word n w r f =
      let names = same_field name n after f.after first.one_word f.first.one_word first.ends f.first.ends (sym first.is ∙ f.first.is) in
      let there = subst (λ (t : List ℕ). CutsWord t w r) (ap without_blanks (sym names.1) ∙ sym skips) f.second in
      (names.0, (same_cut skipped word w rest r second there).0)

  -- where there is a word, no fault of a missing one is owed
  some_there : 0 < length word → (n r : List ℕ) → AreFields text n [] r → ⊥
  some_there some n r f = omega (arith, some, ap length (same_word n [] r f).1)

  pub missing : length word ≡ 0 → HasKeyFault text (Encoding Length)
  missing none = record {
    no_word = λ n r f. refl;
    bad_word = λ n w r f some no. absurd (omega (arith, none, ap length (same_word n w r f).1, some));
    other_name = λ n w r k f is other. absurd (omega (arith, none, ap length ((same_word n w r f).1 ∙ is.is), some_word is.blob (key_blobs.some k is.blob is.spelled)));
  }

  pub odd_key : (e : Error) → 0 < length word → IsNoWord SpellsKey word → HasFaultOfWord key_format word e → HasKeyFault text e
  odd_key e some none fault = record {
    no_word = λ n r f. absurd (some_there some n r f);
    bad_word = λ n w r f also no. subst (λ (t : List ℕ). HasFaultOfWord key_format t e) (same_word n w r f).1 fault;
    other_name = λ n w r k f is other. absurd (none k (subst (λ (t : List ℕ). IsWordOf SpellsKey t k) (sym (same_word n w r f).1) is));
  }

  pub named_otherwise : 0 < length word → (k : Key) → IsWordOf SpellsKey word k → HasKeyFault text AlgorithmUnknown
  named_otherwise some k is = record {
    no_word = λ n r f. absurd (some_there some n r f);
    bad_word = λ n w r f also none. absurd (none k (subst (λ (t : List ℕ). IsWordOf SpellsKey t k) (same_word n w r f).1 is));
    other_name = λ n w r k f is other. refl;
  }

  pub word_needed : NeedsWord key_format word → NeedsKeyFields text
  word_needed needed = inl (record { name = name; word = word; rest = rest; fields = fields_are; needed = needed })

  pub comment_needed : (k : Key) → IsWordOf SpellsKey word k → name ≡ key_name k → (copied : List ℕ) → copied ≡ without_blanks rest → 0 < length copied → NeedsKeyFields text
  comment_needed k w named copied is some = inr (record { key = k; comment = copied; fields = fields_read k copied w named is; some = some })

-- Lines that begin with a key's fields, which are ASCII.

-- ---- ASCII

pub key_name_text : (k : Key) (blob : List ℕ) → SpellsKey k blob → IsUtf8 (key_name k)
key_name_text k blob s = IsUtf8-from_ascii (key_name k) (ascii (key_name k) (algorithm_ascii (key_algorithm k) s.is.0))

pub word_text : {V : Type 0} (Spells : V → List ℕ → Type 0) (word : List ℕ) (v : V) → IsWordOf Spells word v → IsUtf8 word
word_text Spells word v w = subst IsUtf8 (sym w.is) (IsUtf8-from_ascii (encode_of standard w.blob) (IsAscii-encode_of standard w.blob))

-- what is no text is no field of a key
module _ (text name after skipped word rest : List ℕ) (first : CutsField text name after) (skips : skipped ≡ without_blanks after) (second : CutsWord skipped word rest) where
  pub name_no_text : (IsUtf8 name → ⊥) → AreNoKeyFields text
  name_no_text none = λ k comment f. none (subst IsUtf8 (sym (same_parts text name after skipped word rest first skips second k comment f).0) (key_name_text k f.blob f.spelled))

  pub word_no_text : (IsUtf8 word → ⊥) → AreNoKeyFields text
  word_no_text none = λ k comment f. none (subst IsUtf8 (sym (same_parts text name after skipped word rest first skips second k comment f).1) (IsUtf8-from_ascii (encode_of standard f.blob) (IsAscii-encode_of standard f.blob)))

-- nor one of a key of another kind
pub other_name_text : (name : List ℕ) → IsOtherName name → IsUtf8 name
other_name_text name is = IsUtf8-from_ascii name (λ i. by_place i (cases_lt i (length name)))
  where
    by_place : (i : ℕ) → (i < length name) ⊎ (length name ≤ i) → get_or name i 0 < 128
    by_place i (inl less) = let c = is.characters i less in grind (arith, tests)
    by_place i (inr above) = let none = get_or_past name i 0 above in omega (arith, none)

pub former_name_text : (name : List ℕ) → IsFormerName name → IsUtf8 name
former_name_text name (inl is) = subst IsUtf8 (sym is) (IsUtf8-from_ascii (codes "ssh-xmss@openssh.com") (ascii (codes "ssh-xmss@openssh.com") refl))
former_name_text name (inr is) = subst IsUtf8 (sym is) (IsUtf8-from_ascii (codes "ssh-xmss-cert-v01@openssh.com") (ascii (codes "ssh-xmss-cert-v01@openssh.com") refl))

pub other_word_text : (name word : List ℕ) → SpellsName name word → IsUtf8 word
other_word_text name word s = subst IsUtf8 (sym s.is) (IsUtf8-from_ascii (encode_of standard s.blob) (IsAscii-encode_of standard s.blob))

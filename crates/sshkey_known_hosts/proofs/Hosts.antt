-- When a text is that of hosts.
use Rattle.std.proofs.Common.{◌≡◌, ◌≢◌, ◌⊎◌, ℕ, List, [], ◌∷◌, ◌++◌, length, drop, slice_index, None, Some, Result, Ok, Err, Bor, inl, inr, sym, ap, subst, ◌∙◌, refl, arith, ◌<◌, ◌≤◌, ◌+◌, get_or, ◌↔◌, zero, suc, position, Bool, IsTrue, Option, eqb-true}
use Rattle.std.proofs.lemmas.List.{length-append, get_or_default, nil_from_length}
use Rattle.std.proofs.Math.Seq.{get_or-append_seam}
use Rattle.std.proofs.lemmas.Str.Pattern.{IsSplitOnceResult, split_parts}
use Rattle.base64.specs.Engines.{standard}
use Rattle.base64.specs.GeneralPurpose.{encode_of, IsBytes}
use Rattle.sshkey_base.specs.Causes.{cause, NoMemory}
use Rattle.sshkey_base.specs.declared.encoding.Error.TheVariants.{Base64, Length}
use Rattle.sshkey_base.specs.declared.error.Error.{Error}
use Rattle.sshkey_base.specs.declared.error.Error.TheVariants.{Encoding, FormatEncoding, Memory}
use Rattle.sshkey_model.specs.Lines.{IsWithout}
use Rattle.sshkey_model.proofs.Base64Words.{one_blob}
use Rattle.sshkey_model.proofs.LineCuts.{one_front}
use Rattle.sshkey_entries.specs.Entries.{IsNoEntry}
use Rattle.sshkey_entries.specs.KnownHosts.{Hosts, HashedName, Patterns, IsHosts, IsHashedName, hashed_mark, hashed_text, bar, IsMarkedHashed}
use Rattle.sshkey_entries.proofs.OneEntry.{bar_not}
use Rattle.sshkey_entries.specs.Answers.{ReadsEntry}
use Rattle.sshkey_known_hosts.specs.HostEntries.{hosts_of, ReadsHashed}
use Rattle.sshkey_known_hosts.specs.declared.host_patterns.HostPatterns.{HostPatterns}
use Rattle.sshkey_known_hosts.specs.HostFaults.{HasNoBar, HasNoBase64, HasNoParts, HasOtherSize, IsNoBase64, RefusesHosts}
use Rattle.std.proofs.lemmas.Bool.{cases_lt}
use Rattle.std.specs.List.{Any}
use Rattle.std.specs.Str.{IsAscii, IsUtf8}
use Rattle.std.proofs.lemmas.Str.{IsUtf8-append, IsUtf8-from_ascii}
use Rattle.base64.proofs.EngineFacts.{IsAscii-encode_of}
use Rattle.std.specs.Prelude.{bytes_eq}
use Rattle.std.proofs.lemmas.List.Quantifiers.{position-Some}
use Rattle.std.proofs.lemmas.Slice.Eq.{bytes_eq-Decides}
use Rattle.sshkey_matching.specs.Patterns.{is_comma}
use Rattle.sshkey_matching.proofs.PatternLists.{patterns_alone, patterns_at}
use Rattle.sshkey_entries.specs.HostVerdicts.{AreForName, BeginWithBar}
use Rattle.sshkey_entries.specs.Items.{patterns}
use Rattle.sshkey_known_hosts.specs.HostLines.{TellsHosts}

-- ---- a hashed name

-- If two words follow the mark, so does the bar between them.
parted : (salt hash rest : List ℕ) → hashed_mark ++ (salt ++ (bar ∷ hash)) ≡ hashed_mark ++ rest → IsWithout bar rest → ⊥
parted salt hash rest is without =
    let same : rest ≡ salt ++ (bar ∷ hash) = ap (drop 3) (sym is) in
    without (length salt) (omega (arith, ap length same, length-append salt (bar ∷ hash)))
    (ap (λ (l : List ℕ). slice_index l (length salt)) same ∙ get_or-append_seam salt bar hash 0)

module _ (text : List ℕ) (salt_word hash_word : Bor (List ℕ)) (cut : IsSplitOnceResult bar text (Some (salt_word, hash_word))) where
  two_words : (hashed_mark ++ text ≡ hashed_mark ++ (salt_word.now ++ (bar ∷ hash_word.now))) × IsWithout bar salt_word.now
  two_words = let parts = split_parts bar text (Some (salt_word, hash_word)) cut (omega arith) in (ap (λ (t : List ℕ). hashed_mark ++ t) parts.0, parts.1)

  both_stand : HasNoParts (hashed_mark ++ text) → ⊥
  both_stand (inl empty) = omega (arith, ap length empty, length-append hashed_mark text)
  both_stand (inr x) = parted salt_word.now hash_word.now x.0 (sym two_words.0 ∙ x.1) x.2

  module _ (salt hash : List ℕ) (salt_is : salt_word.now ≡ encode_of standard salt) (salt_bytes : IsBytes salt) (hash_is : hash_word.now ≡ encode_of standard hash) (hash_bytes : IsBytes hash) where
    hashed_is : hashed_mark ++ text ≡ hashed_text salt hash
    hashed_is = two_words.0 ∙ (λ j. hashed_mark ++ (salt_is j ++ (bar ∷ hash_is j)))

    pub hashed : length hash ≡ 20 → IsHashedName (hashed_mark ++ text) salt hash
    hashed size = record { is = hashed_is; salt_bytes = salt_bytes; hash_bytes = hash_bytes; hash_len = size }

    pub size_fault : length hash ≢ 20 → RefusesHosts (hashed_mark ++ text) (Encoding Length)
    size_fault size = record { salt = salt; hash = hash; is = hashed_is; salt_bytes = salt_bytes; hash_bytes = hash_bytes; size = size }

  word_fault : (e : Error) (word : List ℕ) → (IsNoBase64 word → IsNoBase64 salt_word.now ⊎ IsNoBase64 hash_word.now) → (e ≡ Memory) ⊎ ((e ≡ Encoding Base64) × IsNoBase64 word) → RefusesHosts (hashed_mark ++ text) e
  word_fault e word which why = elim why [
    | inl full ↦ subst (RefusesHosts (hashed_mark ++ text)) (sym full) both_stand
    | inr bad ↦ subst (RefusesHosts (hashed_mark ++ text)) (sym bad.0) (record { salt = salt_word.now; hash = hash_word.now; is = two_words.0; one_word = two_words.1; none = which bad.1 })
  ]

  pub salt_fault : (e : Error) → (e ≡ Memory) ⊎ ((e ≡ Encoding Base64) × IsNoBase64 salt_word.now) → RefusesHosts (hashed_mark ++ text) e
  salt_fault e = word_fault e salt_word.now inl

  pub hash_fault : (e : Error) → (e ≡ Memory) ⊎ ((e ≡ Encoding Base64) × IsNoBase64 hash_word.now) → RefusesHosts (hashed_mark ++ text) e
  hash_fault e = word_fault e hash_word.now inr

pub no_bar_fault : (text : List ℕ) → IsSplitOnceResult bar text None → RefusesHosts (hashed_mark ++ text) FormatEncoding
no_bar_fault text none = inr (text, refl, split_parts bar text None none (omega arith))

-- ---- faults

-- a text with the mark is of a hashed name or of nothing
only_hashed : (text rest : List ℕ) → text ≡ hashed_mark ++ rest → ((salt hash : List ℕ) → IsHashedName text salt hash → ⊥) → IsNoEntry IsHosts text
only_hashed text rest is none (Patterns ps) h = h.not_hashed (rest, is)
only_hashed text rest is none (HashedName salt hash) h = none salt hash h

empty_hosts : (text : List ℕ) → text ≡ [] → IsNoEntry IsHosts text
empty_hosts text empty (Patterns ps) h = omega (arith, ap length empty, h.some)
empty_hosts text empty (HashedName salt hash) h = omega (arith, ap length empty, ap length h.is, length-append hashed_mark (encode_of standard salt ++ (bar ∷ encode_of standard hash)))

unbarred_hosts : (text : List ℕ) → HasNoBar text → IsNoEntry IsHosts text
unbarred_hosts text x = only_hashed text x.0 x.1 (λ salt hash h. parted (encode_of standard salt) (encode_of standard hash) x.0 (sym h.is ∙ x.1) x.2)

-- the words of a hashed name are cut at the one bar
same_words : (text first second salt hash : List ℕ) → text ≡ hashed_mark ++ (first ++ (bar ∷ second)) → IsWithout bar first → text ≡ hashed_text salt hash → (first ≡ encode_of standard salt) × (second ≡ encode_of standard hash)
same_words text first second salt hash is without h = one_front bar first (encode_of standard salt) second (encode_of standard hash) without (bar_not salt) (ap (drop 3) (sym is ∙ h))

unspelled_hosts : (text : List ℕ) → HasNoBase64 text → IsNoEntry IsHosts text
unspelled_hosts text x = only_hashed text _ x.is (λ salt hash h.
    let words = same_words text x.salt x.hash salt hash x.is x.one_word h.is in
    elim x.none [
      | inl none ↦ none salt h.salt_bytes words.0
      | inr none ↦ none hash h.hash_bytes words.1
    ])

other_hosts : (text : List ℕ) → HasOtherSize text → IsNoEntry IsHosts text
other_hosts text x = only_hashed text _ x.is (λ salt hash h.
    let words = same_words text (encode_of standard x.salt) (encode_of standard x.hash) salt hash x.is (bar_not x.salt) h.is in
    x.size (ap length (one_blob x.hash hash x.hash_bytes h.hash_bytes words.1) ∙ h.hash_len))

-- A text that is refused for a fault is none.
pub refused_is_none : (text : List ℕ) (e : Error) → RefusesHosts text e → cause e ≢ NoMemory → IsNoEntry IsHosts text
refused_is_none text FormatEncoding (inl empty) other = empty_hosts text empty
refused_is_none text FormatEncoding (inr unbarred) other = unbarred_hosts text unbarred
refused_is_none text (Encoding Base64) x other = unspelled_hosts text x
refused_is_none text (Encoding Length) x other = other_hosts text x
refused_is_none text Memory x other = absurd (other refl)
refused_is_none text e x other = absurd x

-- what is read after the mark
pub reads_after_mark : (text rest : List ℕ) (r : Result HostPatterns Error) → text ≡ hashed_mark ++ rest → ReadsHashed rest r → ReadsEntry hosts_of IsHosts text r
reads_after_mark text rest (Ok h) is x = subst (λ (t : List ℕ). IsHosts t (hosts_of h)) (sym is) x
reads_after_mark text rest (Err e) is x = λ other. subst (IsNoEntry IsHosts) (sym is) (refused_is_none (hashed_mark ++ rest) e x other)

-- ---- memory

-- Hosts have parts.
pub have_parts : (text : List ℕ) (h : Hosts) → IsHosts text h → HasNoParts text → ⊥
have_parts text h is (inl empty) = empty_hosts text empty h is
have_parts text h is (inr unbarred) = unbarred_hosts text unbarred h is

-- and so has a text that was refused for memory
pub refused_parts : (text : List ℕ) (e : Error) → RefusesHosts text e → cause e ≡ NoMemory → HasNoParts text → ⊥
refused_parts text Memory x memory = x
refused_parts text FormatEncoding x memory = cc memory
refused_parts text (Encoding Base64) x memory = cc memory
refused_parts text (Encoding Length) x memory = cc memory
refused_parts text e x memory = absurd x

-- Whether one of a list of texts has a property, or all have it, one after the other.

pub none_more : (P : List ℕ → Type 0) (texts : List (List ℕ)) (i : ℕ) (text : List ℕ) → i < length texts → get_or texts i text ≡ text → (P text → ⊥) → ((k : ℕ) (d : List ℕ) → k < i → P (get_or texts k d) → ⊥) → (k : ℕ) (d : List ℕ) → k < i + 1 → P (get_or texts k d) → ⊥
none_more P texts i text lt is none before k d l = elim (cases_lt k i) [
  | inl less ↦ before k d less
  | inr same ↦
      let e : k ≡ i = omega (arith, l, same) in
      λ p. none (subst P (get_or_default texts i d text lt ∙ is) (subst (λ (n : ℕ). P (get_or texts n d)) e p))
]

pub none_of : (P : List ℕ → Type 0) (texts : List (List ℕ)) (i : ℕ) → length texts ≤ i → ((k : ℕ) (d : List ℕ) → k < i → P (get_or texts k d) → ⊥) → Any P texts → ⊥
none_of P texts i end none some = none some.0 some.1 (omega (arith, some.2, end)) (subst P (sym some.3) some.4)

-- one text more that has it
pub one_more : (P : List ℕ → Type 0) (texts : List (List ℕ)) (i : ℕ) (text : List ℕ) → i < length texts → get_or texts i text ≡ text → P text → ((k : ℕ) (d : List ℕ) → k < i → P (get_or texts k d)) → (k : ℕ) (d : List ℕ) → k < i + 1 → P (get_or texts k d)
one_more P texts i text lt is one before k d l = elim (cases_lt k i) [
  | inl less ↦ before k d less
  | inr same ↦
      let e : k ≡ i = omega (arith, l, same) in
      subst (λ (n : ℕ). P (get_or texts n d)) (sym e) (subst P (sym (get_or_default texts i d text lt ∙ is)) one)
]

-- Whether a text of hosts is for a name.

module _ (hmac : List ℕ → List ℕ → List ℕ) (name text : List ℕ) where
  pub tells_none : length text ≡ 0 → TellsHosts hmac name text None
  tells_none empty = refused_is_none text FormatEncoding (inl (nil_from_length text empty)) (λ e. cc e)

  pub tells_hash : (salt hash : List ℕ) → IsHashedName text salt hash → (b : Bool) → IsTrue b ↔ ((length salt ≡ 20) × (hash ≡ hmac salt name)) → TellsHosts hmac name text (Some b)
  tells_hash salt hash is b decides = (HashedName salt hash, is, decides)

  pub tells_patterns : (IsMarkedHashed text → ⊥) → 0 < length text → (b : Bool) → IsTrue b ↔ AreForName name (patterns text) → TellsHosts hmac name text (Some b)
  tells_patterns plain some b decides = (Patterns (patterns text), record { some = some; not_hashed = plain; are = refl }, decides)

-- the same or not, of bytes that are compared
pub tells_same : (a b : List ℕ) (r : Bool) → r ≡ bytes_eq a b → IsTrue r ↔ (a ≡ b)
tells_same a b r e = let decides = bytes_eq-Decides a b in rw e decides

-- what is no text is no hash
pub no_text_hash : (hashed : List ℕ) → (IsUtf8 hashed → ⊥) → IsNoEntry IsHosts (hashed_mark ++ hashed)
no_text_hash hashed none (Patterns ps) are = are.not_hashed (hashed, refl)
no_text_hash hashed none (HashedName salt hash) are =
    let word = λ (b : List ℕ). IsUtf8-from_ascii (encode_of standard b) (IsAscii-encode_of standard b) in
    none (subst IsUtf8 (sym (ap (drop 3) are.is)) (IsUtf8-append (encode_of standard salt) (bar ∷ encode_of standard hash) (word salt) (IsUtf8-append (bar ∷ []) (encode_of standard hash) (IsUtf8-from_ascii (bar ∷ []) bar_ascii) (word hash))))
  where
    bar_ascii : IsAscii (bar ∷ [])
    bar_ascii zero = omega arith
    bar_ascii (suc i) = omega arith

-- ---- the first pattern begins as all of them do

begin_at : (list : List ℕ) → 0 < length list → (place : Option ℕ) → place ≡ position is_comma list → BeginWithBar (patterns list) ↔ (slice_index list 0 ≡ bar)
begin_at list some None at = let is = patterns_alone list at some in (λ b. subst BeginWithBar is b, λ b. subst BeginWithBar (sym is) b)
begin_at [] some (Some n) at = absurd (omega (arith, some))
begin_at (c ∷ list) some (Some zero) at =
    let is = patterns_at (c ∷ list) _ _ zero at refl refl in
    let comma : c ≡ 0x2c = eqb-true c 0x2c (position-Some is_comma (c ∷ list) zero 0 (sym at)).1 in
    (λ b. absurd (omega (arith, subst BeginWithBar is b)), λ b. absurd (omega (arith, comma, b)))
begin_at (c ∷ list) some (Some (suc n)) at =
    let is = patterns_at (c ∷ list) _ _ (suc n) at refl refl in
    (λ b. subst BeginWithBar is b, λ b. subst BeginWithBar (sym is) b)

pub begin_alike : (list : List ℕ) → 0 < length list → BeginWithBar (patterns list) ↔ (slice_index list 0 ≡ bar)
begin_alike list some = begin_at list some (position is_comma list) refl

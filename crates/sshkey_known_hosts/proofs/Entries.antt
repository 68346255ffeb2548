-- Pieces joined by a character, one more at a time.
use Rattle.std.proofs.Common.{◌≡◌, ℕ, ◌+◌, ◌<◌, List, [], ◌∷◌, ◌++◌, length, take, get_or, sym, ap, ◌∙◌, refl, arith, append_assoc, append-nil, length-take, ◌≢◌, slice_index, Option, None, Some, Bor, subst, zero, suc}
use Rattle.std.specs.List.{join_with_byte, All}
use Rattle.std.proofs.lemmas.List.{take_more, length-append}
use Rattle.std.proofs.Math.Seq.{get_or-append_seam}
use Rattle.std.proofs.lemmas.Str.Pattern.{IsSplitOnceResult, split_after, split_parts}
use Rattle.sshkey_base.specs.Causes.{cause, NoMemory}
use Rattle.sshkey_base.specs.declared.error.Error.{Error}
use Rattle.sshkey_base.specs.declared.error.Error.TheVariants.{FormatEncoding}
use Rattle.sshkey_model.specs.Keys.{Key, key_format, SpellsKey}
use Rattle.sshkey_model.specs.Lines.{space, key_name, IsKeyLine, IsWithout, IsNoKeyLine}
use Rattle.sshkey_public.specs.Lines.{HasFaultOfLine}
use Rattle.sshkey_entries.proofs.OneEntry.{one_marker}
use Rattle.sshkey_entries.specs.Entries.{IsNoEntry}
use Rattle.sshkey_entries.specs.KnownHosts.{Marker, Hosts, IsHosts, KnownHost, IsMarked, IsKnownHost, CertAuthority, Revoked, marker_text, after_marker, hashed_mark, hashed_text, bar, comma}
use Rattle.sshkey_known_hosts.specs.HostFaults.{HasFault, HasNoParts, NeedsLine, RefusesHosts}
use Rattle.base64.specs.Engines.{standard}
use Rattle.base64.specs.GeneralPurpose.{encode_of}
use Rattle.sshkey_model.proofs.Base64Words.{word_lacks}
use Rattle.sshkey_model.proofs.LineTests.{lacks}
use Rattle.sshkey_public.specs.WrittenLines.{IsOneLine, line_feed, carriage_return}
use Rattle.sshkey_public.proofs.WrittenLines.{one_line_front, one_line_rest, one_line_both}

more : (c : ℕ) (piece next : List ℕ) (pieces : List (List ℕ)) → join_with_byte c ((piece ∷ pieces) ++ (next ∷ [])) ≡ join_with_byte c (piece ∷ pieces) ++ (c ∷ next)
more c piece next [] = refl
more c piece next (second ∷ pieces) = ap (λ (l : List ℕ). piece ++ (c ∷ l)) (more c second next pieces) ∙ sym (append_assoc piece (c ∷ join_with_byte c (second ∷ pieces)) (c ∷ next))

-- the first piece, and another after some
pub join_one : (c i : ℕ) (pieces : List (List ℕ)) (next : List ℕ) → i < length pieces → i ≡ 0 → get_or pieces i next ≡ next → join_with_byte c (take (i + 1) pieces) ≡ next
join_one c i pieces next l start is = ap (join_with_byte c) (take_more pieces i next l ∙ (λ j. take (start j) pieces ++ (is j ∷ [])))

pub join_more : (c i : ℕ) (pieces : List (List ℕ)) (next : List ℕ) → i < length pieces → 0 < i → get_or pieces i next ≡ next → join_with_byte c (take (i + 1) pieces) ≡ join_with_byte c (take i pieces) ++ (c ∷ next)
join_more c i pieces next l some is = ap (join_with_byte c) (take_more pieces i next l ∙ ap (λ (x : List ℕ). take i pieces ++ (x ∷ [])) is) ∙ after (take i pieces) (omega (arith, length-take i pieces))
  where
    after : (front : List (List ℕ)) → 0 < length front → join_with_byte c (front ++ (next ∷ [])) ≡ join_with_byte c front ++ (c ∷ next)
    after [] none = absurd (omega arith)
    after (piece ∷ front) _ = more c piece next front

module _ (c i : ℕ) (pieces : List (List ℕ)) (front next old mid new : List ℕ) (l : i < length pieces) (is : get_or pieces i next ≡ next) (was : old ≡ front ++ join_with_byte c (take i pieces)) (added : new ≡ mid ++ next) where
  -- the text grew by a character and a piece
  pub grown : 0 < i → mid ≡ old ++ (c ∷ []) → new ≡ front ++ join_with_byte c (take (i + 1) pieces)
  grown some between =
      added
      ∙ (λ j. between j ++ next)
      ∙ append_assoc old (c ∷ []) next
      ∙ ap (λ (t : List ℕ). t ++ (c ∷ next)) was
      ∙ append_assoc front (join_with_byte c (take i pieces)) (c ∷ next)
      ∙ ap (λ (t : List ℕ). front ++ t) (sym (join_more c i pieces next l some is))

  -- or by the first piece
  pub begun : i ≡ 0 → mid ≡ old → new ≡ front ++ join_with_byte c (take (i + 1) pieces)
  begun start same =
      added
      ∙ (λ j. (same ∙ was ∙ ap (λ (n : ℕ). front ++ join_with_byte c (take n pieces)) start ∙ append-nil front) j ++ next)
      ∙ ap (λ (t : List ℕ). front ++ t) (sym (join_one c i pieces next l start is))

-- When a line is an entry of known_hosts.

module _ (entry : List ℕ) (m : Option Marker) (unmarked : List ℕ) (marked : IsMarked m entry unmarked) where
  after : (h : KnownHost) (k : IsKnownHost entry h) → unmarked ≡ k.hosts_part ++ (space ∷ k.rest)
  after h k = (one_marker entry m h.marker unmarked (k.hosts_part ++ (space ∷ k.rest)) marked k.is).1

  pub uncut_hosts : IsSplitOnceResult space unmarked None → (h : KnownHost) → IsKnownHost entry h → ⊥
  uncut_hosts none h k = split_after space unmarked k.hosts_part k.rest None none (omega arith) (after h k) k.one_word

  module _ (hosts rest : Bor (List ℕ)) (cut : IsSplitOnceResult space unmarked (Some (hosts, rest))) where
    parts : (h : KnownHost) (k : IsKnownHost entry h) → (hosts.now ≡ k.hosts_part) × (rest.now ≡ k.rest)
    parts h k = split_after space unmarked k.hosts_part k.rest (Some (hosts, rest)) cut (omega arith) (after h k) k.one_word

    pub bad_hosts : (e : Error) → (cause e ≢ NoMemory → (x : Hosts) → IsHosts hosts.now x → ⊥) → cause e ≢ NoMemory → (h : KnownHost) → IsKnownHost entry h → ⊥
    bad_hosts e none other h k = none other h.hosts (subst (λ (t : List ℕ). IsHosts t h.hosts) (sym (parts h k).0) k.hosts)

    pub bad_host_key : (e : Error) → (cause e ≢ NoMemory → IsNoKeyLine rest.now) → cause e ≢ NoMemory → (h : KnownHost) → IsKnownHost entry h → ⊥
    bad_host_key e none other h k = none other h.key h.comment (subst (λ (t : List ℕ). IsKeyLine t h.key h.comment) (sym (parts h k).1) k.line)

    pub line_needs : (HasNoParts hosts.now → ⊥) → NeedsLine entry
    line_needs some =
        let at = split_parts space unmarked (Some (hosts, rest)) cut (omega arith) in
        record { marker = m; hosts = hosts.now; rest = rest.now; is = subst (IsMarked m entry) at.0 marked; one_word = at.1; some = some }

    pub known : (x : Hosts) (key : Key) (comment : List ℕ) → IsHosts hosts.now x → IsKeyLine rest.now key comment → IsKnownHost entry (record { marker = m; hosts = x; key = key; comment = comment })
    known x key comment is line =
        let at = split_parts space unmarked (Some (hosts, rest)) cut (omega arith) in
        record { hosts_part = hosts.now; rest = rest.now; is = subst (IsMarked m entry) at.0 marked; one_word = at.1; hosts = is; line = line }

-- ---- faults

module _ (entry : List ℕ) (m : Option Marker) (unmarked : List ℕ) (marked : IsMarked m entry unmarked) where
  same_rest : (n : Option Marker) (rest : List ℕ) → IsMarked n entry rest → unmarked ≡ rest
  same_rest n rest is = (one_marker entry m n unmarked rest marked is).1

  pub space_fault : IsSplitOnceResult space unmarked None → HasFault entry FormatEncoding
  space_fault none = record {
    no_marker = λ _. refl;
    no_space = λ n rest is without. refl;
    no_hosts = λ n hosts rest is without bad. absurd (split_after space unmarked hosts rest None none (omega arith) (same_rest n (hosts ++ (space ∷ rest)) is) without);
    no_key = λ n hosts rest h is without are. absurd (split_after space unmarked hosts rest None none (omega arith) (same_rest n (hosts ++ (space ∷ rest)) is) without);
  }

  module _ (hosts rest : Bor (List ℕ)) (cut : IsSplitOnceResult space unmarked (Some (hosts, rest))) where
    same_hosts : (n : Option Marker) (other after : List ℕ) → IsMarked n entry (other ++ (space ∷ after)) → IsWithout space other → hosts.now ≡ other
    same_hosts n other after is without = (split_after space unmarked other after (Some (hosts, rest)) cut (omega arith) (same_rest n (other ++ (space ∷ after)) is) without).0

    -- a space stands in what follows the marker
    no_lone_word : (n : Option Marker) (other : List ℕ) → IsMarked n entry other → IsWithout space other → ⊥
    no_lone_word n other is without =
        let parts = split_parts space unmarked (Some (hosts, rest)) cut (omega arith) in
        let whole : other ≡ hosts.now ++ (space ∷ rest.now) = sym (same_rest n other is) ∙ parts.0 in
        without (length hosts.now) (omega (arith, ap length whole, length-append hosts.now (space ∷ rest.now)))
        (ap (λ (l : List ℕ). slice_index l (length hosts.now)) whole ∙ get_or-append_seam hosts.now space rest.now 0)

    same_after : (n : Option Marker) (other after : List ℕ) → IsMarked n entry (other ++ (space ∷ after)) → IsWithout space other → rest.now ≡ after
    same_after n other after is without = (split_after space unmarked other after (Some (hosts, rest)) cut (omega arith) (same_rest n (other ++ (space ∷ after)) is) without).1

    pub hosts_fault : (e : Error) → IsNoEntry IsHosts hosts.now → RefusesHosts hosts.now e → HasFault entry e
    hosts_fault e none_are h = record {
      no_marker = λ none. absurd (none m unmarked marked);
      no_space = λ n other is without. absurd (no_lone_word n other is without);
      no_hosts = λ n other after is without bad. subst (λ (t : List ℕ). RefusesHosts t e) (same_hosts n other after is without) h;
      no_key = λ n other after x is without are. absurd (none_are x (subst (λ (t : List ℕ). IsHosts t x) (sym (same_hosts n other after is without)) are));
    }

    -- hosts that are some, and the fault of the key's line
    pub host_key_fault : (e : Error) (x : Hosts) → IsHosts hosts.now x → HasFaultOfLine key_format key_name SpellsKey rest.now e → HasFault entry e
    host_key_fault e x h fault = record {
      no_marker = λ none. absurd (none m unmarked marked);
      no_space = λ n other is without. absurd (no_lone_word n other is without);
      no_hosts = λ n other after is without bad. absurd (bad x (subst (λ (t : List ℕ). IsHosts t x) (same_hosts n other after is without) h));
      no_key = λ n other after y is without are. subst (λ (t : List ℕ). HasFaultOfLine key_format key_name SpellsKey t e) (same_after n other after is without) fault;
    }

-- When hosts and an entry are written as one line.

nothing : IsOneLine []
nothing = (λ i l. absurd (omega arith), λ i l. absurd (omega arith))

space_alone : IsOneLine (space ∷ [])
space_alone = (lacks line_feed (space ∷ []) refl, lacks carriage_return (space ∷ []) refl)

comma_alone : IsOneLine (comma ∷ [])
comma_alone = (lacks line_feed (comma ∷ []) refl, lacks carriage_return (comma ∷ []) refl)

bar_alone : IsOneLine (bar ∷ [])
bar_alone = (lacks line_feed (bar ∷ []) refl, lacks carriage_return (bar ∷ []) refl)

-- ---- hosts

pub joined_so : (ps : List (List ℕ)) → All IsOneLine ps → IsOneLine (join_with_byte comma ps)
joined_so [] h = nothing
joined_so (p ∷ []) h = h 0 p (omega arith)
joined_so (p ∷ q ∷ ps) h =
    one_line_both p (comma ∷ join_with_byte comma (q ∷ ps)) (h 0 p (omega arith))
    (one_line_both (comma ∷ []) (join_with_byte comma (q ∷ ps)) comma_alone (joined_so (q ∷ ps) (λ k d l. h (suc k) d (omega arith))))

with_first : (p : List ℕ) (ps : List (List ℕ)) → IsOneLine p → All IsOneLine ps → All IsOneLine (p ∷ ps)
with_first p ps first rest zero d l = first
with_first p ps first rest (suc k) d l = rest k d (omega arith)

pub so_joined : (ps : List (List ℕ)) → IsOneLine (join_with_byte comma ps) → All IsOneLine ps
so_joined [] h = λ k d l. absurd (omega arith)
so_joined (p ∷ []) h = with_first p [] h (λ k d l. absurd (omega arith))
so_joined (p ∷ q ∷ ps) h =
    let rest = join_with_byte comma (q ∷ ps) in
    with_first p (q ∷ ps) (one_line_front p (comma ∷ rest) h) (so_joined (q ∷ ps) (one_line_rest (comma ∷ []) rest (one_line_rest p (comma ∷ rest) h)))

word : (b : List ℕ) → IsOneLine (encode_of standard b)
word b = (word_lacks line_feed refl refl refl b, word_lacks carriage_return refl refl refl b)

pub hashed_so : (salt hash : List ℕ) → IsOneLine (hashed_text salt hash)
hashed_so salt hash =
    one_line_both hashed_mark (encode_of standard salt ++ (bar ∷ encode_of standard hash)) (lacks line_feed hashed_mark refl, lacks carriage_return hashed_mark refl)
    (one_line_both (encode_of standard salt) (bar ∷ encode_of standard hash) (word salt) (one_line_both (bar ∷ []) (encode_of standard hash) bar_alone (word hash)))

-- ---- an entry

marker_so : (m : Marker) → IsOneLine (marker_text m)
marker_so CertAuthority = (lacks line_feed (marker_text CertAuthority) refl, lacks carriage_return (marker_text CertAuthority) refl)
marker_so Revoked = (lacks line_feed (marker_text Revoked) refl, lacks carriage_return (marker_text Revoked) refl)

after_space : (a b : List ℕ) → IsOneLine a → IsOneLine b → IsOneLine (a ++ (space ∷ b))
after_space a b h k = one_line_both a (space ∷ b) h (one_line_both (space ∷ []) b space_alone k)

before_space : (a b : List ℕ) → IsOneLine (a ++ (space ∷ b)) → IsOneLine a × IsOneLine b
before_space a b h = (one_line_front a (space ∷ b) h, one_line_rest (space ∷ []) b (one_line_rest a (space ∷ b) h))

pub written_so : (m : Option Marker) (hosts line : List ℕ) → IsOneLine hosts → IsOneLine line → IsOneLine (after_marker m (hosts ++ (space ∷ line)))
written_so None hosts line h k = after_space hosts line h k
written_so (Some m) hosts line h k = after_space (marker_text m) (hosts ++ (space ∷ line)) (marker_so m) (after_space hosts line h k)

pub so_written : (m : Option Marker) (hosts line : List ℕ) → IsOneLine (after_marker m (hosts ++ (space ∷ line))) → IsOneLine hosts × IsOneLine line
so_written None hosts line h = before_space hosts line h
so_written (Some m) hosts line h = before_space hosts line (before_space (marker_text m) (hosts ++ (space ∷ line)) h).1

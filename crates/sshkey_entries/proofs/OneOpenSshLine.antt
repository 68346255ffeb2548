-- As OpenSSH reads them, a line is one entry at most.
use Rattle.std.proofs.Common.{◌≡◌, ℕ, List, [], ◌∷◌, ◌++◌, length, drop, slice_index, Option, None, Some, refl, sym, ap, subst, ◌∙◌, arith, inl, inr}
use Rattle.sshkey_entries.specs.AuthorizedKeys.{AuthorizedKey}
use Rattle.sshkey_entries.specs.Fields.{without_blanks, AreKeyFields}
use Rattle.sshkey_entries.specs.KnownHosts.{Marker, CertAuthority, Revoked, marker_text, IsHosts, KnownHost, at_sign}
use Rattle.sshkey_entries.specs.OpenSshLines.{IsAfterOptions, IsAuthorizedLine, IsMarkedLine, IsHostLine}
use Rattle.sshkey_entries.proofs.Fields.{same_field, one_fields}
use Rattle.sshkey_entries.proofs.OneEntry.{one_end, same_entry, one_hosts, same_host}

-- ---- authorized_keys

-- parts of the same length
pub same_front : (a b x y : List ℕ) → length a ≡ length b → a ++ x ≡ b ++ y → (a ≡ b) × (x ≡ y)
same_front [] [] x y l e = (refl, e)
same_front [] (d ∷ b) x y l e = absurd (omega (arith, l))
same_front (c ∷ a) [] x y l e = absurd (omega (arith, l))
same_front (c ∷ a) (d ∷ b) x y l e =
    let here : c ≡ d = cc e in
    let rest : a ++ x ≡ b ++ y = cc e in
    let more = same_front a b x y (omega (arith, l)) rest in
    (ap (λ (n : ℕ). n ∷ a) here ∙ ap (λ (l : List ℕ). d ∷ l) more.0, more.1)

pub one_text : (text : List ℕ) (a b : AuthorizedKey) → IsAfterOptions text a → IsAfterOptions text b → a ≡ b
one_text text a b x y =
    let size = one_end text (length a.options) (length b.options) x.ends y.ends in
    let parts = same_front a.options b.options x.rest y.rest size (sym x.is ∙ y.is) in
    let same = one_fields (without_blanks y.rest) a.key b.key a.comment b.comment (subst (λ (r : List ℕ). AreKeyFields (without_blanks r) a.key a.comment) parts.1 x.fields) y.fields in
    same_entry a b parts.0 same.0 same.1

pub one_authorized_line : (line : List ℕ) (a b : AuthorizedKey) → IsAuthorizedLine line a → IsAuthorizedLine line b → a ≡ b
one_authorized_line line a b x y = elim x.is [
  | inl p ↦ elim y.is [
    | inl q ↦
        let same = one_fields (without_blanks line) a.key b.key a.comment b.comment p.fields q.fields in
        same_entry a b (p.options ∙ sym q.options) same.0 same.1
    | inr q ↦ absurd (q.no_key a.key a.comment p.fields)
  ]
  | inr p ↦ elim y.is [
    | inl q ↦ absurd (p.no_key b.key b.comment q.fields)
    | inr q ↦ one_text (without_blanks line) a b p q
  ]
]

-- ---- known_hosts

begins : (m : Marker) (rest : List ℕ) → slice_index (marker_text m ++ rest) 0 ≡ at_sign
begins CertAuthority rest = refl
begins Revoked rest = refl

pub one_marked : (text : List ℕ) (m n : Option Marker) (r s : List ℕ) → IsMarkedLine m text r → IsMarkedLine n text s → (m ≡ n) × (r ≡ s)
one_marked text None None r s a b = (refl, sym a.0 ∙ b.0)
one_marked text None (Some n) r s a b = absurd (a.1 (ap (λ (l : List ℕ). slice_index l 0) b.1 ∙ begins n b.0))
one_marked text (Some m) None r s a b = absurd (b.1 (ap (λ (l : List ℕ). slice_index l 0) a.1 ∙ begins m a.0))
one_marked text (Some CertAuthority) (Some CertAuthority) r s a b = (refl, a.3 ∙ ap without_blanks (ap (drop 15) (sym a.1 ∙ b.1)) ∙ sym b.3)
one_marked text (Some CertAuthority) (Some Revoked) r s a b = let e : 0x63 ≡ 0x72 = ap (λ (l : List ℕ). slice_index l 1) (sym a.1 ∙ b.1) in absurd (omega (arith, e))
one_marked text (Some Revoked) (Some CertAuthority) r s a b = let e : 0x72 ≡ 0x63 = ap (λ (l : List ℕ). slice_index l 1) (sym a.1 ∙ b.1) in absurd (omega (arith, e))
one_marked text (Some Revoked) (Some Revoked) r s a b = (refl, a.3 ∙ ap without_blanks (ap (drop 8) (sym a.1 ∙ b.1)) ∙ sym b.3)

pub one_host_line : (line : List ℕ) (a b : KnownHost) → IsHostLine line a → IsHostLine line b → a ≡ b
one_host_line line a b x y =
    let marks = one_marked (without_blanks line) a.marker b.marker (x.hosts_part ++ x.after_hosts) (y.hosts_part ++ y.after_hosts) x.marked y.marked in
    let parts = same_field x.hosts_part y.hosts_part x.after_hosts y.after_hosts x.one_word y.one_word x.hosts_end y.hosts_end marks.1 in
    let key = one_fields (without_blanks y.after_hosts) a.key b.key a.comment b.comment (subst (λ (t : List ℕ). AreKeyFields (without_blanks t) a.key a.comment) parts.1 x.fields) y.fields in
    same_host a b marks.0 (one_hosts y.hosts_part a.hosts b.hosts (subst (λ (t : List ℕ). IsHosts t a.hosts) parts.0 x.hosts) y.hosts) key.0 key.1

-- A list, and one section more.
use Rattle.std.proofs.Common.{◌≡◌, ◌<◌, inl, inr, ℕ, zero, suc, Bool, true, false, ◌||◌, None, List, [], ◌∷◌, ◌++◌, length, take, append-nil, append_assoc, Result, Ok, Err, refl, sym, ap, ◌∙◌, arith}
use Rattle.std.specs.Prelude.{◌==◌, ◌-◌, slice_index}
use Rattle.std.specs.Int.{w8, w32, w64}
use Rattle.sshkey_base.proofs.Accepted.{spelled_whole}
use Rattle.std.proofs.Math.Seq.{take-append_seam}
use Rattle.sshkey_base.proofs.Writing.{length_both}
use Rattle.sshkey_base.proofs.Lawful.{array_lawful, byte_lawful, number64_lawful, string_lawful}
use Rattle.sshkey_model.specs.Formats.{Format, IsFormat}
use Rattle.sshkey_model.specs.Leaves.{array_format, byte_format, number32_format, number64_format, string_format, SpellsString}
use Rattle.sshkey_model.specs.Grammar.{normal_is_spelling}
use Rattle.sshkey_model.proofs.Grammars.{ends, AllEnd}
use Rattle.sshkey_base.specs.Sink.{NotWritten, Sink, Written, after}
use Rattle.sshkey_base.specs.declared.encoding.Error as narrow
use Rattle.sshkey_base.specs.declared.encoding.Error.TheVariants as encoding
use Rattle.sshkey_base.specs.declared.error.Error.{Error}
use Rattle.sshkey_base.specs.declared.error.Error.TheVariants as wide
use Rattle.sshkey_keys.proofs.KeyReaders.{key_grammar, key_normal}
use Rattle.sshkey_model.proofs.Blobs.{flat_bytes}
use Rattle.sshkey_model.proofs.CombinedReaders.{fits_box, fits_bytes, fits_first, fits_inside, fits_length, fits_second, ok_is}
use Rattle.sshkey_model.proofs.TextReaders.{box_shows}
use Rattle.sshkey_model.specs.Keys.{IsKey, Key, key_algorithm, normal_key, key_data_at}
use Rattle.sshkey_model.specs.Keys.{body as key_body}
use Rattle.sshkey_model.specs.Names.{algorithm, algorithm_name}
use Rattle.sshkey_model.specs.Parts.{BoxesFit, Fits, Parts, ◌&◌, box, bytes, each, flat, number}
use Rattle.sshkey_model.specs.Reading.{Fault, whole}
use Rattle.sshkey_model.specs.Texts.{string}
use Rattle.sshkey_model.specs.Counted.{SpellsEach}
use Rattle.sshkey_terms.specs.Slices.{is_taken}
use Rattle.sshkey_terms.proofs.Lawful.{called_ends, tested_lawful}
use Rattle.sshkey_model.specs.Terms.{◌then◌, boxed, literal_format, tested}
use Rattle.sshkey_model.specs.ToEnd.{values_to_end}
use Rattle.sshkey_krl.specs.Krls.{SpellsKrl, header_format, krl_format, krl_in, magic, version_from, authority_from, body, is_read_signer, kind_from, section_format}
use Rattle.sshkey_krl.specs.Writing.{Adds, Appends, IsWellFormedAuthority, RefusesToWrite, authority_string, certificates_section, framed, has_zero, header, is_read_authority, key_id_part, key_section, range_part, serials_part, sha1_section, sha256_section}
use Rattle.sshkey_krl.specs.Parts as parts
use Rattle.sshkey_krl.specs.Parts.{key_id_format, numbered, part_format, serial_format, text_from}
use Rattle.sshkey_krl.specs.Revocation.{Authority, Certificates, Everybody, KeyIds, Keys, Krl, Numbers, Part, Section, Sha1s, Sha256s, Signer, begun, with_section, without_zero, Listed, Range, range_from}
use Rattle.sshkey_krl.specs.declared.part.PartKind.TheVariants as kinds
use Rattle.sshkey_krl.specs.declared.section.SectionKind.TheVariants as sections
use Rattle.sshkey_krl.proofs.Krls.{spelled}
use Rattle.sshkey_krl.proofs.Lawful.{header_lawful, key_id_lawful, krl_lawful, magic_lawful, numbers_lawful, opening_lawful, part_lawful, section_lawful, serial_lawful}

-- ---- values up to the end

module _ {A : Type 0} (f : Format A) (laws : IsFormat f) (all : AllEnd f.read f.delimited_at) where
  abbrev Each : List A → List ℕ → Type 0
  Each = SpellsEach f.Spells f.delimited_at

  pub one : (x : A) (c : List ℕ) → f.Spells x c → Each (x ∷ []) c
  one x c s = (c, [], s, refl, sym (append-nil c), inl refl)

  pub more : (xs : List A) (x : A) (b c : List ℕ) → Each xs b → f.Spells x c → Each (xs ++ x ∷ []) (b ++ c)
  more [] x b c none s = rw none (one x c s)
  more (y ∷ ys) x b c t s = (t.0, t.1 ++ c, t.2, more ys x t.1 c t.3 s, ap (λ (l : List ℕ). l ++ c) t.4 ∙ append_assoc t.0 t.1 c, ends laws.grammar all y t.0 (t.1 ++ c) t.2)

-- ---- a list

header_ends : AllEnd header_format.read header_format.delimited_at
header_ends b = refl

section_ends : AllEnd section_format.read section_format.delimited_at
section_ends = called_ends (tested kind_from byte_format) (λ k. boxed (body k)) (λ b. refl) (λ k b. refl)

grown : (k : Krl) (s : Section) (b c : List ℕ) → SpellsKrl k b → section_format.Spells s c → SpellsKrl (with_section k s) (b ++ c)
grown k s b c list section =
    let found = list.spelled in
    record {
      inner = (list.inner.0, list.inner.1 ++ s ∷ []);
      spelled = record {
        front = found.front;
        after = found.after ++ c;
        first = found.first;
        second = more section_format section_lawful section_ends list.inner.1 s found.after c found.second section;
        all = ap (λ (l : List ℕ). l ++ c) found.all ∙ append_assoc found.front found.after c;
        may_follow = ends header_lawful.grammar header_ends list.inner.0 found.front (found.after ++ c) found.first;
      };
      makes = ap (λ (z : Krl). Ok (with_section z s)) (ok_is _ k list.makes);
    }

-- the list that bytes spell
pub spelled_taken : (k : Krl) (b : List ℕ) → SpellsKrl k b → is_taken (whole krl_format.read b) ≡ true
spelled_taken k b s = rw (krl_lawful.grammar.alone k b s) refl

pub spelled_is : (k : Krl) (b : List ℕ) → SpellsKrl k b → krl_in b ≡ k
unfolding krl_in
spelled_is k b s = rw (krl_lawful.grammar.alone k b s) refl

-- ---- what a number calls for, in a string

module _ {K A : Type 0} (kinds : ℕ → Result K Fault) (within : K → Format A) where
  framed_spelled : (n : ℕ) (k : K) (x : A) (p : Parts) → kinds n ≡ Ok k → Fits (framed n p) → (within k).Spells x (flat p) → (numbered kinds within).Spells x (flat (framed n p))
  unfolding flat
  framed_spelled n k x p is fits s =
      let first : (tested kinds byte_format).Spells k (flat (number w8 n)) = record { inner = n; spelled = normal_is_spelling n tt (fits_first (number w8 n) (box p) fits); makes = is } in
      record {
        inner = (k, x);
        spelled = record {
          front = flat (number w8 n);
          after = flat (box p);
          first = first;
          second = record { inside = flat p; spelled = s; short = fits_length p (fits_second (number w8 n) (box p) fits); whole = refl };
          all = refl;
          may_follow = inr ((tested_lawful kinds byte_lawful).grammar.alone k (flat (number w8 n)) first);
        };
        makes = refl;
      }

framed_inside : (n : ℕ) (p : Parts) → Fits (framed n p) → Fits p
framed_inside n p fits = fits_inside p (fits_second (number w8 n) (box p) fits)

string_spelled : (p : Parts) → Fits (box p) → SpellsString (flat p) (flat (box p))
unfolding flat
string_spelled p fits = record {
  is = tt;
  fits = fits_box (bytes (flat p)) (fits_length p fits) (fits_bytes (flat p) (flat_bytes p (fits_inside p fits).range));
  shape = refl;
}

spells_then : {A B : Type 0} (f : Format A) (g : Format B) → IsFormat f → AllEnd f.read f.delimited_at → (x : A) (y : B) (b c : List ℕ) → f.Spells x b → g.Spells y c → (f then g).Spells (x, y) (b ++ c)
spells_then f g laws all x y b c s t = record { front = b; after = c; first = s; second = t; all = refl; may_follow = ends laws.grammar all x b c s }

string_ends : AllEnd string_format.read string_format.delimited_at
string_ends b = refl

-- ---- a section of a key

pub key_spelled : (p : Parts) → Fits (key_section p) → section_format.Spells (Keys (flat p ∷ [])) (flat (key_section p))
key_spelled p fits = framed_spelled kind_from body 2 sections.Keys (Keys (flat p ∷ [])) (box p) refl fits (record {
  inner = flat p ∷ [];
  spelled = one string_format string_lawful string_ends (flat p) (flat (box p)) (string_spelled p (framed_inside 2 (box p) fits));
  makes = refl;
})

-- ---- a section of a digest

digests_spelled : (n k : ℕ) (d : List ℕ) → length d ≡ k → Fits (framed n (string d)) → SpellsEach (array_format k).Spells (array_format k).delimited_at (d ∷ []) (flat (string d))
digests_spelled n k d is fits = one (array_format k) (array_lawful k) (λ b. refl) d (flat (string d)) (normal_is_spelling d is (framed_inside n (string d) fits))

pub sha1_spelled : (d : List ℕ) → length d ≡ 20 → Fits (sha1_section d) → section_format.Spells (Sha1s (d ∷ [])) (flat (sha1_section d))
sha1_spelled d is fits = framed_spelled kind_from body 3 sections.Sha1 (Sha1s (d ∷ [])) (string d) refl fits (record { inner = d ∷ []; spelled = digests_spelled 3 20 d is fits; makes = refl })

pub sha256_spelled : (d : List ℕ) → length d ≡ 32 → Fits (sha256_section d) → section_format.Spells (Sha256s (d ∷ [])) (flat (sha256_section d))
sha256_spelled d is fits = framed_spelled kind_from body 5 sections.Sha256 (Sha256s (d ∷ [])) (string d) refl fits (record { inner = d ∷ []; spelled = digests_spelled 5 32 d is fits; makes = refl })

-- ---- a section of a part about certificates

signer_from : (k : Key) → IsKey k → is_read_signer k ≡ true → Fits (normal_key k) → authority_from (flat (normal_key k)) ≡ Ok (Signer k)
signer_from k is read fits = go (flat (normal_key k)) some (spelled_whole key_grammar (flat (normal_key k)) k (key_normal k is fits))
  where
    some : 0 < length (flat (normal_key k))
    some = omega (arith, length_both (algorithm (key_algorithm k)) (key_body k), box_shows (bytes (algorithm_name (key_algorithm k))))

    go : (b : List ℕ) → 0 < length b → whole key_data_at b ≡ Ok k → authority_from b ≡ Ok (Signer k)
    go [] some e = absurd (omega arith)
    go (c ∷ b) some e = rw (e, read) refl

abbrev authority_format : Format Authority
authority_format = tested authority_from string_format

authority_spelled : (a : Authority) → IsWellFormedAuthority a → is_read_authority a ≡ true → Fits (authority_string a) → authority_format.Spells a (flat (authority_string a))
authority_spelled Everybody is read fits = record { inner = []; spelled = normal_is_spelling [] tt fits; makes = refl }
authority_spelled (Signer k) is read fits = record { inner = flat (normal_key k); spelled = string_spelled (normal_key k) fits; makes = signer_from k is read (fits_inside (normal_key k) fits) }

part_ends : AllEnd part_format.read part_format.delimited_at
part_ends = called_ends (tested parts.kind_from byte_format) (λ k. boxed (parts.body k)) (λ b. refl) (λ k b. refl)

pub certificates_spelled : (a : Authority) (x : Part) (q : Parts) → IsWellFormedAuthority a → is_read_authority a ≡ true → (Fits q → part_format.Spells x (flat q)) → Fits (certificates_section a q) → section_format.Spells (Certificates a (x ∷ [])) (flat (certificates_section a q))
unfolding flat
certificates_spelled a x q is read part fits =
    let both = framed_inside 1 (authority_string a & string [] & q) fits in
    let later = fits_second (authority_string a) (string [] & q) both in
    let first = authority_spelled a is read (fits_first (authority_string a) (string [] & q) both) in
    let second = normal_is_spelling [] tt (fits_first (string []) q later) in
    framed_spelled kind_from body 1 sections.Certificates (Certificates a (x ∷ [])) (authority_string a & string [] & q) refl fits (record {
      inner = (a, ([], x ∷ []));
      spelled = spells_then authority_format (string_format then values_to_end part_format) (tested_lawful authority_from string_lawful) (λ b. refl) a ([], x ∷ []) (flat (authority_string a)) (flat (string [] & q)) first (spells_then string_format (values_to_end part_format) string_lawful string_ends [] (x ∷ []) (flat (string [])) (flat q) second (one part_format part_lawful part_ends x (flat q) (part (fits_second (string []) q later))));
      makes = refl;
    })

-- ---- parts

not_first : (p q : Bool) → (p || q) ≡ false → (p ≡ false) × (q ≡ false)
not_first false false e = (refl, refl)
not_first false true e = absurd (cc e)
not_first true q e = absurd (cc e)

serial_spelled : (n : ℕ) → (n == 0) ≡ false → Fits (number w64 n) → serial_format.Spells n (flat (number w64 n))
serial_spelled n some fits = record { inner = n; spelled = normal_is_spelling n tt fits; makes = rw some refl }

each_spelled : (ns : List ℕ) → has_zero ns ≡ false → Fits (each (number w64) ns) → SpellsEach serial_format.Spells serial_format.delimited_at ns (flat (each (number w64) ns))
unfolding flat
each_spelled [] some fits = refl
each_spelled (n ∷ ns) some fits =
    let none = not_first (n == 0) (has_zero ns) some in
    let first = serial_spelled n none.0 (fits_first (number w64 n) (each (number w64) ns) fits) in
    (flat (number w64 n), flat (each (number w64) ns), first, each_spelled ns none.1 (fits_second (number w64 n) (each (number w64) ns) fits), refl, ends serial_lawful.grammar (λ b. refl) n (flat (number w64 n)) (flat (each (number w64) ns)) first)

pub serials_spelled : (ns : List ℕ) → has_zero ns ≡ false → Fits (serials_part ns) → part_format.Spells (Numbers (Listed ns)) (flat (serials_part ns))
serials_spelled ns some fits = framed_spelled parts.kind_from parts.body 0x20 kinds.Serials (Numbers (Listed ns)) (each (number w64) ns) refl fits (record { inner = ns; spelled = each_spelled ns some (framed_inside 0x20 (each (number w64) ns) fits); makes = refl })

pub range_spelled : (lo hi : ℕ) → range_from (lo, hi) ≡ Ok (Range lo hi) → Fits (range_part lo hi) → part_format.Spells (Numbers (Range lo hi)) (flat (range_part lo hi))
unfolding flat
range_spelled lo hi is fits =
    let both = framed_inside 0x21 (number w64 lo & number w64 hi) fits in
    let first = normal_is_spelling lo tt (fits_first (number w64 lo) (number w64 hi) both) in
    framed_spelled parts.kind_from parts.body 0x21 kinds.Range (Numbers (Range lo hi)) (number w64 lo & number w64 hi) refl fits (record {
      inner = (lo, hi);
      spelled = spells_then number64_format number64_format number64_lawful (λ b. refl) lo hi (flat (number w64 lo)) (flat (number w64 hi)) first (normal_is_spelling hi tt (fits_second (number w64 lo) (number w64 hi) both));
      makes = rw is refl;
    })

-- no byte of a text without zeros is zero
index_some : (b : List ℕ) (i : ℕ) → has_zero b ≡ false → i < length b → (slice_index b i == 0) ≡ false
index_some [] i some lt = absurd (omega arith)
index_some (c ∷ b) zero some lt = (not_first (c == 0) (has_zero b) some).0
index_some (c ∷ b) (suc i) some lt = index_some b i (not_first (c == 0) (has_zero b) some).1 (omega arith)

same_text : (b : List ℕ) → has_zero b ≡ false → without_zero b ≡ b
same_text [] some = refl
same_text (c ∷ b) some = rw (index_some (c ∷ b) (length (c ∷ b) - 1) some (omega arith)) refl

pub text_is : (b : List ℕ) → has_zero b ≡ false → text_from b ≡ Ok b
text_is b some = rw (same_text b some, some) refl

pub key_id_spelled : (b : List ℕ) → has_zero b ≡ false → Fits (key_id_part b) → part_format.Spells (KeyIds (b ∷ [])) (flat (key_id_part b))
key_id_spelled b some fits = framed_spelled parts.kind_from parts.body 0x23 kinds.KeyIds (KeyIds (b ∷ [])) (string b) refl fits (record {
  inner = b ∷ [];
  spelled = one key_id_format key_id_lawful (λ b. refl) b (flat (string b)) (record { inner = b; spelled = normal_is_spelling b tt (framed_inside 0x23 (string b) fits); makes = text_is b some });
  makes = refl;
})

-- ---- a list without sections

regrouped : (n d z t : List ℕ) → (n ++ d) ++ (z ++ t) ≡ (n ++ (d ++ z)) ++ t
regrouped n d z t = append_assoc n d (z ++ t) ∙ sym (append_assoc n (d ++ z) t ∙ ap (λ (l : List ℕ). n ++ l) (append_assoc d z t))

pub begun_spelled : (n date : ℕ) (comment : List ℕ) → has_zero comment ≡ false → Fits (header n date comment) → SpellsKrl (begun n date comment) (flat (header n date comment))
unfolding flat
begun_spelled n date comment some fits =
    let opening = number w64 0x5353484b524c0a00 & number w32 1 in
    let numbers = number w64 n & number w64 date in
    let texts = string [] & string comment in
    let a = fits_first opening (numbers & number w64 0 & texts) fits in
    let later = fits_second opening (numbers & number w64 0 & texts) fits in
    let b = fits_first numbers (number w64 0 & texts) later in
    let rest = fits_second numbers (number w64 0 & texts) later in
    let c = fits_second (number w64 0) texts rest in
    let literal : (literal_format magic).Spells magic (flat (number w64 0x5353484b524c0a00)) = record { is = refl; fits = fits_bytes magic refl; shape = refl } in
    let version : (tested version_from number32_format).Spells 1 (flat (number w32 1)) = record { inner = 1; spelled = normal_is_spelling 1 tt (fits_second (number w64 0x5353484b524c0a00) (number w32 1) a); makes = refl } in
    let first = normal_is_spelling n tt (fits_first (number w64 n) (number w64 date) b) in
    let second = normal_is_spelling date tt (fits_second (number w64 n) (number w64 date) b) in
    let third = normal_is_spelling 0 tt (fits_first (number w64 0) texts rest) in
    let reserved = normal_is_spelling [] tt (fits_first (string []) (string comment) c) in
    let text : (tested text_from string_format).Spells comment (flat (string comment)) = record { inner = comment; spelled = normal_is_spelling comment tt (fits_second (string []) (string comment) c); makes = text_is comment some } in
    let opened = spells_then (literal_format magic) (tested version_from number32_format) magic_lawful (λ b. refl) magic 1 (flat (number w64 0x5353484b524c0a00)) (flat (number w32 1)) literal version in
    let counted = spells_then number64_format (number64_format then number64_format) number64_lawful (λ b. refl) n (date, 0) (flat (number w64 n)) (flat (number w64 date & number w64 0)) first (spells_then number64_format number64_format number64_lawful (λ b. refl) date 0 (flat (number w64 date)) (flat (number w64 0)) second third) in
    let told = spells_then string_format (tested text_from string_format) string_lawful (λ b. refl) [] comment (flat (string [])) (flat (string comment)) reserved text in
    let after = spells_then (number64_format then number64_format then number64_format) (string_format then tested text_from string_format) numbers_lawful (λ b. refl) (n, (date, 0)) ([], comment) (flat (number w64 n & number w64 date & number w64 0)) (flat texts) counted told in
    let all = spells_then (literal_format magic then tested version_from number32_format) ((number64_format then number64_format then number64_format) then (string_format then tested text_from string_format)) opening_lawful (λ b. refl) (magic, 1) ((n, (date, 0)), ([], comment)) (flat opening) (flat (number w64 n & number w64 date & number w64 0) ++ flat texts) opened after in
    record {
      inner = (((magic, 1), ((n, (date, 0)), ([], comment))), []);
      spelled = record {
        front = flat opening ++ (flat (number w64 n & number w64 date & number w64 0) ++ flat texts);
        after = [];
        first = all;
        second = refl;
        all = ap (λ (l : List ℕ). flat opening ++ l) (regrouped (flat (number w64 n)) (flat (number w64 date)) (flat (number w64 0)) (flat texts)) ∙ sym (append-nil (flat opening ++ (flat (number w64 n & number w64 date & number w64 0) ++ flat texts)));
        may_follow = inl refl;
      };
      makes = refl;
    }

-- ---- what calls answer

pub begins : (n date : ℕ) (comment b : List ℕ) → has_zero comment ≡ false → Fits (header n date comment) → b ≡ flat (header n date comment) → SpellsKrl (begun n date comment) b
begins n date comment b some fits is = rw is (begun_spelled n date comment some fits)

-- the bytes with the section's after them, or as they were
pub still_list : (s : Section) (p : Parts) (b c : List ℕ) (r : Result (Unit {0}) Error) → (Fits p → section_format.Spells s (flat p)) → is_taken (whole krl_format.read b) ≡ true → Appends p b r c → is_taken (whole krl_format.read c) ≡ true
still_list s p b c (Ok x) section taken h = rw h.1 (spelled_taken _ _ (grown (krl_in b) s b (flat p) (spelled b taken) (section h.0)))
still_list s p b c (Err e) section taken h = rw h.1 taken

pub adds : (s : Section) (p : Parts) (b c : List ℕ) (r : Result (Unit {0}) Error) → (Fits p → section_format.Spells s (flat p)) → is_taken (whole krl_format.read b) ≡ true → Appends p b r c → Adds s p b r c
adds s p b c (Ok x) section taken h = (ap krl_in h.1 ∙ spelled_is _ _ (grown (krl_in b) s b (flat p) (spelled b taken) (section h.0)), h.1)
adds s p b c (Err e) section taken h = h

-- ---- bytes after others

abbrev sink : List ℕ → Sink
sink b = record { written = b; limit = None }

pub wrote : (p : Parts) (b c : List ℕ) → Written p (sink b) (sink c) → Fits p × (c ≡ b ++ flat p)
unfolding after
wrote p b c w = (w.0, ap (λ (s : Sink). s.written) w.1)

pub cut_back : (p : Parts) (b c d : List ℕ) (n : ℕ) (e : narrow.Error) → BoxesFit p → NotWritten (λ own. own ≡ encoding.Memory) p (sink b) e (sink c) → n ≡ length b → d ≡ take n c → RefusesToWrite p wide.Memory × (d ≡ b)
unfolding NotWritten
cut_back p b c d n e fit (inl long) len is = absurd (long.misfit fit)
cut_back p b c d n e fit (inr stopped) len is = (inr (fit, refl), is ∙ rw (len, stopped.prefix.added) (take-append_seam b (take stopped.prefix.count (flat p))))

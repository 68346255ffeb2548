-- Worked examples, on both sides of each edge.
use Rattle.std.specs.Prelude.{◌≡◌, ℕ, List, [], ◌∷◌, ◌++◌, true, false, filter, codes}
use Rattle.sshkey_model.specs.HexText.{hex}
use Rattle.sshkey_model.specs.PrivateKeys.{rising}
use Rattle.sshkey_entries.specs.AuthorizedKeys.{is_option_character}
use Rattle.sshkey_entries.specs.Entries.{entries}
use Rattle.sshkey_entries.specs.Fields.{CutsWord, is_white, without_white, is_inside}
use Rattle.sshkey_entries.specs.Items.{items, patterns}
use Rattle.sshkey_entries.specs.KnownHosts.{hashed_text}
use Rattle.sshkey_entries.specs.OtherKeys.{IsFormerName}

abbrev line_end : List ℕ
line_end = 10 ∷ []

-- one on each line, with or without a line end at the last; a carriage return before a line end is
-- cut
abbrev pub Lines : Type 0
Lines = (entries (codes "a" ++ line_end ++ codes "b") ≡ codes "a" ∷ codes "b" ∷ [])
    × (entries (codes "a" ++ (13 ∷ 10 ∷ codes "b") ++ line_end) ≡ codes "a" ∷ codes "b" ∷ [])
    × (entries [] ≡ [])

-- A comment is cut, wherever its `#` stands, and white space before it and at the end, also a
-- no-break space; at the front it stays. What is empty then is no entry.
abbrev pub CommentCuts : Type 0
CommentCuts = (entries (codes "a #b#c") ≡ codes "a" ∷ [])
    × (entries (codes "#a" ++ line_end ++ (32 ∷ 9 ∷ []) ++ line_end ++ line_end ++ codes "b") ≡ codes "b" ∷ [])
    × (entries (codes "  a  ") ≡ codes "  a" ∷ [])
    × (entries (codes "a" ++ hex "c2a0") ≡ codes "a" ∷ [])
    × (entries (codes "\"a#b\" c") ≡ codes "\"a" ∷ [])

-- A quoted comma parts nothing, quotes may stay open, and only a last empty item is left out.
abbrev pub Items : Type 0
Items = (items (codes "foo=\"bar,baz\"") ≡ codes "foo=\"bar,baz\"" ∷ [])
    × (items (codes "a,b") ≡ codes "a" ∷ codes "b" ∷ [])
    × (items (codes "a\"b\"c,d") ≡ codes "a\"b\"c" ∷ codes "d" ∷ [])
    × (items (codes "a\"b,c") ≡ codes "a\"b,c" ∷ [])
    × (items (codes "a,") ≡ codes "a" ∷ [])
    × (items (codes "a,,b") ≡ codes "a" ∷ [] ∷ codes "b" ∷ [])
    × (items (codes ",") ≡ [] ∷ [])
    × (items [] ≡ [])

-- the same without quotes
abbrev pub Patterns : Type 0
Patterns = (patterns (codes "cvs.example.net,!test.example.???,[*.example.net]:999") ≡ codes "cvs.example.net" ∷ codes "!test.example.???" ∷ codes "[*.example.net]:999" ∷ [])
    × (patterns (codes "\"a,b\",") ≡ codes "\"a" ∷ codes "b\"" ∷ [])
    × (patterns (codes ",") ≡ [] ∷ [])

-- Of all bytes, those that options may have.
abbrev pub Characters : Type 0
Characters = filter is_option_character (rising 0 256) ≡ codes "!\"#$%&'()*+,-./0123456789:;<=>?@ABCDEFGHIJKLMNOPQRSTUVWXYZ[\\]^_abcdefghijklmnopqrstuvwxyz{|}~"

-- a hashed name
abbrev pub HashedName : Type 0
HashedName = hashed_text (hex "25f29374187bacd6d7915010091a78390a0f7e62") (hex "512102af74967f52543ec9ace40a9f0f941fc643") ≡ codes "|1|JfKTdBh7rNbXkVAQCRp4OQoPfmI=|USECr3SWf1JUPsms5AqfD5QfxkM="

-- The first space of the first line is quoted, and that of the others is not: a quote that follows
-- a backslash is none.
abbrev pub Quoted : Type 0
Quoted = (is_inside (codes "c=\"x ssh-rsa A y\" ssh-rsa B z") 4 ≡ true)
    × (is_inside (codes "c=\"x\" ssh-rsa B z") 5 ≡ false)
    × (is_inside (codes "c=\\\"x ssh-rsa B z") 5 ≡ false)

-- White space that ends no field is passed over within Base64 (isspace(3)): a vertical tab, a form
-- feed and a carriage return. What ends a field or a line is not, nor is another control character.
abbrev pub WhiteSpace : Type 0
WhiteSpace = (is_white 0x0b ≡ true) × (is_white 0x0c ≡ true) × (is_white 0x0d ≡ true)
    × (is_white 0x08 ≡ false) × (is_white 0x09 ≡ false) × (is_white 0x0a ≡ false) × (is_white 0x0e ≡ false) × (is_white 0x20 ≡ false)

-- At the end of a field it is not part of the word, however much stands there; within one it is.
abbrev pub WordEnds : Type 0
WordEnds = (without_white (codes "AA\rAA" ++ (0x0b ∷ 0x0c ∷ 0x0d ∷ 0x0d ∷ [])) ≡ codes "AA\rAA")
    × (without_white (codes "AAAA") ≡ codes "AAAA")
    × (without_white (codes "AAAA\n") ≡ codes "AAAA\n")
    × (without_white (codes "\r") ≡ [])
    × CutsWord (codes "AAAA\r\t me\r") (codes "AAAA") (codes "\t me\r")
    × ((rest : List ℕ) → CutsWord (codes "AAAA\rme") (codes "AAAA") rest → ⊥)

-- XMSS and its certificates. The name of WebAuthn is none: OpenSSH reads a security key under it.
abbrev pub FormerNames : Type 0
FormerNames = IsFormerName (codes "ssh-xmss@openssh.com")
    × IsFormerName (codes "ssh-xmss-cert-v01@openssh.com")
    × ¬ IsFormerName (codes "ssh-xmss")
    × ¬ IsFormerName (codes "webauthn-sk-ecdsa-sha2-nistp256@openssh.com")

-- Worked examples of match_pattern and match_pattern_list of OpenSSH (match.c; ssh_config(5),
-- "PATTERNS"), on both sides of each edge. A row is a pattern, or a list of them, and a text.
use Rattle.std.specs.Prelude.{ℕ, List, [], ◌∷◌, ◌++◌, codes, replicate}
use Rattle.std.specs.List.{All}
use Rattle.sshkey_matching.specs.Patterns.{fold_of, Matches, MatchesList}
use Rattle.sshkey_matching.specs.declared.pattern.LetterCase.{LetterCase}
use Rattle.sshkey_matching.specs.declared.pattern.LetterCase.TheVariants.{Sensitive, Insensitive}

abbrev pub Row : Type 0
Row = List ℕ × List ℕ

abbrev pub AllMatch : LetterCase → List Row → Type 0
AllMatch letter_case rows = All (λ r. Matches (fold_of letter_case) r.0 r.1) rows

abbrev pub NoneMatch : LetterCase → List Row → Type 0
NoneMatch letter_case rows = All (λ r. ¬ Matches (fold_of letter_case) r.0 r.1) rows

-- ---- a pattern

abbrev pub matched : List Row
matched =
    ([], [])
    ∷ (codes "*", [])
    ∷ (codes "*", codes "a,!b")
    ∷ (codes "**", codes "a")
    ∷ (codes "*.co.uk", codes ".co.uk")
    ∷ (codes "*.co.uk", codes "www.co.uk")
    ∷ (codes "*.co.uk", codes "a.co.uk.co.uk")
    ∷ (codes "192.168.0.?", codes "192.168.0.7")
    ∷ (codes "*?", codes "a")
    ∷ (codes "a*b?c*", codes "axbb.c")
    ∷ (codes "!a", codes "!a")
    ∷ []

abbrev pub unmatched : List Row
unmatched =
    ([], codes "a")
    ∷ (codes "a", [])
    ∷ (codes "a", codes "ab")
    ∷ (codes "?", [])
    ∷ (codes "192.168.0.?", codes "192.168.0.")
    ∷ (codes "192.168.0.?", codes "192.168.0.10")
    ∷ (codes "*.co.uk", codes "co.uk")
    ∷ (codes "*.co.uk", codes "www.co.uk.")
    ∷ (codes "*?", [])
    ∷ (codes "a", codes "*")
    ∷ (codes "!a", codes "b")
    ∷ []

abbrev pub Patterns : Type 0
Patterns = AllMatch Sensitive matched × NoneMatch Sensitive unmatched

-- ---- letters

-- that differ in their case
abbrev pub cases : List Row
cases = (codes "A", codes "a") ∷ (codes "z", codes "Z") ∷ (codes "*.Co.uK", codes "WWW.cO.Uk") ∷ []

-- and what stands next to the letters, and letters beyond ASCII (tolower(3) in the locale C)
abbrev pub others : List Row
others = (codes "@", codes "`") ∷ (codes "[", codes "{") ∷ (0xc3 ∷ 0x89 ∷ [], 0xc3 ∷ 0xa9 ∷ []) ∷ []

abbrev pub Letters : Type 0
Letters = AllMatch Insensitive cases × NoneMatch Sensitive cases × NoneMatch Insensitive others

-- ---- a list

-- PatternLists for a text: of the page, of empty patterns, and of 1,022 bytes.
abbrev pub listed : List Row
listed =
    (codes "!*.dialup.example.com,*.example.com", codes "host.example.com")
    ∷ (codes "!host1,!host2,*", codes "host3")
    ∷ (codes "*,!host1", codes "host2")
    ∷ (codes "a,b,c", codes "b")
    ∷ (codes "a,", codes "a")
    ∷ (codes ",", [])
    ∷ (codes ",a", [])
    ∷ (codes "a,,b", [])
    ∷ (codes "*,!", codes "a")
    ∷ (codes "!!a,*", codes "a")
    ∷ (codes "a!,b", codes "a!")
    ∷ (codes "!EVIL,*", codes "evil")
    ∷ (codes "a," ++ replicate 1022 0x62, codes "a")
    ∷ (codes "a,!" ++ replicate 1022 0x62, codes "a")
    ∷ []

-- and lists that are not. A negated pattern alone is for no text.
abbrev pub unlisted : List Row
unlisted =
    (codes "!*.dialup.example.com,*.example.com", codes "a.dialup.example.com")
    ∷ (codes "!*.dialup.example.com,*.example.com", codes "example.com")
    ∷ (codes "!host1,!host2", codes "host3")
    ∷ (codes "!host1,!host2,*", codes "host2")
    ∷ (codes "*,!host1", codes "host1")
    ∷ (codes "a,b", codes "a,b")
    ∷ ([], [])
    ∷ (codes "a,", [])
    ∷ (codes "*,!", [])
    ∷ (codes "!", [])
    ∷ (codes "!!a,*", codes "!a")
    ∷ (codes "a;b", codes "b")
    ∷ (codes "a," ++ replicate 1023 0x62, codes "a")
    ∷ (codes "a,!" ++ replicate 1023 0x62, codes "a")
    ∷ []

abbrev pub PatternLists : Type 0
PatternLists = All (λ r. MatchesList (fold_of Sensitive) r.0 r.1) listed
    × All (λ r. ¬ MatchesList (fold_of Sensitive) r.0 r.1) unlisted
    × ¬ MatchesList (fold_of Insensitive) (codes "!EVIL,*") (codes "evil")

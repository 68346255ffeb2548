-- Worked examples of lines that are held: hashes of names, which are the values that the authors of
-- FNV-1a give, and lines that say something of a host, or nothing.
use Rattle.std.specs.Prelude.{◌≡◌, ◌+◌, ℕ, [], ◌∷◌, None, codes, length}
use Rattle.sshkey_known_hosts.specs.Examples.{broken_line, by_line, host, line, revoking}
use Rattle.sshkey_known_hosts.specs.HeldNames.{IsAmong, MayBeFor, SayNothing, TellsNames, fnv_step, name_hash}
use Rattle.sshkey_known_hosts.specs.Hmac.{hmac_sha1}
use Rattle.sshkey_known_hosts.specs.HeldLines.{ArePlacesOf, total_length, SaySame}
use Rattle.sshkey_known_hosts.specs.declared.places.LinePlace.{LinePlace}

-- of no bytes, of `a`, and of `foobar` in whichever letters
abbrev pub NameHashes : Type 0
NameHashes = (name_hash [] ≡ 0xcbf29ce484222325)
    × (fnv_step 0xcbf29ce484222325 0x61 ≡ 0xaf63dc4c8601ec8c)
    × (name_hash (codes "a") ≡ 0xaf63dc4c8601ec8c)
    × (name_hash (codes "FooBar") ≡ 0x85944171f73967e8)
    × IsAmong 7 5
    × ¬ IsAmong 6 5

-- With every bit a line may be for anybody, and with none for nobody, as an empty text is.
abbrev pub ToldNames : Type 0
ToldNames = MayBeFor 0xffffffffffffffff (line None host)
    × ¬ MayBeFor 0 (line None host)
    × TellsNames 0 []
    × ¬ TellsNames 0 (line None host)
    × SayNothing hmac_sha1 host (line None (codes "g.example") ∷ [])
    × ¬ SayNothing hmac_sha1 host (line None host ∷ [])
    × ¬ SayNothing hmac_sha1 host (broken_line ∷ [])

-- A line for another may be left out, and none that lists the host's key, revokes it, is its
-- authority's, or cannot be read.
abbrev pub SameLines : Type 0
SameLines = SaySame hmac_sha1 host (line None (codes "g.example") ∷ line None host ∷ []) (line None host ∷ [])
    × ¬ SaySame hmac_sha1 host (line None host ∷ []) []
    × ¬ SaySame hmac_sha1 host (revoking ∷ []) []
    × ¬ SaySame hmac_sha1 host (by_line ∷ []) []
    × ¬ SaySame hmac_sha1 host (broken_line ∷ []) []

-- a place of a line that may be for anybody
abbrev pub place : ℕ → LinePlace
place size = record { length = size; names = 0xffffffffffffffff }

-- Places go over a whole text and no further, never through a line, and tell its names.
abbrev pub Places : Type 0
Places = (total_length (place 3 ∷ place 4 ∷ []) ≡ 7)
    × ArePlacesOf [] []
    × ¬ ArePlacesOf [] (line None host)
    × ArePlacesOf (place (length (line None host)) ∷ []) (line None host)
    × ¬ ArePlacesOf (place (length (line None host) + 1) ∷ []) (line None host)
    × ¬ ArePlacesOf (place 1 ∷ place 1 ∷ []) (codes "ab")
    × ¬ ArePlacesOf (record { length = length (line None host); names = 0 } ∷ []) (line None host)

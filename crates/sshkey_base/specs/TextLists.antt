-- Lists of texts.
use Rattle.std.specs.Prelude.{ℕ, List, map, String, Vec, string_bytes}

-- the texts that the strings hold
abbrev pub texts_of : {Y Z : Type 0} → Vec (String Y) Z → List (List ℕ)
texts_of v = map string_bytes v.items

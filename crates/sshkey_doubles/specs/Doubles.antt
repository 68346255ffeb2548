-- What the test doubles accept.
use Rattle.std.specs.Prelude.{ℕ, List, Bool, ◌&&◌, bytes_eq}
use Rattle.sshkey_model.specs.Names.{Algorithm, algorithm_name}
use Rattle.sshkey_model.specs.Verification.{Question}

-- this algorithm, message and bytes, whatever the key
abbrev pub is_asked : Algorithm → List ℕ → List ℕ → Question → Bool
is_asked algorithm message blob q = bytes_eq (algorithm_name algorithm) (algorithm_name q.algorithm) && bytes_eq message q.message && bytes_eq blob q.blob

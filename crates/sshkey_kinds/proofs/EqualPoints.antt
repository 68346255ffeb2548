-- Points are equal exactly where their lengths and their arrays are, since zeros follow the bytes
-- of each.
use Rattle.std.proofs.Common.{◌≡◌, ℕ, ◌-◌, ◌++◌, true, length, take, replicate, ◌∙◌, sym, ap, arith}
use Rattle.std.specs.Str.{bytes_eq}
use Rattle.std.proofs.lemmas.List.{take-append-drop, length-take-le}
use Rattle.std.proofs.lemmas.Slice.Eq.{bytes_eq-Decides}
use Rattle.std.proofs.lemmas.Bool.Decides.{same_from_decides}
use Rattle.sshkey_kinds.specs.declared.ec_point.EcPoint.{EcPoint}
use Rattle.sshkey_kinds.specs.EcPoint.{point_of}

module _ {n : ℕ} where
  zeros_after : (p : EcPoint n) → p.bytes ≡ point_of p ++ replicate (n - p.len) 0
  zeros_after p = sym (take-append-drop p.len p.bytes) ∙ ap (λ zeros. take p.len p.bytes ++ zeros) p.zeros

  pub same_arrays : (p q : EcPoint n) → p.len ≡ q.len → bytes_eq p.bytes q.bytes ≡ bytes_eq (point_of p) (point_of q)
  same_arrays p q len = same_from_decides _ _ (of_points, of_arrays) (bytes_eq-Decides (point_of p) (point_of q))
    where
      of_points : bytes_eq p.bytes q.bytes ≡ true → point_of p ≡ point_of q
      of_points same = let e = (bytes_eq-Decides p.bytes q.bytes).0 same in λ i. take (len i) (e i)

      of_arrays : point_of p ≡ point_of q → bytes_eq p.bytes q.bytes ≡ true
      of_arrays e = (bytes_eq-Decides p.bytes q.bytes).1 (zeros_after p ∙ (λ i. e i ++ replicate (n - len i) 0) ∙ sym (zeros_after q))

  its_length : (p : EcPoint n) → length p.bytes ≡ n → length (point_of p) ≡ p.len
  its_length p size = length-take-le p.len p.bytes (omega (arith, size, p.within))

  pub same_lengths : (p q : EcPoint n) → length p.bytes ≡ n → length q.bytes ≡ n → point_of p ≡ point_of q → p.len ≡ q.len
  same_lengths p q size other e = sym (its_length p size) ∙ ap length e ∙ its_length q other

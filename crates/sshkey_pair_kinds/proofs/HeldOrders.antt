-- Pairs of security keys are ordered by the public key, and then by what is kept of it.
use Rattle.std.proofs.Common.{◌≡◌, refl, ◌∙◌}
use Rattle.std.specs.declared.cmp.Ordering.{Ordering}
use Rattle.std.specs.declared.cmp.Ordering.TheVariants.{Less, Equal, Greater}
use Rattle.std.specs.Ordering.{nat_cmp, ordering_then}
use Rattle.sshkey_base.specs.Comparisons.{bytes_cmp}
use Rattle.sshkey_base.proofs.Comparisons.{after, last_of_all}
use Rattle.sshkey_pair_kinds.specs.declared.held.Held.{Held}

-- three parts, the first as a list of one number
three_parts : (f h r : Ordering) → ordering_then f (ordering_then h r) ≡ ordering_then (ordering_then f Equal) (ordering_then h (ordering_then r Equal))
three_parts f h r = rw (last_of_all f, last_of_all r) refl

-- two parts, and what follows them
two_parts : (p a o : Ordering) → ordering_then (ordering_then p (ordering_then a Equal)) o ≡ ordering_then p (ordering_then a o)
two_parts Less a o = refl
two_parts Greater a o = refl
two_parts Equal Less o = refl
two_parts Equal Greater o = refl
two_parts Equal Equal o = refl

abbrev flags : Held → Held → Ordering
flags x y = nat_cmp x.flags y.flags

abbrev handle : Held → Held → Ordering
handle x y = bytes_cmp x.key_handle.0 y.key_handle.0

abbrev reserved : Held → Held → Ordering
reserved x y = bytes_cmp x.reserved.0 y.reserved.0

-- the public key is compared as its two parts
pub parts_in_order : (x y : Held) (k p a : Ordering) → k ≡ ordering_then p (ordering_then a Equal) → ordering_then k (ordering_then (flags x y) (ordering_then (handle x y) (reserved x y))) ≡ ordering_then p (ordering_then a (ordering_then (ordering_then (flags x y) Equal) (ordering_then (handle x y) (ordering_then (reserved x y) Equal))))
parts_in_order x y k p a is = after is (three_parts (flags x y) (handle x y) (reserved x y)) ∙ two_parts p a _

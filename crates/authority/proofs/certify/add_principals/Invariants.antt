use Rattle.std.proofs.Common.{◌≡◌, map}
use Rattle.std.specs.Prelude.{string_bytes}
use Rattle.std.specs.Vec.Iter.{into_iter_items}
use Rattle.ssh_key.specs.cert_builder.Builders.{draft_of}
use Rattle.ssh_key.specs.model.Drafts.{Principal, after_steps}
use Rattle.authority.proofs.certify.add_principals.Given as goal

-- the steps that are left lead to the same draft
abbrev pub invariant-loop-principal : goal.invariant-loop-principal
invariant-loop-principal l = after_steps (map Principal (map string_bytes (into_iter_items l.principal-iterator))) (draft_of l.builder) ≡ after_steps (map Principal (map string_bytes l.fn.principals.items)) (draft_of l.initial.builder)

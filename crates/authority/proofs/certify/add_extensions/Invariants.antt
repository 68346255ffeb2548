use Rattle.std.proofs.Common.{◌≡◌, map}
use Rattle.std.specs.Prelude.{string_bytes}
use Rattle.std.specs.Vec.Iter.{into_iter_items}
use Rattle.ssh_key.specs.cert_builder.Builders.{draft_of}
use Rattle.ssh_key.specs.model.Drafts.{after_steps}
use Rattle.authority.specs.Issuance.{added}
use Rattle.authority.proofs.certify.add_extensions.Given as goal

-- the steps that are left lead to the same draft
abbrev pub invariant-loop-name : goal.invariant-loop-name
invariant-loop-name l = after_steps (map added (map string_bytes (into_iter_items l.name-iterator))) (draft_of l.builder) ≡ after_steps (map added (map string_bytes l.fn.names.items)) (draft_of l.initial.builder)

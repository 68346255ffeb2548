use Rattle.std.proofs.Common.{ℕ, List, refl}
use Rattle.ssh_key.specs.model.Leaves.{number32_format, string_format}
use Rattle.ssh_key.specs.model.Texts.{text_format}
use Rattle.ssh_key.specs.model.Terms.{◌then◌}
use Rattle.ssh_key.proofs.Places.{later_none}
use Rattle.agent.specs.Records.{Confirm, Extension, Lifetime, constraint_of}
use Rattle.agent.specs.declared.constraint.Constraint.TheVariants as constraints
use Rattle.agent.proofs.Frames.{held_reads, held_refused, nothing_reads}
use Rattle.agent.proofs.constraint.constraint_from.Goals as goal

pub returns-in_err-seconds-in-Lifetime : goal.returns-in_err-seconds-in-Lifetime
returns-in_err-seconds-in-Lifetime g c =
    let e = c.in_err-seconds-in-Lifetime.ensures in
    let h = held_refused number32_format Lifetime constraint_of _ _ _ _ c.from_residual.ensures.1 e.gives e.asks e.past in
    rw c.in-Lifetime.is (record { gives = h.0; later = e.later; asks = h.1; past = h.2 })

pub returns-in_ok-seconds-in-Lifetime : goal.returns-in_ok-seconds-in-Lifetime
returns-in_ok-seconds-in-Lifetime g c =
    let e = c.in_ok-seconds-in-Lifetime.ensures in
    rw c.in-Lifetime.is (record { gives = held_reads number32_format Lifetime constraint_of _ _ _ _ _ e.gives refl; later = e.later; asks = tt; past = tt })

pub returns-in-Confirm : goal.returns-in-Confirm
returns-in-Confirm g c = rw c.in-Confirm.is (record { gives = nothing_reads constraint_of Confirm constraints.Confirm _ refl; later = later_none _; asks = tt; past = tt })

pub returns-in_err-name-in-Extension : goal.returns-in_err-name-in-Extension
returns-in_err-name-in-Extension g c =
    let e = c.in_err-name-in-Extension.ensures in
    let h = held_refused (text_format then string_format) (λ (e : List ℕ × List ℕ). Extension e.0 e.1) constraint_of _ _ _ _ c.from_residual-in_err-name-in-Extension.ensures.1 e.gives e.asks e.past in
    rw c.in-Extension.is (record { gives = h.0; later = e.later; asks = h.1; past = h.2 })

pub returns-in_ok-name-in-Extension : goal.returns-in_ok-name-in-Extension
returns-in_ok-name-in-Extension g c =
    let e = c.in_ok-name-in-Extension.ensures in
    rw c.in-Extension.is (record { gives = held_reads (text_format then string_format) (λ (e : List ℕ × List ℕ). Extension e.0 e.1) constraint_of _ _ _ _ _ e.gives refl; later = e.later; asks = tt; past = tt })

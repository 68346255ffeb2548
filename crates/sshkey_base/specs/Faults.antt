-- Faults of the machine.
use Rattle.sshkey_base.specs.declared.error.Error.{Error}
use Rattle.sshkey_base.specs.declared.error.Error.TheVariants as wide

-- out of memory, or a fault of what is read or written
abbrev pub IsMachineFault : Error → Type 0
IsMachineFault wide.Memory = Unit {0}
IsMachineFault (wide.Io kind) = Unit {0}
IsMachineFault _ = ⊥

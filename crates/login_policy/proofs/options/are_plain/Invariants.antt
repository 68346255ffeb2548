use Rattle.std.proofs.Common.{map}
use Rattle.sshkey_cert_values.specs.CertificateFields.{option_of, options_of}
use Rattle.login_policy.specs.KnownOptions.{IsPlainExtension}
use Rattle.login_policy.proofs.KnownOptions.{Decides}
use Rattle.login_policy.proofs.options.are_plain.Given as goal

-- the rest decides
abbrev pub invariant-loop-name : goal.invariant-loop-name
invariant-loop-name l =
    (goal.iterator-loop-name).can_next l.name-iterator ×
    (goal.iterator-loop-name).is_finite l.name-iterator ×
    Decides IsPlainExtension (options_of l.fn.extensions) (map option_of l.name-iterator)

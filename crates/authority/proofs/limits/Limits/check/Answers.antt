use Rattle.std.proofs.Common.{◌≡◌, ◌∙◌, sym, true}
use Rattle.std.specs.Prelude.{string_bytes}
use Rattle.ssh_key.specs.keys.Keys.{key_of}
use Rattle.ssh_key.specs.model.Lines.{IsWithout}
use Rattle.authority.specs.Issuance.{IsCertifiable, AreAllowed, ArePermitted, HasAllowedWindow, OtherExtensions, OtherKey, OtherKeyId, OtherUsers, OtherWindow}
use Rattle.authority.proofs.Lists.{each_allowed, without_zero}
use Rattle.authority.proofs.limits.Limits.check.Goals as goal

pub returns-then-not-allow : goal.returns-then-not-allow
returns-then-not-allow c =
    let none : IsCertifiable c.args.self.now.kinds (key_of c.args.request.now.key) → ⊥ = λ certifiable.
    let yes : c.allow.result ≡ true = c.allow.ensures.1 certifiable in
    absurd cc in
    record { exactly = λ other within. none within.key; refused = OtherKey none }

pub returns-then-not-is_without_zero : goal.returns-then-not-is_without_zero
returns-then-not-is_without_zero c =
    let key = c.allow.ensures.0 c.if-not-allow.false in
    let none : IsWithout 0 (string_bytes c.args.request.now.key_id) → ⊥ = λ no_zero.
    let yes : c.is_without_zero.result ≡ true = c.is_without_zero.ensures ∙ (without_zero c.as_str.result.now).1 (rw c.as_str.ensures.value no_zero) in
    absurd cc in
    record { exactly = λ other within. none within.key_id; refused = OtherKeyId key none }

pub returns-then-not-allows_principals : goal.returns-then-not-allows_principals
returns-then-not-allows_principals c =
    let key = c.allow.ensures.0 c.if-not-allow.false in
    let key_id = rw c.as_str.ensures.value at ((without_zero c.as_str.result.now).0 (sym c.is_without_zero.ensures ∙ c.if-not-is_without_zero.false)) in
    let none : AreAllowed c.args.self.now c.args.request.now → ⊥ = λ allowed.
    let yes : c.allows_principals.result ≡ true = c.allows_principals.ensures.1 (rw c.deref.ensures.value allowed) in
    absurd cc in
    record { exactly = λ other within. none within.users; refused = OtherUsers key key_id none }

pub returns-then-not-allows_each : goal.returns-then-not-allows_each
returns-then-not-allows_each c =
    let key = c.allow.ensures.0 c.if-not-allow.false in
    let key_id = rw c.as_str.ensures.value at ((without_zero c.as_str.result.now).0 (sym c.is_without_zero.ensures ∙ c.if-not-is_without_zero.false)) in
    let names = rw c.deref.ensures.value at (c.allows_principals.ensures.0 c.if-not-allows_principals.false) in
    let none : ArePermitted c.args.self.now c.args.request.now → ⊥ = λ permitted.
    let yes : c.allows_each.result ≡ true = (each_allowed c.deref-3.result.now c.deref-2.result.now c.allows_each.result c.allows_each.ensures).1 (rw (c.deref-2.ensures.value, c.deref-3.ensures.value) permitted) in
    absurd cc in
    record { exactly = λ other within. none within.extensions; refused = OtherExtensions key key_id names none }

pub returns-then-not-allows_window : goal.returns-then-not-allows_window
returns-then-not-allows_window c =
    let key = c.allow.ensures.0 c.if-not-allow.false in
    let key_id = rw c.as_str.ensures.value at ((without_zero c.as_str.result.now).0 (sym c.is_without_zero.ensures ∙ c.if-not-is_without_zero.false)) in
    let names = rw c.deref.ensures.value at (c.allows_principals.ensures.0 c.if-not-allows_principals.false) in
    let extensions = rw (c.deref-2.ensures.value, c.deref-3.ensures.value) at ((each_allowed c.deref-3.result.now c.deref-2.result.now c.allows_each.result c.allows_each.ensures).0 c.if-not-allows_each.false) in
    let none : HasAllowedWindow c.args.self.now c.args.unix_timestamp c.args.request.now → ⊥ = λ room.
    let yes : c.allows_window.result ≡ true = c.allows_window.ensures.1 room in
    absurd cc in
    record { exactly = λ other within. none within.window; refused = OtherWindow key key_id names extensions none }

pub returns-clause-exactly : goal.returns-clause-exactly
returns-clause-exactly c =
    record {
      key = c.allow.ensures.0 c.if-not-allow.false;
      key_id = rw c.as_str.ensures.value at ((without_zero c.as_str.result.now).0 (sym c.is_without_zero.ensures ∙ c.if-not-is_without_zero.false));
      users = rw c.deref.ensures.value at (c.allows_principals.ensures.0 c.if-not-allows_principals.false);
      extensions = rw (c.deref-2.ensures.value, c.deref-3.ensures.value) at ((each_allowed c.deref-3.result.now c.deref-2.result.now c.allows_each.result c.allows_each.ensures).0 c.if-not-allows_each.false);
      window = c.allows_window.ensures.0 c.if-not-allows_window.false;
    }

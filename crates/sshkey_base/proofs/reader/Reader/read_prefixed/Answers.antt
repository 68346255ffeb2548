use Rattle.std.proofs.Common.{rules, arith, inl, inr, refl, ◌≡◌}
use Rattle.std.proofs.lemmas.Result.{err_from_is_err_and}
use Rattle.sshkey_base.specs.Nested.{nested_source}
use Rattle.sshkey_base.proofs.Steps.{not_refused}
use Rattle.sshkey_base.proofs.Places.{leaves_later}
use Rattle.sshkey_base.proofs.reader.Reader.read_prefixed.Goals as goal

pub returns-in_err-len-clause-calls : goal.returns-in_err-len-clause-calls
returns-in_err-len-clause-calls g c =
    let p = err_from_is_err_and c.from_residual.result c.from_residual.ensures.1 in
    rw p.1 (inl (record { met = c.in_err-len.field-0.0; refused = c.in_err-len.ensures.gives; is = p.2 }))

pub returns-then-remaining_len-len-clause-calls : goal.returns-then-remaining_len-len-clause-calls
returns-then-remaining_len-len-clause-calls g c =
    inr (inl (record { len = c.in_ok-len.len; after = g.Self.Reader.source c.length_from.new.reader; number = c.in_ok-len.ensures.gives; past = omega arith; is = c.from.ensures }))

pub returns-in_err-value-clause-calls : goal.returns-in_err-value-clause-calls
returns-in_err-value-clause-calls g c =
    let p = err_from_is_err_and c.from_residual-in_err-value.result c.from_residual-in_err-value.ensures.1 in
    rw (p.1, p.2) (inr (inr (inl (record { len = c.in_ok-len.len; after = g.Self.Reader.source c.length_from.new.reader; number = c.in_ok-len.ensures.gives; within = omega arith; name = _; given = _; left = _; starts = refl; met = c.in_err-value.ensures }))))

pub returns-then-remaining-gt0-clause-calls : goal.returns-then-remaining-gt0-clause-calls
returns-then-remaining-gt0-clause-calls g c =
    inr (inr (inr (record {
      value = c.in_ok-value.value;
      calls = record { len = c.in_ok-len.len; after = g.Self.Reader.source c.length_from.new.reader; number = c.in_ok-len.ensures.gives; within = omega arith; name = _; given = _; left = _; starts = refl; met = c.in_ok-value.ensures };
      other = c.f.new.arg2.inner.ghost_name;
      rest = c.f.new.arg2.remaining;
      now = g.Self.Reader.source c.f.new.arg2.inner.now;
      ends = refl;
      some = omega arith;
      is = c.from-then-remaining-gt0.ensures;
    })))

pub returns-clause-calls : goal.returns-clause-calls
returns-clause-calls g c =
    let zero_rest : c.f.new.arg2.remaining ≡ 0 = omega arith in
    record {
      calls = record { len = c.in_ok-len.len; after = g.Self.Reader.source c.length_from.new.reader; number = c.in_ok-len.ensures.gives; within = omega arith; name = _; given = _; left = _; starts = refl; met = c.in_ok-value.ensures };
      other = c.f.new.arg2.inner.ghost_name;
      now = g.Self.Reader.source c.f.new.arg2.inner.now;
      ends = rw zero_rest refl;
      same = search rules;
    }

pub returns-in_err-len-clause-past : goal.returns-in_err-len-clause-past
returns-in_err-len-clause-past g c = λ n rest e lt. absurd (not_refused _ _ _ _ c.in_err-len.ensures.gives e)

pub returns-in_err-value-clause-later : goal.returns-in_err-value-clause-later
returns-in_err-value-clause-later g c =
    leaves_later g.F.FnOnce (nested_source g.Self.Reader.source) c.args.f (g.Self.Reader.source c.args.self.now) (g.Self.Reader.source c.in_err-value.self-1-own.given.0) (record {
      after = g.Self.Reader.source c.length_from.new.reader;
      later = c.in_ok-len.ensures.later;
      called = record { name = _; len = c.in_ok-len.len; given = _; left = _; gave = _; starts = refl; met = c.in_err-value.ensures };
      other = c.f.new.arg2.inner.ghost_name;
      rest = c.f.new.arg2.remaining;
      now = g.Self.Reader.source c.f.new.arg2.inner.now;
      ends = refl;
      same = search rules;
    })

pub returns-then-remaining-gt0-clause-later : goal.returns-then-remaining-gt0-clause-later
returns-then-remaining-gt0-clause-later g c =
    leaves_later g.F.FnOnce (nested_source g.Self.Reader.source) c.args.f (g.Self.Reader.source c.args.self.now) (g.Self.Reader.source c.self-2-1.given.0) (record {
      after = g.Self.Reader.source c.length_from.new.reader;
      later = c.in_ok-len.ensures.later;
      called = record { name = _; len = c.in_ok-len.len; given = _; left = _; gave = _; starts = refl; met = c.in_ok-value.ensures };
      other = c.f.new.arg2.inner.ghost_name;
      rest = c.f.new.arg2.remaining;
      now = g.Self.Reader.source c.f.new.arg2.inner.now;
      ends = refl;
      same = search rules;
    })

pub returns-clause-later : goal.returns-clause-later
returns-clause-later g c =
    leaves_later g.F.FnOnce (nested_source g.Self.Reader.source) c.args.f (g.Self.Reader.source c.args.self.now) (g.Self.Reader.source c.self-2-1.given.0) (record {
      after = g.Self.Reader.source c.length_from.new.reader;
      later = c.in_ok-len.ensures.later;
      called = record { name = _; len = c.in_ok-len.len; given = _; left = _; gave = _; starts = refl; met = c.in_ok-value.ensures };
      other = c.f.new.arg2.inner.ghost_name;
      rest = c.f.new.arg2.remaining;
      now = g.Self.Reader.source c.f.new.arg2.inner.now;
      ends = refl;
      same = search rules;
    })

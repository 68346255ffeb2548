use Rattle.std.proofs.Common.{None, refl}
use Rattle.user_keys.specs.declared.refusal.Reason.TheVariants.{Elsewhere, Expired}
use Rattle.publickey_login.specs.LoginExamples.{trusting_all}
use Rattle.publickey_login.specs.RefusalExamples.{at}
use Rattle.publickey_login.specs.Sources.{ArePassed, IsOfFirst, user_of}
use Rattle.publickey_login.specs.declared.grant.Source.TheVariants as source
use Rattle.publickey_login.proofs.RefusalExamples.{never_unlisted, nothing}
use Rattle.publickey_login.proofs.examples.refused_keys.Goals as goal

pub returns : goal.returns
unfolding IsOfFirst ArePassed
returns c = λ k over elsewhere both.
    let u = user_of trusting_all in (
      (at (source.AuthorizedKeys 0) 3 Expired, at (source.Command 0) 1 Elsewhere, (0, refl, both.third), (0, refl, both.first), refl),
      (None, at (source.Command 0) 1 Elsewhere, (nothing u k, tt), (0, refl, both.first), refl),
      (None, None, (nothing u k, tt), tt, refl),
      (λ a. never_unlisted u k over elsewhere both a.0 a.1 a.3 a.4),
      refl,
    )

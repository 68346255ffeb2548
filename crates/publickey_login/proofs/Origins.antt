-- What the searches say of a login.
use Rattle.std.proofs.Common.{◌≡◌, ◌≢◌, ◌∙◌, List, IsTrue, Option, Result, Ok, Err, ap, inl, inr, refl, subst, sym, true}
use Rattle.std.specs.Option.{option_or}
use Rattle.sshkey_model.specs.Certificates.{Certificate}
use Rattle.sshkey_model.specs.Keys.{Key}
use Rattle.sshkey_model.specs.Refusals.{has_trusted_authority}
use Rattle.user_keys.specs.UserLogins.{UserLogin}
use Rattle.user_keys.specs.declared.login.UserLogin as code
use Rattle.publickey_login.specs.Sources as logins
use Rattle.publickey_login.specs.Sources.{Files, InCertificate, Login, Principals, Text, AuthorityLine, Found, KeyLine, PrincipalLine, Sought, FilesGoOn, IsCertificateSource, IsKeySource, IsOfPrincipals, PrincipalsGoOn, user_of}
use Rattle.publickey_login.specs.Results.{AsksOf, OriginatesBy, SearchesIn, asked_of}
use Rattle.publickey_login.specs.Stops.{IsWhyNoKeySource, IsWhyNoSource, PrincipalsRefuseFirst, refusal_for}
use Rattle.publickey_login.specs.Values.{found_of, trusted_of}
use Rattle.publickey_login.specs.declared.grant.Source.{Source}
use Rattle.publickey_login.specs.declared.grant.Source.TheVariants as source
use Rattle.publickey_login.specs.declared.refusal.PublickeyRefusal.{PublickeyRefusal}
use Rattle.publickey_login.specs.declared.refusal.PublickeyRefusal.TheVariants as refusal
use Rattle.publickey_login.specs.declared.search.LineRefusal.{LineRefusal}
use Rattle.publickey_login.specs.declared.search.Origin.{Origin}
use Rattle.publickey_login.specs.declared.search.SourceVerdict.{SourceVerdict}
use Rattle.publickey_login.specs.declared.search.SourceVerdict.TheVariants as sources
use Rattle.publickey_login.specs.declared.search.TextList.{TextList}
use Rattle.publickey_login.specs.declared.search.TextList.TheVariants as list
use Rattle.publickey_login.specs.declared.trusted.Trusted.{Trusted}

module _ (l : Login) (u : code.UserLogin) (t : Trusted) (is : AsksOf l u t) where
  -- what is searched of the call's texts is searched of the login's
  pub searched : (texts : logins.Trusted → List Text) (s : Sought) (of : TextList) (result : Result SourceVerdict PublickeyRefusal) → SearchesIn (asked_of u) s of (texts (trusted_of t)) result → SearchesIn (user_of l) s of (texts l.trusted) result
  searched texts s of result a = subst (λ (v : UserLogin). SearchesIn v s of (texts l.trusted) result) is.user (subst (λ (x : logins.Trusted). SearchesIn (asked_of u) s of (texts x) result) is.trusted a)

  abbrev in_files : (s : Sought) (result : Result SourceVerdict PublickeyRefusal) → SearchesIn (asked_of u) s list.AuthorizedKeys (trusted_of t).authorized_keys result → SearchesIn (user_of l) s list.AuthorizedKeys l.trusted.authorized_keys result
  in_files s result a = searched (λ x. x.authorized_keys) s list.AuthorizedKeys result a

  abbrev in_command : (s : Sought) (result : Result SourceVerdict PublickeyRefusal) → SearchesIn (asked_of u) s list.Command (trusted_of t).command_keys result → SearchesIn (user_of l) s list.Command l.trusted.command_keys result
  in_command s result a = searched (λ x. x.command_keys) s list.Command result a

  -- ---- a key

  module _ (k : Key) where
    pub key_in_files : (o : Origin) → SearchesIn (asked_of u) (KeyLine k) list.AuthorizedKeys (trusted_of t).authorized_keys (Ok (sources.Lets o)) → IsKeySource l k o.source (found_of o.line)
    key_in_files o a =
        let b = in_files (KeyLine k) (Ok (sources.Lets o)) a in
        subst (λ (s : Source). IsKeySource l k s (found_of o.line)) (sym b.1) b.2

    pub key_by_command : (first : Option LineRefusal) → SearchesIn (asked_of u) (KeyLine k) list.AuthorizedKeys (trusted_of t).authorized_keys (Ok (sources.Passes first)) → (o : Origin) → SearchesIn (asked_of u) (KeyLine k) list.Command (trusted_of t).command_keys (Ok (sources.Lets o)) → IsKeySource l k o.source (found_of o.line)
    key_by_command first goes o a =
        let b = in_command (KeyLine k) (Ok (sources.Lets o)) a in
        subst (λ (s : Source). IsKeySource l k s (found_of o.line)) (sym b.1) ((in_files (KeyLine k) (Ok (sources.Passes first)) goes).0, b.2)

    pub no_key_in_files : (r : PublickeyRefusal) → SearchesIn (asked_of u) (KeyLine k) list.AuthorizedKeys (trusted_of t).authorized_keys (Err r) → r ≢ refusal.Memory → IsWhyNoKeySource l k r
    no_key_in_files r a other = inl (in_files (KeyLine k) (Err r) a other)

    pub no_key_by_command : (first : Option LineRefusal) → SearchesIn (asked_of u) (KeyLine k) list.AuthorizedKeys (trusted_of t).authorized_keys (Ok (sources.Passes first)) → (r : PublickeyRefusal) → SearchesIn (asked_of u) (KeyLine k) list.Command (trusted_of t).command_keys (Err r) → r ≢ refusal.Memory → IsWhyNoKeySource l k r
    no_key_by_command first goes r a other = inr (inl ((in_files (KeyLine k) (Ok (sources.Passes first)) goes).0, in_command (KeyLine k) (Err r) a other))

    pub no_key_at_all : (first then : Option LineRefusal) → SearchesIn (asked_of u) (KeyLine k) list.AuthorizedKeys (trusted_of t).authorized_keys (Ok (sources.Passes first)) → SearchesIn (asked_of u) (KeyLine k) list.Command (trusted_of t).command_keys (Ok (sources.Passes then)) → IsWhyNoKeySource l k (refusal_for (option_or first then))
    no_key_at_all first then goes also =
        let files = in_files (KeyLine k) (Ok (sources.Passes first)) goes in
        let command = in_command (KeyLine k) (Ok (sources.Passes then)) also in
        inr (inr (files.0, command.0, (first, then, files.1, command.1, refl)))

  -- ---- a certificate

  module _ (c : Certificate) where
    abbrev files : (result : Result SourceVerdict PublickeyRefusal) → SearchesIn (asked_of u) (AuthorityLine c) list.AuthorizedKeys (trusted_of t).authorized_keys result → SearchesIn (user_of l) (AuthorityLine c) list.AuthorizedKeys l.trusted.authorized_keys result
    files result a = in_files (AuthorityLine c) result a

    abbrev command : (result : Result SourceVerdict PublickeyRefusal) → SearchesIn (asked_of u) (AuthorityLine c) list.Command (trusted_of t).command_keys result → SearchesIn (user_of l) (AuthorityLine c) list.Command l.trusted.command_keys result
    command result a = in_command (AuthorityLine c) result a

    pub certificate_in_files : (o : Origin) → SearchesIn (asked_of u) (AuthorityLine c) list.AuthorizedKeys (trusted_of t).authorized_keys (Ok (sources.Lets o)) → IsCertificateSource l c o.source (found_of o.line)
    certificate_in_files o a =
        let b = files (Ok (sources.Lets o)) a in
        subst (λ (s : Source). IsCertificateSource l c s (found_of o.line)) (sym b.1) b.2

    pub no_certificate_in_files : (r : PublickeyRefusal) → SearchesIn (asked_of u) (AuthorityLine c) list.AuthorizedKeys (trusted_of t).authorized_keys (Err r) → r ≢ refusal.Memory → IsWhyNoSource l c r
    no_certificate_in_files r a other = inl (files (Err r) a other)

    module _ (first : Option LineRefusal) (goes : SearchesIn (asked_of u) (AuthorityLine c) list.AuthorizedKeys (trusted_of t).authorized_keys (Ok (sources.Passes first))) where
      abbrev on : FilesGoOn l c
      on = (files (Ok (sources.Passes first)) goes).0

      by_principals : (p : Principals) (s : Source) (f : Found) → FilesGoOn l c → IsTrue (has_trusted_authority l.trusted.authorities c) → IsOfPrincipals l c p s f → l.trusted.principals ≡ p → IsCertificateSource l c s f
      by_principals InCertificate source.Authority f before trusted a same = (before, (trusted, subst (λ (q : Principals). IsOfPrincipals l c q source.Authority f) (sym same) a))
      by_principals InCertificate (source.AuthorizedKeys n) f before trusted a same = absurd a
      by_principals InCertificate (source.Principals n) f before trusted a same = absurd a
      by_principals InCertificate (source.Command n) f before trusted a same = absurd a
      by_principals (Files texts) (source.Principals n) f before trusted a same = (before, (trusted, subst (λ (q : Principals). IsOfPrincipals l c q (source.Principals n) f) (sym same) a))
      by_principals (Files texts) (source.AuthorizedKeys n) f before trusted a same = absurd a
      by_principals (Files texts) source.Authority f before trusted a same = absurd a
      by_principals (Files texts) (source.Command n) f before trusted a same = absurd a

      pub by_authority : (o : Origin) → OriginatesBy l c (Ok (sources.Lets o)) → IsCertificateSource l c o.source (found_of o.line)
      by_authority o a = by_principals l.trusted.principals o.source (found_of o.line) on a.0 a.1 refl

      pub not_by_authority : (r : PublickeyRefusal) → OriginatesBy l c (Err r) → r ≢ refusal.Memory → IsWhyNoSource l c r
      not_by_authority r a other = inr (inl (on, a other))

      module _ (second : Option LineRefusal) (also : OriginatesBy l c (Ok (sources.Passes second))) where
        pub by_command : (o : Origin) → SearchesIn (asked_of u) (AuthorityLine c) list.Command (trusted_of t).command_keys (Ok (sources.Lets o)) → IsCertificateSource l c o.source (found_of o.line)
        by_command o a =
            let b = command (Ok (sources.Lets o)) a in
            subst (λ (s : Source). IsCertificateSource l c s (found_of o.line)) (sym b.1) (on, also.0, b.2)

        pub not_by_command : (r : PublickeyRefusal) → SearchesIn (asked_of u) (AuthorityLine c) list.Command (trusted_of t).command_keys (Err r) → r ≢ refusal.Memory → IsWhyNoSource l c r
        not_by_command r a other = inr (inr (inl (on, also.0, command (Err r) a other)))

        pub not_at_all : (third : Option LineRefusal) → SearchesIn (asked_of u) (AuthorityLine c) list.Command (trusted_of t).command_keys (Ok (sources.Passes third)) → IsWhyNoSource l c (refusal_for (option_or first (option_or second third)))
        not_at_all third a =
            let last = command (Ok (sources.Passes third)) a in
            inr (inr (inr (on, also.0, last.0, (first, second, third, (files (Ok (sources.Passes first)) goes).1, also.1, last.1, refl))))

    -- ---- by texts of principals

    pub by_principals_of : (texts : List Text) → (trusted_of t).principals ≡ Files texts → has_trusted_authority l.trusted.authorities c ≡ true → (result : Result SourceVerdict PublickeyRefusal) → SearchesIn (asked_of u) (PrincipalLine c) list.Principals texts result → OriginatesBy l c result
    by_principals_of texts told trusted result a = go result (subst (λ (v : UserLogin). SearchesIn v (PrincipalLine c) list.Principals texts result) is.user a)
      where
        same : Files texts ≡ l.trusted.principals
        same = sym told ∙ ap (λ (x : logins.Trusted). x.principals) is.trusted

        go : (result : Result SourceVerdict PublickeyRefusal) → SearchesIn (user_of l) (PrincipalLine c) list.Principals texts result → OriginatesBy l c result
        go (Ok (sources.Lets o)) b = (trusted, subst (λ (p : Principals). IsOfPrincipals l c p o.source (found_of o.line)) same (subst (λ (s : Source). IsOfPrincipals l c (Files texts) s (found_of o.line)) (sym b.1) b.2))
        go (Ok (sources.Passes first)) b = (inr (trusted, subst (λ (p : Principals). PrincipalsGoOn l c p) same b.0), inr (trusted, subst (λ (p : Principals). PrincipalsRefuseFirst l c p first) same b.1))
        go (Err r) b = λ other. (trusted, (texts, sym same, b other))

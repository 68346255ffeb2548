-- The list of what an authority took back revokes that, and nothing else.
use Rattle.std.proofs.Common.{◌≡◌, inl, inr, ℕ, Bool, true, false, not, ◌&&◌, ◌||◌, List, [], ◌∷◌, ◌++◌, refl, sym, arith}
use Rattle.std.proofs.lemmas.Bool.{eqb-true}
use Rattle.std.specs.Prelude.{◌==◌, bytes_eq}
use Rattle.std.specs.List.{list_any}
use Rattle.ssh_key.specs.krl.Revocation.{Certificates, Krl, Numbers, Section, Signer, begun, with_section, Listed}
use Rattle.ssh_key.specs.krl.Krls.{is_read_signer}
use Rattle.ssh_key.specs.krl.Writing.{RefusesToWrite, certificates_section, has_zero, header, serials_part}
use Rattle.ssh_key.specs.model.Keys.{Key, normal_key}
use Rattle.ssh_key.specs.model.Parts.{BoxesFit, flat}
use Rattle.ssh_key.specs.types.Error.{Error}
use Rattle.ssh_key.specs.types.Error.TheVariants.{FormatEncoding}
use Rattle.authority.specs.Revoked.{IsStated, RefusesToList, TakesBack}

or_none : (b : Bool) → ((b || false) || false) ≡ b
or_none true = refl
or_none false = refl

said : (by : Bool) (n : ℕ) (ns : List ℕ) → has_zero ns ≡ false → ((by && ((not (n == 0) && list_any (λ m. m == n) ns) || false)) || false) ≡ (by && list_any (λ m. m == n) ns)
said false n ns some = refl
said true n ns some = go (n == 0) refl
  where
    go : (z : Bool) → (n == 0) ≡ z → (((not (n == 0) && list_any (λ m. m == n) ns) || false) || false) ≡ list_any (λ m. m == n) ns
    go false e = rw e (or_none (list_any (λ m. m == n) ns))
    go true e = rw (eqb-true n 0 e) (sym some)

pub takes_back : (authority : Key) (serials : List ℕ) (n d : ℕ) (comment : List ℕ) (k : Krl) → has_zero serials ≡ false → k ≡ with_section (begun n d comment) (Certificates (Signer authority) (Numbers (Listed serials) ∷ [])) → TakesBack authority serials k
takes_back authority serials n d comment k some is = rw is (record { keys = λ key. refl; certificates = λ key identity. said (bytes_eq identity.signer (flat (normal_key authority))) identity.serial serials some })

pub stated : (n d : ℕ) (comment : List ℕ) (s : Section) (k : Krl) → k ≡ with_section (begun n d comment) s → IsStated n d k
stated n d comment s k is = rw is (refl, refl)

-- one more that is not 0
pub numbered : (ns : List ℕ) (n : ℕ) → has_zero ns ≡ false → (n == 0) ≡ false → has_zero (ns ++ n ∷ []) ≡ false
numbered [] n none some = rw some refl
numbered (m ∷ ns) n none some = go (m == 0) none (λ e. numbered ns n e some)
  where
    go : (b : Bool) → (b || has_zero ns) ≡ false → (has_zero ns ≡ false → has_zero (ns ++ n ∷ []) ≡ false) → (b || has_zero (ns ++ n ∷ [])) ≡ false
    go false e more = more e
    go true e more = absurd (cc e)

-- ---- why no list is made

header_fits : (n d : ℕ) → BoxesFit (header n d [])
unfolding BoxesFit flat
header_fits n d = ((tt, tt), ((tt, tt), (tt, ((omega arith, tt), (omega arith, tt)))))

pub none_begun : (n d : ℕ) (authority : Key) (serials : List ℕ) (e : Error) → RefusesToWrite (header n d []) e → RefusesToList authority serials e
none_begun n d authority serials e (inl long) = absurd (long.0 (header_fits n d))
none_begun n d authority serials e (inr memory) = inr (inr memory.1)

none_added : (authority : Key) (serials : List ℕ) (e : Error) → RefusesToWrite (certificates_section (Signer authority) (serials_part serials)) e → RefusesToList authority serials e
none_added authority serials e (inl long) = inr (inl long)
none_added authority serials e (inr memory) = inr (inr memory.1)

pub not_added : (authority : Key) (serials : List ℕ) (e : Error) (read : Bool) → is_read_signer authority ≡ read → (read ≡ false → e ≡ FormatEncoding) → (read ≡ true → RefusesToWrite (certificates_section (Signer authority) (serials_part serials)) e) → RefusesToList authority serials e
not_added authority serials e true is unread added = none_added authority serials e (added refl)
not_added authority serials e false is unread added = inl (is, unread refl)

-- what is not so otherwise is so
pub by_other : {P : Type 0} (b : Bool) → (b ≡ false → P) → (P → ⊥) → b ≡ true
by_other true other none = refl
by_other false other none = absurd (none (other refl))

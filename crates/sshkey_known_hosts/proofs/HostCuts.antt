-- What a line is to the host of a name.
use Rattle.std.proofs.Common.{◌≡◌, ◌≢◌, ℕ, List, ◌++◌, slice_index, Option, Result, Ok, Err, IfErr, refl, sym, ap, subst, ◌∙◌}
use Rattle.sshkey_model.specs.Keys.{Key}
use Rattle.sshkey_model.specs.Lines.{IsWithout}
use Rattle.sshkey_entries.specs.Fields.{CutsField, without_blanks, IsField, EndsField, AreKeyFields, AreNoKeyFields}
use Rattle.sshkey_entries.specs.Entries.{hash_sign, IsNoEntry}
use Rattle.sshkey_entries.specs.HostVerdicts.{AreFor, HidesEntry, IsForOthers, Lists, ListsOther}
use Rattle.sshkey_entries.specs.KnownHosts.{Marker, Hosts, IsHosts}
use Rattle.sshkey_entries.specs.OpenSshLines.{IsMarkedLine}
use Rattle.sshkey_entries.specs.OtherKeys.{AreForeignKeyFields}
use Rattle.sshkey_entries.proofs.Fields.{same_field}
use Rattle.sshkey_entries.proofs.OneEntry.{one_hosts}
use Rattle.sshkey_entries.proofs.OneOpenSshLine.{one_marked}
use Rattle.sshkey_known_hosts.specs.HostLines.{HasNamedHosts}
use Rattle.sshkey_known_hosts.proofs.HostLines.{comment_read, no_marker_read, same_hosts}

module _ (hmac : List ℕ → List ℕ → List ℕ) (name line : List ℕ) where
  -- ---- a line for others

  module _ (f : IsForOthers hmac name line) where
    -- no hosts of the line are for the name
    pub never_for : (m : Option Marker) (part after : List ℕ) (h : Hosts) → IsMarkedLine m (without_blanks line) (part ++ after) → IsField part → EndsField after → IsHosts part h → AreFor hmac name h → ⊥
    never_for m part after h marked one_word ends are fits =
        let rests = (one_marked (without_blanks line) f.marker m (f.hosts_part ++ f.after) (part ++ after) f.marked marked).1 in
        let parts = same_field f.hosts_part part f.after after f.one_word one_word f.ends ends rests in
        let same = one_hosts part f.hosts h (subst (λ (t : List ℕ). IsHosts t f.hosts) parts.0 f.are) are in
        f.not_for (subst (AreFor hmac name) (sym same) fits)

    -- it lists no key for the name
    pub lists_none : (m : Option Marker) (k : Key) → Lists hmac name m k line → ⊥
    lists_none m k l = let r = l.read in never_for l.entry.marker r.hosts_part r.after_hosts l.entry.hosts r.marked r.one_word r.hosts_end r.hosts l.is_for

    pub lists_no_other : (m : Option Marker) → ListsOther hmac name m line → ⊥
    lists_no_other m l = let r = l.read in never_for m r.hosts_part r.after_hosts l.hosts r.marked r.one_word r.hosts_end r.are l.is_for

  -- ---- a line that is cut

  pub zero_hides : (IsWithout 0 line → ⊥) → HidesEntry hmac name line
  zero_hides zero = (λ h k. zero k.no_zero, λ f. zero f.no_zero, λ l. zero l.2.no_zero)

  module _ (text : List ℕ) (is : text ≡ without_blanks line) where
    in_text : (m : Option Marker) (rest : List ℕ) → IsMarkedLine m (without_blanks line) rest → IsMarkedLine m text rest
    in_text m rest marked = subst (λ (t : List ℕ). IsMarkedLine m t rest) (sym is) marked

    pub marker_hides : ((m : Option Marker) (rest : List ℕ) → IsMarkedLine m text rest → ⊥) → HidesEntry hmac name line
    marker_hides none = (
      no_marker_read line text is none,
      λ f. none f.marker (f.hosts_part ++ f.after) (in_text f.marker (f.hosts_part ++ f.after) f.marked),
      λ l. none l.0 (l.2.hosts_part ++ l.2.after_hosts) (in_text l.0 (l.2.hosts_part ++ l.2.after_hosts) l.2.marked),
    )

    module _ (m : Option Marker) (unmarked hosts rest : List ℕ) (is_marked : IsMarkedLine m text unmarked) (cut : CutsField unmarked hosts rest) where
      same : (n : Option Marker) (part after : List ℕ) (h : Hosts) → IsMarkedLine n (without_blanks line) (part ++ after) → IsField part → EndsField after → IsHosts part h → IsHosts hosts h
      same n part after h marked one_word ends are =
          let parts = same_hosts text m unmarked hosts rest (without_blanks rest) is_marked cut refl part after
          (record { marker = n; marked = in_text n (part ++ after) marked; one_word = one_word; ends = ends }) in
          subst (λ (t : List ℕ). IsHosts t h) (sym parts.0) are

      of_others : (f : IsForOthers hmac name line) → IsHosts hosts f.hosts
      of_others f = same f.marker f.hosts_part f.after f.hosts f.marked f.one_word f.ends f.are

      pub hosts_hide : IsNoEntry IsHosts hosts → HidesEntry hmac name line
      hosts_hide none = (
        λ h k. none h.hosts (same h.marker k.hosts_part k.after_hosts h.hosts k.marked k.one_word k.hosts_end k.hosts),
        λ f. none f.hosts (of_others f),
        λ l. none l.1 (same l.0 l.2.hosts_part l.2.after_hosts l.1 l.2.marked l.2.one_word l.2.hosts_end l.2.are),
      )

      cut_line : IsMarkedLine m (without_blanks line) (hosts ++ rest)
      cut_line = subst (λ (t : List ℕ). IsMarkedLine m t (hosts ++ rest)) is (subst (IsMarkedLine m text) cut.is is_marked)

      module _ (h : Hosts) (are : IsHosts hosts h) where
        pub for_others : IsWithout 0 line → (AreFor hmac name h → ⊥) → IsForOthers hmac name line
        for_others no_zero never = record {
          no_zero = no_zero;
          marker = m;
          hosts_part = hosts;
          after = rest;
          hosts = h;
          marked = cut_line;
          one_word = cut.one_word;
          ends = cut.ends;
          are = are;
          not_for = never;
        }

        module _ (fits : AreFor hmac name h) where
          pub comment_hides : slice_index text 0 ≡ hash_sign → HidesEntry hmac name line
          comment_hides here = (
            comment_read line text is here,
            λ f. f.not_for (subst (AreFor hmac name) (one_hosts hosts h f.hosts are (of_others f)) fits),
            λ l. l.2.no_comment (ap (λ (t : List ℕ). slice_index t 0) (sym is) ∙ here),
          )

          pub named : IsWithout 0 line → slice_index text 0 ≢ hash_sign → (fields : List ℕ) → fields ≡ without_blanks rest → HasNamedHosts hmac name line m fields
          named no_zero no_comment fields skips = record {
            no_zero = no_zero;
            hosts_part = hosts;
            after_hosts = rest;
            hosts = h;
            no_comment = λ here. no_comment (ap (λ (t : List ℕ). slice_index t 0) is ∙ here);
            marked = cut_line;
            one_word = cut.one_word;
            hosts_end = cut.ends;
            are = are;
            is_for = fits;
            fields_are = skips;
          }

  -- ---- a line of the host

  module _ (m : Option Marker) (fields : List ℕ) (c : HasNamedHosts hmac name line m fields) where
    pub entry_lists : (key : Key) (comment : List ℕ) → AreKeyFields fields key comment → (l : Lists hmac name m key line) × (comment ≡ l.entry.comment)
    entry_lists key comment are = (
      record {
        entry = record { marker = m; hosts = c.hosts; key = key; comment = comment };
        read = record {
          no_zero = c.no_zero;
          hosts_part = c.hosts_part;
          after_hosts = c.after_hosts;
          no_comment = c.no_comment;
          marked = c.marked;
          one_word = c.one_word;
          hosts_end = c.hosts_end;
          hosts = c.are;
          fields = subst (λ (t : List ℕ). AreKeyFields t key comment) c.fields_are are;
        };
        marker_is = refl;
        key_is = refl;
        is_for = c.is_for;
      },
      refl,
    )

    pub other_lists : AreForeignKeyFields fields → ListsOther hmac name m line
    other_lists are = record {
      hosts = c.hosts;
      read = record {
        no_zero = c.no_zero;
        hosts_part = c.hosts_part;
        after_hosts = c.after_hosts;
        no_comment = c.no_comment;
        marked = c.marked;
        one_word = c.one_word;
        hosts_end = c.hosts_end;
        are = c.are;
        fields = subst AreForeignKeyFields c.fields_are are;
      };
      is_for = c.is_for;
    }

    same_fields : (n : Option Marker) (part after : List ℕ) → IsMarkedLine n (without_blanks line) (part ++ after) → IsField part → EndsField after → without_blanks after ≡ fields
    same_fields n part after marked one_word ends =
        let rests = (one_marked (without_blanks line) m n (c.hosts_part ++ c.after_hosts) (part ++ after) c.marked marked).1 in
        let parts = same_field c.hosts_part part c.after_hosts after c.one_word one_word c.hosts_end ends rests in
        ap without_blanks (sym parts.1) ∙ sym c.fields_are

    pub no_others : IsForOthers hmac name line → ⊥
    no_others f = never_for f m c.hosts_part c.after_hosts c.hosts c.marked c.one_word c.hosts_end c.are c.is_for

    pub fields_hide : AreNoKeyFields fields → (AreForeignKeyFields fields → ⊥) → HidesEntry hmac name line
    fields_hide none no_other = (
      λ h k. none h.key h.comment (subst (λ (t : List ℕ). AreKeyFields t h.key h.comment) (same_fields h.marker k.hosts_part k.after_hosts k.marked k.one_word k.hosts_end) k.fields),
      no_others,
      λ l. no_other (subst AreForeignKeyFields (same_fields l.0 l.2.hosts_part l.2.after_hosts l.2.marked l.2.one_word l.2.hosts_end) l.2.fields),
    )

-- whatever it is refused for
pub never_refused : {X E A : Type 0} (r : Result X E) → (A → ⊥) → IfErr r (λ _. A → ⊥)
never_refused (Ok x) never = tt
never_refused (Err e) never = never

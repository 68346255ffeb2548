-- How constraints are read, and that what is written of them is a spelling.
use Rattle.std.proofs.Common.{ℕ, List, refl}
use Rattle.std.specs.Int.{w32}
use Rattle.std.specs.List.{AllByRecursion}
use Rattle.std.specs.Prelude.{map}
use Rattle.ssh_key.proofs.Counted.{each_normal}
use Rattle.ssh_key.proofs.Lawful.{IsChosen, called_chosen, called_ends, text_lawful}
use Rattle.ssh_key.proofs.Grammars.{AllEnd}
use Rattle.ssh_key.specs.model.Leaves.{SpellsString}
use Rattle.ssh_key.specs.model.Grammar.{normal_is_spelling}
use Rattle.ssh_key.specs.model.Parts.{number, ◌&◌, each, flat, Fits}
use Rattle.ssh_key.specs.model.Texts.{string, text_format}
use Rattle.agent.specs.Records.{Confirm, Constraint, Extension, IsWellFormedConstraint, Lifetime, body_format, constraint, constraint_format, constraint_of, constraints, kind_format, kind_from}
use Rattle.agent.specs.declared.constraint.Constraint as code
use Rattle.agent.specs.declared.constraint.Constraint.TheVariants as variants
use Rattle.agent.specs.declared.constraint.kind.ConstraintKind.{ConstraintKind}
use Rattle.agent.specs.declared.constraint.kind.ConstraintKind.TheVariants as kinds
use Rattle.agent.proofs.Lawful.{constraint_lawful}
use Rattle.agent.proofs.Frames.{after_number, both_spelled, number_alone}

pub constraint_chosen : IsChosen constraint_format.read kind_format.read (λ k. (body_format k).read)
constraint_chosen = called_chosen kind_format.read (λ k. (body_format k).read)

-- each constraint ends by itself
body_ends : (k : ConstraintKind) → AllEnd (body_format k).read (body_format k).delimited_at
body_ends kinds.Lifetime b = refl
body_ends kinds.Confirm b = refl
body_ends kinds.Extension b = refl

constraint_ends : AllEnd constraint_format.read constraint_format.delimited_at
constraint_ends = called_ends kind_format body_format (λ b. refl) body_ends

abbrev SpellsBody : ConstraintKind → Constraint → List ℕ → Type 0
SpellsBody k = (body_format k).Spells

pub constraint_normal : (c : code.Constraint) → IsWellFormedConstraint c → Fits (constraint c) → constraint_format.Spells (constraint_of c) (flat (constraint c))
constraint_normal (variants.Lifetime seconds) is fits = after_number kind_from SpellsBody 1 kinds.Lifetime (Lifetime seconds) (number w32 seconds) refl (λ f. record { inner = seconds; spelled = normal_is_spelling seconds tt f; makes = refl }) fits
constraint_normal variants.Confirm is fits = number_alone kind_from SpellsBody 2 kinds.Confirm Confirm refl (refl, refl) fits
constraint_normal (variants.Extension name details) is fits = after_number kind_from SpellsBody 255 kinds.Extension (Extension name details) (string name & string details) refl (λ f. record { inner = (name, details); spelled = both_spelled text_format text_lawful (λ b. refl) SpellsString name details (string name) (string details) (normal_is_spelling name is) (normal_is_spelling details tt) f; makes = refl }) fits

pub constraints_normal : (cs : List code.Constraint) → AllByRecursion IsWellFormedConstraint cs → Fits (each constraint cs) → constraints.Spells (map constraint_of cs) (flat (each constraint cs))
constraints_normal = each_normal constraint_of constraint IsWellFormedConstraint constraint_format constraint_lawful constraint_ends constraint_normal

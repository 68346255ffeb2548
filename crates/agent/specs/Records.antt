-- Formats of messages: nothing at all, and a number and what it calls for.
use Rattle.std.specs.Prelude.{◌≡◌, ℕ, List, [], Result, Ok, Err, ◌==◌, if◌then◌else◌, Option, true, false}
use Rattle.ssh_key.specs.model.Formats.{Format}
use Rattle.ssh_key.specs.model.Leaves.{byte_format, number32_format, string_format}
use Rattle.ssh_key.specs.model.Needs.{NoNeed}
use Rattle.ssh_key.specs.model.Overruns.{NoOverrun}
use Rattle.ssh_key.specs.model.Reading.{Fault, Front, FormatEncoding}
use Rattle.ssh_key.specs.model.Terms.{boxed, called, tested, ◌then◌}
use Rattle.std.specs.Int.{w8, w32}
use Rattle.ssh_key.specs.model.Parts.{Parts, number, ◌&◌}
use Rattle.ssh_key.specs.model.Texts.{string, IsText, text_format}
use Rattle.ssh_key.specs.model.ToEnd.{values_to_end}
use Rattle.agent.specs.declared.constraint.Constraint as code
use Rattle.agent.specs.declared.constraint.Constraint.TheVariants as variants
use Rattle.agent.specs.declared.constraint.kind.ConstraintKind.{ConstraintKind}
use Rattle.agent.specs.declared.constraint.kind.ConstraintKind.TheVariants as kinds
use Rattle.ssh_key.specs.model.KeyPairs.{KeyPair, keypair_format}
use Rattle.ssh_key.specs.pairs.Keypairs.{keypair_parts, pair_of, IsWellFormedPair, is_encrypted}
use Rattle.ssh_key.specs.types.Error.{Error}
use Rattle.ssh_key.specs.types.Error.TheVariants.{Encrypted}
use Rattle.ssh_key.specs.types.private.KeypairData.{KeypairData}
use Rattle.agent.specs.declared.addition.Addition as code_addition
use Rattle.agent.specs.declared.identity.Identity as code_identity
use Rattle.agent.specs.declared.sign_request.SignRequest as code_sign_request

-- ---- no bytes, which spell that value

abbrev pub SpellsNothing : {A : Type 0} → A → A → List ℕ → Type 0
SpellsNothing value x b = (x ≡ value) × (b ≡ [])

abbrev pub nothing_at : {A : Type 0} → A → Front A
nothing_at value b = Ok (value, b)

abbrev pub nothing_format : {A : Type 0} → A → Format A
nothing_format value = record { Spells = SpellsNothing value; read = nothing_at value; delimited_at = nothing_at value; needs = NoNeed; overruns = NoOverrun }

-- ---- a number of one byte, and what it calls for

-- what it stands for
abbrev pub numbered : {K : Type 0} → (ℕ → Result K Fault) → Format K
numbered kind_from = tested kind_from byte_format

module _ {K M : Type 0} (kind_from : ℕ → Result K Fault) (body : K → Format M) where
  -- the number, and what it calls for
  abbrev pub message : Format M
  message = called (numbered kind_from) body

  -- the same in its frame
  abbrev pub framed : Format M
  framed = boxed message

-- What an agent is told about the use of a key that is added (draft-miller-ssh-agent, section
-- 4.2.6), and their numbers.

-- for that many seconds, only where the user confirms it, or an extension with its name
pub data Constraint : Type 0 where
  Lifetime : ℕ → Constraint
  Confirm : Constraint
  Extension : List ℕ → List ℕ → Constraint

abbrev pub constraint_of : code.Constraint → Constraint
constraint_of (variants.Lifetime seconds) = Lifetime seconds
constraint_of variants.Confirm = Confirm
constraint_of (variants.Extension name details) = Extension name details

-- the number, and what it holds
abbrev pub constraint : code.Constraint → Parts
constraint (variants.Lifetime seconds) = number w8 1 & number w32 seconds
constraint variants.Confirm = number w8 2
constraint (variants.Extension name details) = number w8 255 & string name & string details

-- ---- as a format

abbrev pub kind_from : ℕ → Result ConstraintKind Fault
kind_from n =
    if n == 1 then Ok kinds.Lifetime
    else if n == 2 then Ok kinds.Confirm
    else if n == 255 then Ok kinds.Extension
    else Err FormatEncoding

abbrev pub kind_format : Format ConstraintKind
kind_format = numbered kind_from

-- what follows the number
abbrev pub body_format : ConstraintKind → Format Constraint
body_format kinds.Lifetime = tested (λ seconds. Ok (Lifetime seconds)) number32_format
body_format kinds.Confirm = nothing_format Confirm
body_format kinds.Extension = tested (λ e. Ok (Extension e.0 e.1)) (text_format then string_format)

abbrev pub constraint_format : Format Constraint
constraint_format = called kind_format body_format

-- constraints up to the end of the frame
abbrev pub constraints : Format (List Constraint)
constraints = values_to_end constraint_format

-- The name is a text.
abbrev pub IsWellFormedConstraint : code.Constraint → Type 0
IsWellFormedConstraint (variants.Lifetime seconds) = Unit {0}
IsWellFormedConstraint variants.Confirm = Unit {0}
IsWellFormedConstraint (variants.Extension name details) = IsText name

-- What the messages of an SSH agent hold (draft-miller-ssh-agent, section 4): values, how they are
-- written, and their formats.

-- ---- a key that the agent holds: its blob and its comment (section 4.4)

pub record Identity : Type 0 where
  pub key : List ℕ
  pub comment : List ℕ

abbrev pub identity_of : code_identity.Identity → Identity
identity_of i = record { key = i.key; comment = i.comment }

abbrev pub identity : Identity → Parts
identity i = string i.key & string i.comment

abbrev pub identity_of_parts : List ℕ × List ℕ → Result Identity Fault
identity_of_parts a = Ok (record { key = a.0; comment = a.1 })

abbrev pub identity_format : Format Identity
identity_format = tested identity_of_parts (string_format then string_format)

-- ---- what is to be signed: the blob of the key, the message and the flags (section 4.5)

pub record SignRequest : Type 0 where
  pub key : List ℕ
  pub message : List ℕ
  pub flags : ℕ

abbrev pub sign_request_of : code_sign_request.SignRequest → SignRequest
sign_request_of r = record { key = r.key; message = r.message; flags = r.flags }

abbrev pub sign_request : SignRequest → Parts
sign_request r = string r.key & string r.message & number w32 r.flags

abbrev pub sign_request_of_parts : List ℕ × (List ℕ × ℕ) → Result SignRequest Fault
sign_request_of_parts a = Ok (record { key = a.0; message = a.1.0; flags = a.1.1 })

abbrev pub sign_request_format : Format SignRequest
sign_request_format = tested sign_request_of_parts (string_format then string_format then number32_format)

-- ---- a pair that is added, after its name, and its comment (section 4.2)

pub record Addition : Type 0 where
  pub pair : Option KeyPair
  pub comment : List ℕ

abbrev pub addition_of : code_addition.Addition → Addition
addition_of a = record { pair = pair_of a.keypair; comment = a.comment }

-- the pair in it
abbrev pub pair_in : code_addition.Addition → KeypairData
pair_in a = a.keypair

-- The pair and the comment, or `Encrypted` for an encrypted pair.
abbrev pub MakesAddition : KeypairData → List ℕ → Result code_addition.Addition Error → Type 0
MakesAddition pair comment (Ok a) = (is_encrypted pair ≡ false) × (pair_in a ≡ pair) × (a.comment ≡ comment)
MakesAddition pair comment (Err e) = (is_encrypted pair ≡ true) × (e ≡ Encrypted)

abbrev pub addition : code_addition.Addition → Parts
addition a = keypair_parts a.keypair & string a.comment

abbrev pub addition_of_parts : Option KeyPair × List ℕ → Result Addition Fault
addition_of_parts a = Ok (record { pair = a.0; comment = a.1 })

abbrev pub addition_format : Format Addition
addition_format = tested addition_of_parts (keypair_format then string_format)

-- The pair is one that its format has.
abbrev pub IsWellFormedAddition : code_addition.Addition → Type 0
IsWellFormedAddition a = IsWellFormedPair (pair_of a.keypair)

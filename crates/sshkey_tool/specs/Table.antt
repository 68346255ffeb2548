-- What the program writes, and its status, for each words and each input.
use Rattle.std.specs.Prelude.{◌≡◌, ◌⊎◌, ℕ, List, [], ◌∷◌, ◌++◌, map, codes, Bool, true, false, Option, None, Some, IfSome, MatchOption}
use Rattle.std.specs.Io.KnownBytes.{Appends}
use Rattle.std.specs.Str.{IsUtf8}
use denote.Ref.{Bor}
use Rattle.sshkey_model.specs.Fingerprints.{fingerprint, fingerprint_text}
use Rattle.sshkey_fingerprints.specs.RandomArt.{picture}
use Rattle.sshkey_model.specs.Certificates.{Certificate, SpellsCertificate}
use Rattle.sshkey_model.specs.Keys.{Key, SpellsKey}
use Rattle.sshkey_model.specs.Lines.{IsKeyLine, key_line, key_name, IsCertificateLine, name_of_certificate, IsNoLine}
use Rattle.sshkey_model.specs.Names.{Sha256}
use Rattle.sshkey_entries.specs.AuthorizedKeys.{IsAuthorizedKey, authorized_text}
use Rattle.sshkey_entries.specs.Entries.{entries}
use Rattle.sshkey_entries.specs.KnownHosts.{IsKnownHost, known_text}
use Rattle.sshkey_tool.specs.Lines.{IsBegun, WritesWithStatus, ShowsEntries, ShowsEntry, ShowsFirst, line_end, IsCertificateText, HasNoLineEnd, refusal_line}
use Rattle.sshkey_tool.specs.declared.command.Command.{Command}
use Rattle.sshkey_tool.specs.declared.command.Command.TheVariants as commands
use Rattle.sshkey_tool.specs.declared.command.EntryFile.{EntryFile}
use Rattle.sshkey_tool.specs.declared.command.EntryFile.TheVariants.{AuthorizedKeys, KnownHosts}
use Rattle.sshkey_tool.specs.declared.command.KeyCommand.{KeyCommand}
use Rattle.sshkey_tool.specs.declared.command.KeyCommand.TheVariants.{Art, Fingerprint, Normal}

-- ---- the rows

-- the texts of words
abbrev pub texts : List (Bor (List ℕ)) → List (List ℕ)
texts words = map (λ w. w.now) words

-- the words that ask for it
abbrev pub command_words : Command → List (List ℕ)
command_words (commands.Key Fingerprint) = codes "fingerprint" ∷ []
command_words (commands.Key (Art header)) = codes "art" ∷ header.now ∷ []
command_words (commands.Key Normal) = codes "normal" ∷ []
command_words (commands.Certificate None) = codes "cert" ∷ []
command_words (commands.Certificate (Some wanted)) = codes "cert" ∷ wanted.now ∷ []
command_words (commands.Entries AuthorizedKeys) = codes "keys" ∷ []
command_words (commands.Entries KnownHosts) = codes "hosts" ∷ []

-- what is shown of a key and its comment
abbrev pub key_text : KeyCommand → Key → List ℕ → List ℕ
key_text Fingerprint k comment = fingerprint_text Sha256 k ++ line_end
key_text (Art header) k comment = picture header.now Sha256 (fingerprint Sha256 k).digest ++ line_end
key_text Normal k comment = key_line k comment ++ line_end

-- The text is shown of the entries of the bytes, and some of them are refused or none.
abbrev pub ShowsFile : EntryFile → List ℕ → List ℕ → Bool → Type 0
ShowsFile AuthorizedKeys text = ShowsEntries IsAuthorizedKey authorized_text (entries text)
ShowsFile KnownHosts text = ShowsEntries IsKnownHost known_text (entries text)

-- the same of its first entries, before those that are left
abbrev pub ShowsFileFirst : EntryFile → List ℕ → List (List ℕ) → List ℕ → Bool → Type 0
ShowsFileFirst AuthorizedKeys = ShowsFirst IsAuthorizedKey authorized_text
ShowsFileFirst KnownHosts = ShowsFirst IsKnownHost known_text

-- the line of one entry, and whether it is refused
abbrev pub ShowsFileEntry : EntryFile → List ℕ → List ℕ × Bool → Type 0
ShowsFileEntry AuthorizedKeys = ShowsEntry IsAuthorizedKey authorized_text
ShowsFileEntry KnownHosts = ShowsEntry IsKnownHost known_text

-- The bytes are the line that the command asks for, or a file of its entries, and this text is
-- shown of it.
abbrev pub IsOfLine : Command → List ℕ → List ℕ → Type 0
IsOfLine (commands.Key c) bytes text =
    (k : Key) × (comment : List ℕ) × IsKeyLine bytes k comment × (text ≡ key_text c k comment)
IsOfLine (commands.Certificate wanted) bytes text =
    (c : Certificate) × (comment : List ℕ) × IsCertificateLine bytes c comment × IsCertificateText wanted c text
IsOfLine (commands.Entries file) bytes text = ShowsFile file bytes text false

-- The bytes are a file with refused entries, and this text is shown for it.
abbrev pub IsPartly : Command → List ℕ → List ℕ → Type 0
IsPartly (commands.Entries file) bytes text = ShowsFile file bytes text true
IsPartly (commands.Key c) bytes text = ⊥
IsPartly (commands.Certificate wanted) bytes text = ⊥

-- The bytes are no line of what the command asks for. Every text is a file.
abbrev pub IsOfNoLine : Command → List ℕ → Type 0
IsOfNoLine (commands.Key c) bytes = IsNoLine key_name SpellsKey bytes
IsOfNoLine (commands.Certificate wanted) bytes = IsNoLine name_of_certificate SpellsCertificate bytes
IsOfNoLine (commands.Entries file) bytes = ⊥

-- The bytes are the line that is asked for, and the text is what is shown of it.
abbrev pub IsShown : Command → List ℕ → List ℕ → Type 0
IsShown c text bytes = IsUtf8 bytes × IsOfLine c bytes text

-- The same for a file with refused entries.
abbrev pub IsShownPartly : Command → List ℕ → List ℕ → Type 0
IsShownPartly c text bytes = IsUtf8 bytes × IsPartly c bytes text

-- The bytes are no text, or a line of nothing that is asked for.
abbrev pub IsRefusedInput : Command → List ℕ → Type 0
IsRefusedInput c bytes = IsUtf8 bytes → IsOfNoLine c bytes

-- ---- the answers

-- How it is used; lines that are shown, some perhaps refusals; or why the input is refused.
pub data Answer : Type 0 where
  Usage : Answer
  Shown Partly Refused : List ℕ → Answer

abbrev pub answer_line : Answer → List ℕ
answer_line Usage = codes "usage: sshkey fingerprint | art <header> | normal | cert [principal] | keys | hosts" ++ line_end
answer_line (Shown text) = text
answer_line (Partly text) = text
answer_line (Refused why) = refusal_line why ++ line_end

abbrev pub status_of : Answer → ℕ
status_of Usage = 2
status_of (Shown text) = 0
status_of (Partly text) = 1
status_of (Refused why) = 1

-- ---- the table

abbrev pub AreCommandWords : List (List ℕ) → Command → Type 0
AreCommandWords words c = words ≡ command_words c

abbrev pub IsNoCommand : List (List ℕ) → Type 0
IsNoCommand words = (c : Command) → AreCommandWords words c → ⊥

-- the command that the words ask for, or none where they are no command's
abbrev pub FindsCommand : List (List ℕ) → Option Command → Type 0
FindsCommand words found = MatchOption found (IsNoCommand words) (AreCommandWords words)

-- An input is known where the reader tells its bytes. A reason is one line.
abbrev pub IsAnswer : List (List ℕ) → Option (List ℕ) → Answer → Type 0
IsAnswer words input Usage = IsNoCommand words
IsAnswer words input (Shown text) = (c : Command) × AreCommandWords words c × IfSome input (IsShown c text)
IsAnswer words input (Partly text) = (c : Command) × AreCommandWords words c × IfSome input (IsShownPartly c text)
IsAnswer words input (Refused why) = HasNoLineEnd why × ((c : Command) × AreCommandWords words c × IfSome input (IsRefusedInput c))

-- in place of the table's line: there was no memory, or the input could not be read
abbrev pub IsFaultLine : List ℕ → Type 0
IsFaultLine line = (line ≡ answer_line (Refused (codes "out of memory"))) ⊎ (line ≡ answer_line (Refused (codes "I/O error")))

-- that line, with status 1
abbrev pub WritesFault : Option (List ℕ) → Option (List ℕ) → ℕ → Type 0
WritesFault old new status = (line : List ℕ) × IsFaultLine line × WritesWithStatus old new line 1 status

-- These are the lines of the first entries of the bytes, before those that are left.
abbrev pub AreFirstLines : EntryFile → List (List ℕ) → List ℕ → List ℕ → Type 0
AreFirstLines file left shown bytes = (refused : Bool) × ShowsFileFirst file bytes left shown refused

-- The output failed within the line of that entry, which is not whole.
pub record FailsWithin (file : EntryFile) (entry : List ℕ) (old new : Option (List ℕ)) (status : ℕ) : Type 0 where
  pub line : List ℕ
  pub refused : Bool
  pub shows : ShowsFileEntry file entry (line, refused)
  pub begun : IsBegun old new (line ++ line_end)
  pub one : status ≡ 1

-- An entry is left after the lines of the first ones: the output failed within its line, or the
-- line of a fault stands there.
pub record IsCutShort (file : EntryFile) (input old new : Option (List ℕ)) (status : ℕ) : Type 0 where
  pub shown : List ℕ
  pub entry : List ℕ
  pub rest : List (List ℕ)
  pub are : IfSome input (AreFirstLines file (entry ∷ rest) shown)
  pub between : Option (List ℕ)
  pub written : Appends old between shown
  pub ends : FailsWithin file entry between new status ⊎ WritesFault between new status

-- The table's line is written with its status, or that of a fault. What is shown of a file is
-- written as it is made.
abbrev pub Runs : List (List ℕ) → Option (List ℕ) → Option (List ℕ) → Option (List ℕ) → ℕ → Type 0
Runs words input old new status =
    ((a : Answer) × IsAnswer words input a × WritesWithStatus old new (answer_line a) (status_of a) status)
    ⊎ (((c : Command) × AreCommandWords words c) × WritesFault old new status)
    ⊎ ((file : EntryFile) × AreCommandWords words (commands.Entries file) × IfSome input IsUtf8 × IsCutShort file input old new status)

-- an error's line, one line alone
abbrev pub IsRefusalLine : List ℕ → Type 0
IsRefusalLine line = (why : List ℕ) × HasNoLineEnd why × (line ≡ answer_line (Refused why))

-- what stands before the first line end, or all where there is none
abbrev pub IsFirstLine : List ℕ → List ℕ → Type 0
IsFirstLine text line = HasNoLineEnd line × ((text ≡ line) ⊎ ((rest : List ℕ) × (text ≡ line ++ (10 ∷ rest))))

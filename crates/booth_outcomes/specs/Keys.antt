-- The ring of the keys in the key files that are set, and how a run ends if no ring can be made.
use Rattle.std.specs.Prelude.{◌≡◌, ◌⊎◌, ◌++◌, ℕ, List, [], ◌∷◌, Option, Some, None, Result, Ok, Err, Bool, true, false, T, IsSomeAnd}
use Rattle.booth_conf.specs.Config.{ConfigSays}
use Rattle.booth_keys.specs.Key.{key_read}
use Rattle.booth_keys.specs.declared.key.KeyFault.{KeyFault}
use Rattle.booth_keys.specs.declared.ring.Ring.{Ring}
use Rattle.booth_host.specs.declared.host.ReadFault.TheVariants as reads
use Rattle.booth_host.specs.declared.entry.Entry.{Entry}
use Rattle.booth_host.specs.declared.entry.Entry.TheVariants.{ReadFile}
use Rattle.booth_outcomes.specs.declared.outcome.Outcome.{Outcome}
use Rattle.booth_outcomes.specs.declared.outcome.Outcome.TheVariants.{KeyUnread, KeyBad, OutOfMemory}
use Rattle.booth_outcomes.specs.declared.outcome.Ended.{Ended}
use Rattle.booth_outcomes.specs.Texts.{unread_text, key_fault_text, out_of_memory_text}

-- the text holds a key
pub record IsKeyFile (text : List ℕ) : Type 0 where
  pub key : List ℕ
  pub reads : key_read text ≡ Ok key

-- the configuration names this key file, as the file of the first key or of the old key
abbrev pub NamesKeyFile : ConfigSays → List ℕ → Type 0
NamesKeyFile config file = (config.authfile ≡ Some file) ⊎ (config.authfile_old ≡ Some file)

-- ---- the texts

-- the texts of the two key files
pub record KeyTexts : Type 0 where
  pub first : List ℕ
  pub old : List ℕ

-- the file of the old key, which is read only if the first key has a file
abbrev pub old_file : Option (List ℕ) → Option (List ℕ) → Option (List ℕ)
old_file None old = None
old_file (Some first) old = old

-- the read of a key file, if one is set
abbrev pub key_call : Option (List ℕ) → List ℕ → List Entry
key_call None text = []
key_call (Some file) text = ReadFile file (Ok text) ∷ []

-- the reads of the key files that are set, the first key's first
abbrev pub key_calls : ConfigSays → KeyTexts → List Entry
key_calls config texts =
    key_call config.authfile texts.first ++ key_call (old_file config.authfile config.authfile_old) texts.old

-- ---- the ring

-- the key in a key file's text, or none if no file is set
abbrev pub HasKey : Option (List ℕ) → List ℕ → Option (List ℕ) → Type 0
HasKey None text key = key ≡ None
HasKey (Some file) text key = IsSomeAnd key (λ bytes. key_read text ≡ Ok bytes)

-- the keys of both files, with the configured hash
pub record IsRing (config : ConfigSays) (texts : KeyTexts) (ring : Ring) : Type 0 where
  pub file : List ℕ
  pub set : config.authfile ≡ Some file
  pub first : key_read texts.first ≡ Ok ring.first
  pub old : HasKey config.authfile_old texts.old ring.old
  pub hash : ring.hash ≡ config.auth_hash

-- this ring, or no ring if the first key has no file
abbrev pub HasRing : ConfigSays → KeyTexts → Option Ring → Type 0
HasRing config texts None = config.authfile ≡ None
HasRing config texts (Some ring) = IsRing config texts ring

-- ---- a missing key

-- no key could be read from this file
abbrev pub IsFileKeyless : List ℕ → Outcome → List ℕ → List Entry → Type 0
IsFileKeyless file KeyUnread said entries =
    (said ≡ unread_text file) × (entries ≡ ReadFile file (Err reads.Failed) ∷ [])
IsFileKeyless file (KeyBad fault) said entries =
    (text : List ℕ) × (key_read text ≡ Err fault) × (said ≡ key_fault_text fault)
    × (entries ≡ ReadFile file (Ok text) ∷ [])
IsFileKeyless file OutOfMemory said entries =
    (said ≡ out_of_memory_text) × (entries ≡ ReadFile file (Err reads.NoMemory) ∷ [])
IsFileKeyless file outcome said entries = ⊥

-- the first key could not be read, and no other file was read
pub record IsFirstKeyless (config : ConfigSays) (outcome : Outcome) (said : List ℕ) (entries : List Entry)
    : Type 0 where
  pub file : List ℕ
  pub set : config.authfile ≡ Some file
  pub here : IsFileKeyless file outcome said entries

-- the first key was read, and the old one could not be
pub record IsOldKeyless (config : ConfigSays) (outcome : Outcome) (said : List ℕ) (entries : List Entry)
    : Type 0 where
  pub file : List ℕ
  pub set : config.authfile ≡ Some file
  pub text : List ℕ
  pub key : List ℕ
  pub reads : key_read text ≡ Ok key
  pub old : List ℕ
  pub old_set : config.authfile_old ≡ Some old
  pub rest : List Entry
  pub whole : entries ≡ ReadFile file (Ok text) ∷ rest
  pub here : IsFileKeyless old outcome said rest

-- a key could not be read from one of the files; the file of the first key is read first
pub data IsKeyless (config : ConfigSays) (outcome : Outcome) (said : List ℕ) (entries : List Entry) : Type 0 where
  FirstKeyless : IsFirstKeyless config outcome said entries → IsKeyless config outcome said entries
  OldKeyless : IsOldKeyless config outcome said entries → IsKeyless config outcome said entries

-- the outcomes without a key
abbrev pub is_keyless_outcome : Outcome → Bool
is_keyless_outcome KeyUnread = true
is_keyless_outcome (KeyBad fault) = true
is_keyless_outcome OutOfMemory = true
is_keyless_outcome outcome = false

abbrev pub IsKeylessOutcome : Outcome → Type 0
IsKeylessOutcome outcome = T (is_keyless_outcome outcome)

-- the reads of the key files that are set, and the ring with their keys
abbrev pub IsRingRead : ConfigSays → Result (Option Ring) Ended → List Entry → Type 0
IsRingRead config (Ok ring) entries = (texts : KeyTexts) × HasRing config texts ring
    × (entries ≡ key_calls config texts)
IsRingRead config (Err ended) entries = IsKeyless config ended.outcome ended.said entries

-- ---- in the code

-- these bytes are no key, for this fault, which is reported
pub record IsNoKey (bytes : List ℕ) (ended : Ended) : Type 0 where
  pub fault : KeyFault
  pub reads : key_read bytes ≡ Err fault
  pub outcome : ended.outcome ≡ KeyBad fault
  pub said : ended.said ≡ key_fault_text fault

abbrev pub IsFileKey : List ℕ → Result (List ℕ) Ended → Type 0
IsFileKey bytes (Ok key) = key_read bytes ≡ Ok key
IsFileKey bytes (Err ended) = IsNoKey bytes ended

-- the one read of this file, and its result
abbrev pub IsFromFile : List ℕ → Result (List ℕ) Ended → List Entry → Type 0
IsFromFile file (Ok key) entries = (text : List ℕ) × (key_read text ≡ Ok key)
    × (entries ≡ ReadFile file (Ok text) ∷ [])
IsFromFile file (Err ended) entries = IsFileKeyless file ended.outcome ended.said entries

-- the read of a key file, if one is set, and its result
abbrev pub IsKeyRead : Option (List ℕ) → Result (Option (List ℕ)) Ended → List Entry → Type 0
IsKeyRead file (Ok key) entries = (text : List ℕ) × HasKey file text key × (entries ≡ key_call file text)
IsKeyRead file (Err ended) entries =
    (named : List ℕ) × (file ≡ Some named) × IsFileKeyless named ended.outcome ended.said entries

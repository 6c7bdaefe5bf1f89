-- What the words ask for, from what was read of them.
use Rattle.std.specs.Prelude.{Ok}
use Rattle.std.proofs.Common.{◌≡◌, ℕ, Bool, true, false, cond, List, [], ◌∷◌, Option, Some, None, is_some, refl, subst, sym, ap}
use Rattle.std.proofs.Common.{inl, inr, ◌⊎◌}
use Rattle.clap.specs.Words.{IsAmong, fault_of, takes}
use Rattle.clap.specs.declared.error.kind.ErrorKind.{ErrorKind}
use Rattle.clap.specs.declared.error.kind.ErrorKind.TheVariants as kinds
use Rattle.booth_base.specs.declared.address.Address.{Address}
use Rattle.booth_talk.specs.declared.order.Order.{Order}
use Rattle.booth_following.specs.declared.programs.Programs.{Programs}
use Rattle.booth_cli.specs.declared.command.Verb.{Verb}
use Rattle.booth_cli.specs.declared.command.Verb.TheVariants as verbs
use Rattle.booth_cli.specs.declared.reading.Read.{Read}
use Rattle.booth_cli.specs.declared.asking.Asked.{Asked}
use Rattle.booth_cli.specs.declared.asking.Asked.TheVariants.{Daemon, Status, Simulation, Audit, Client, Move, Follow}
use Rattle.booth_cli.specs.declared.asking.ClientWords.{ClientWords}
use Rattle.booth_cli.specs.declared.program.Program.{Program}
use Rattle.booth_cli.specs.declared.program.Program.TheVariants.{Boothd, Booth, Geostore, BoothFollow}
use Rattle.booth_cli.specs.Commands.{app_for, verb_in}
use Rattle.booth_cli.specs.Given.{Texts, HasAttribute, HasNeeded, HasService, found_in}
use Rattle.booth_cli.specs.Reading.{HasAddress, HasName, HasProgram, IsRead}
use Rattle.booth_cli.specs.Asking.{Asks, AreTaken, AttributeRead, HasOrder, HasWords, IsAskedBy, IsClient, ServiceRead, IsClientOf, IsUntaken, IsUntakenFor, NamesCommand, client_of}

-- where there is a word there is an address
has_address : (word : Option (List ℕ)) (read : Option Address) → HasAddress word read → is_some word ≡ true → is_some read ≡ true
has_address (Some text) (Some address) has some = refl
has_address (Some text) None has some = absurd has
has_address None read has some = cc

has_name : (word : Option (List ℕ)) (read : Option (List ℕ)) → HasName word read → is_some word ≡ true → is_some read ≡ true
has_name (Some text) (Some name) has some = refl
has_name (Some text) None has some = absurd has
has_name None read has some = cc

has_attribute : (t : Texts) (read : Read) → HasAttribute t → IsRead t read → AttributeRead read
has_attribute t read needed is =
    record { ticket = has_name t.ticket read.ticket is.ticket needed.ticket; name = has_name t.name read.name is.name needed.name }

has_program : (word : Option (List ℕ)) (read : Option Programs) → HasProgram word read → is_some word ≡ true → is_some read ≡ true
has_program (Some text) (Some programs) has some = refl
has_program (Some text) None has some = absurd has
has_program None read has some = cc

has_service : (t : Texts) (read : Read) → HasService t → IsRead t read → ServiceRead read
has_service t read needed is = record {
  ticket = has_name t.ticket read.ticket is.ticket needed.ticket;
  site = has_address t.site read.site is.site needed.site;
  program = has_program t.program read.program is.program needed.program;
}

pub has_words : (verb : Verb) (t : Texts) (read : Read) → HasNeeded verb t → IsRead t read → HasWords verb read
has_words verbs.Daemon t read needed is = has_address t.site read.site is.site needed
has_words verbs.Show t read needed is = has_name t.ticket read.ticket is.ticket needed
has_words verbs.Grant t read needed is = has_name t.ticket read.ticket is.ticket needed
has_words verbs.Revoke t read needed is = has_name t.ticket read.ticket is.ticket needed
has_words verbs.Move t read needed is = (has_name t.ticket read.ticket is.ticket needed.0, has_address t.target read.target is.target needed.1)
has_words verbs.SetAttribute t read needed is = (has_attribute t read needed.0 is, has_name t.value read.value is.value needed.1)
has_words verbs.GetAttribute t read needed is = has_attribute t read needed is
has_words verbs.DeleteAttribute t read needed is = has_attribute t read needed is
has_words verbs.ListAttributes t read needed is = has_name t.ticket read.ticket is.ticket needed
has_words verbs.Follow t read needed is = has_service t read needed is
has_words verbs.Status t read needed is = tt
has_words verbs.Simulate t read needed is = tt
has_words verbs.Audit t read needed is = tt
has_words verbs.List t read needed is = tt
has_words verbs.Peers t read needed is = tt
has_words verbs.DaemonStatus t read needed is = tt

-- ---- whose command it is

abbrev owner : Verb → Program
owner verbs.Daemon = Boothd
owner verbs.Status = Boothd
owner verbs.Simulate = Boothd
owner verbs.Audit = Boothd
owner verbs.List = Booth
owner verbs.Show = Booth
owner verbs.Peers = Booth
owner verbs.DaemonStatus = Booth
owner verbs.Grant = Booth
owner verbs.Revoke = Booth
owner verbs.Move = Booth
owner verbs.SetAttribute = Geostore
owner verbs.GetAttribute = Geostore
owner verbs.DeleteAttribute = Geostore
owner verbs.ListAttributes = Geostore
owner verbs.Follow = BoothFollow

same_owner : (one verb : Verb) → Some one ≡ Some verb → owner one ≡ owner verb
same_owner one verb same = let e : one ≡ verb = cc in ap owner e

daemons : (a b c d : Bool) (verb : Verb) →
    cond a (Some verbs.Daemon) (cond b (Some verbs.Status) (cond c (Some verbs.Simulate) (cond d (Some verbs.Audit) None))) ≡ Some verb → Boothd ≡ owner verb
daemons true b c d verb h = same_owner verbs.Daemon verb h
daemons false true c d verb h = same_owner verbs.Status verb h
daemons false false true d verb h = same_owner verbs.Simulate verb h
daemons false false false true verb h = same_owner verbs.Audit verb h
daemons false false false false verb h = absurd cc

clients : (a b c d e f g : Bool) (verb : Verb) →
    cond a (Some verbs.List) (cond b (Some verbs.Show) (cond c (Some verbs.Peers) (cond d (Some verbs.DaemonStatus)
    (cond e (Some verbs.Grant) (cond f (Some verbs.Revoke) (cond g (Some verbs.Move) None)))))) ≡ Some verb → Booth ≡ owner verb
clients true b c d e f g verb h = same_owner verbs.List verb h
clients false true c d e f g verb h = same_owner verbs.Show verb h
clients false false true d e f g verb h = same_owner verbs.Peers verb h
clients false false false true e f g verb h = same_owner verbs.DaemonStatus verb h
clients false false false false true f g verb h = same_owner verbs.Grant verb h
clients false false false false false true g verb h = same_owner verbs.Revoke verb h
clients false false false false false false true verb h = same_owner verbs.Move verb h
clients false false false false false false false verb h = absurd cc

attributes : (a b c d : Bool) (verb : Verb) →
    cond a (Some verbs.SetAttribute) (cond b (Some verbs.GetAttribute) (cond c (Some verbs.DeleteAttribute) (cond d (Some verbs.ListAttributes) None)))
    ≡ Some verb → Geostore ≡ owner verb
attributes true b c d verb h = same_owner verbs.SetAttribute verb h
attributes false true c d verb h = same_owner verbs.GetAttribute verb h
attributes false false true d verb h = same_owner verbs.DeleteAttribute verb h
attributes false false false true verb h = same_owner verbs.ListAttributes verb h
attributes false false false false verb h = absurd cc

-- the program is the one that has the command
owned : (program : Program) (words : List (List ℕ)) (verb : Verb) → verb_in program words ≡ Some verb → program ≡ owner verb
owned program [] verb named = absurd cc
owned Boothd (word ∷ words) verb named = daemons _ _ _ _ verb named
owned Booth (word ∷ words) verb named = clients _ _ _ _ _ _ _ verb named
owned Geostore (word ∷ words) verb named = attributes _ _ _ _ verb named
owned BoothFollow (word ∷ words) verb named = same_owner verbs.Follow verb named

-- a client's command is one of a client
owns_client : (verb : Verb) (read : Read) (asked : ClientWords) → IsClientOf verb read asked → IsClient (owner verb)
owns_client verbs.Daemon read asked is = is.order
owns_client verbs.Status read asked is = is.order
owns_client verbs.Simulate read asked is = is.order
owns_client verbs.Audit read asked is = is.order
owns_client verbs.List read asked is = tt
owns_client verbs.Show read asked is = tt
owns_client verbs.Peers read asked is = tt
owns_client verbs.DaemonStatus read asked is = tt
owns_client verbs.Grant read asked is = tt
owns_client verbs.Revoke read asked is = tt
owns_client verbs.Move read asked is = tt
owns_client verbs.SetAttribute read asked is = tt
owns_client verbs.GetAttribute read asked is = tt
owns_client verbs.DeleteAttribute read asked is = tt
owns_client verbs.ListAttributes read asked is = tt
owns_client verbs.Follow read asked is = is.order

client_asked : (program : Program) (words : List (List ℕ)) (verb : Verb) (read : Read) (asked : ClientWords) → AreTaken program words verb read →
    IsClientOf verb read asked → Asks program words (Ok (Client asked))
client_asked program words verb read asked taken is =
    (subst IsClient (sym (owned program words verb taken.named)) (owns_client verb read asked is), record { verb = verb; all = read; asks = taken; same = is })

asked_by : (program : Program) (words : List (List ℕ)) (verb : Verb) (read : Read) (asked : Asked) → AreTaken program words verb read → IsAskedBy verb read asked →
    Asks program words (Ok asked)
asked_by program words verbs.Daemon read (Client asked) taken is = client_asked program words verbs.Daemon read asked taken is
asked_by program words verbs.Status read (Client asked) taken is = client_asked program words verbs.Status read asked taken is
asked_by program words verbs.Simulate read (Client asked) taken is = client_asked program words verbs.Simulate read asked taken is
asked_by program words verbs.Audit read (Client asked) taken is = client_asked program words verbs.Audit read asked taken is
asked_by program words verbs.List read (Client asked) taken is = client_asked program words verbs.List read asked taken is
asked_by program words verbs.Show read (Client asked) taken is = client_asked program words verbs.Show read asked taken is
asked_by program words verbs.Peers read (Client asked) taken is = client_asked program words verbs.Peers read asked taken is
asked_by program words verbs.DaemonStatus read (Client asked) taken is = client_asked program words verbs.DaemonStatus read asked taken is
asked_by program words verbs.Grant read (Client asked) taken is = client_asked program words verbs.Grant read asked taken is
asked_by program words verbs.Revoke read (Client asked) taken is = client_asked program words verbs.Revoke read asked taken is
asked_by program words verbs.Move read (Client asked) taken is = client_asked program words verbs.Move read asked taken is
asked_by program words verbs.SetAttribute read (Client asked) taken is = client_asked program words verbs.SetAttribute read asked taken is
asked_by program words verbs.GetAttribute read (Client asked) taken is = client_asked program words verbs.GetAttribute read asked taken is
asked_by program words verbs.DeleteAttribute read (Client asked) taken is = client_asked program words verbs.DeleteAttribute read asked taken is
asked_by program words verbs.ListAttributes read (Client asked) taken is = client_asked program words verbs.ListAttributes read asked taken is
asked_by program words verbs.Follow read (Client asked) taken is = client_asked program words verbs.Follow read asked taken is
asked_by program words verbs.Daemon read (Daemon asked) taken is =
    let own : program ≡ Boothd = owned program words verbs.Daemon taken.named in
    (own, record { all = read; asks = subst (λ p. AreTaken p words verbs.Daemon read) own taken; same = is })
asked_by program words verbs.Status read (Status lock) taken is =
    let own : program ≡ Boothd = owned program words verbs.Status taken.named in
    (own, record { all = read; asks = subst (λ p. AreTaken p words verbs.Status read) own taken; same = is })
asked_by program words verbs.Simulate read (Simulation asked) taken is =
    let own : program ≡ Boothd = owned program words verbs.Simulate taken.named in
    (own, record { all = read; asks = subst (λ p. AreTaken p words verbs.Simulate read) own taken; same = is })
asked_by program words verbs.Audit read (Audit asked) taken is =
    let own : program ≡ Boothd = owned program words verbs.Audit taken.named in
    (own, record { all = read; asks = subst (λ p. AreTaken p words verbs.Audit read) own taken; same = is })
asked_by program words verbs.Move read (Move asked) taken is =
    let own : program ≡ Booth = owned program words verbs.Move taken.named in
    (own, record { all = read; asks = subst (λ p. AreTaken p words verbs.Move read) own taken; same = is })
asked_by program words verbs.Follow read (Follow asked) taken is =
    let own : program ≡ BoothFollow = owned program words verbs.Follow taken.named in
    (own, record { all = read; asks = subst (λ p. AreTaken p words verbs.Follow read) own taken; same = is })
asked_by program words verb read asked taken is = absurd is

-- words that were taken and read
pub asks : (program : Program) (words : List (List ℕ)) (verb : Verb) (t : Texts) (read : Read) (asked : Asked) → verb_in program words ≡ Some verb →
    fault_of (app_for verb) words ≡ [] → t ≡ found_in verb words → IsRead t read → IsAskedBy verb read asked →
    Asks program words (Ok asked)
asks program words verb t read asked named taken same is by =
    asked_by program words verb read asked (record { named = named; taken = taken; says = subst (λ t. IsRead t read) same is }) by

-- words that a command does not take, or for which there was no memory
pub untaken : (program : Program) (words : List (List ℕ)) (verb : Verb) (kind : ErrorKind) → verb_in program words ≡ Some verb →
    (kind ≡ kinds.OutOfMemory) ⊎ IsAmong kind (fault_of (app_for verb) words) →
    (takes (app_for verb) words ≡ true → kind ≡ kinds.OutOfMemory) → IsUntakenFor program words kind
untaken program words verb kinds.OutOfMemory named among passes = record { verb = verb; named = named }
untaken program words verb kind named (inl memory) passes = cc
untaken program words verb kind named (inr among) passes = record {
  verb = verb;
  named = named;
  among = among;
  untaken = λ takes. let memory = passes takes in cc;
}

-- what is no want of memory is a fault of the words
pub untaken_of : (program : Program) (words : List (List ℕ)) (kind : ErrorKind) → (kind ≡ kinds.OutOfMemory → ⊥) → IsUntakenFor program words kind →
    IsUntaken program words kind
untaken_of program words kinds.OutOfMemory not un = absurd (not refl)
untaken_of program words kind not un = un

-- where there was no memory for the words, or their command does not take them, there is a command
pub untaken_named : (program : Program) (words : List (List ℕ)) (kind : ErrorKind) → IsUntakenFor program words kind → NamesCommand program words
untaken_named program words kinds.OutOfMemory un = un
untaken_named program words kind un = record { verb = un.verb; named = un.named }

-- so there is where it takes them
pub taken_named : (program : Program) (words : List (List ℕ)) (verb : Verb) (read : Read) → AreTaken program words verb read → NamesCommand program words
taken_named program words verb read taken = record { verb = verb; named = taken.named }

-- ---- what a command asks for

is_client : (verb : Verb) (read : Read) (asked : ClientWords) → IsClientOf verb read asked → IsAskedBy verb read (Client asked)
is_client verbs.Daemon read asked is = is
is_client verbs.Status read asked is = is
is_client verbs.Simulate read asked is = is
is_client verbs.Audit read asked is = is
is_client verbs.List read asked is = is
is_client verbs.Show read asked is = is
is_client verbs.Peers read asked is = is
is_client verbs.DaemonStatus read asked is = is
is_client verbs.Grant read asked is = is
is_client verbs.Revoke read asked is = is
is_client verbs.Move read asked is = is
is_client verbs.SetAttribute read asked is = is
is_client verbs.GetAttribute read asked is = is
is_client verbs.DeleteAttribute read asked is = is
is_client verbs.ListAttributes read asked is = is
is_client verbs.Follow read asked is = is

-- a client's command asks for its order
pub asks_client : (verb arm : Verb) (read : Read) (order : Order) (asked : ClientWords) → verb ≡ arm →
    HasOrder arm read order → asked ≡ client_of order read → IsAskedBy verb read (Client asked)
asks_client verb arm read order asked is has same =
    is_client verb read asked (record {
      order = subst (λ (v : Verb). HasOrder v read asked.order) (sym is)
          (subst (λ (o : Order). HasOrder arm read o) (sym (ap (λ (w : ClientWords). w.order) same)) has);
      site = ap (λ (w : ClientWords). w.site) same;
      conf = ap (λ (w : ClientWords). w.conf) same;
    })
